-- Each example is computed.
use Rattle.std.proofs.Common.{rules}
use lib.Count.{count_trailing_zeros}
use Rattle.points.specs.Axis.{zeros, width, level, index, left, right, parent}
use Rattle.points.specs.Points.{coords, number, is_point, level_sum, replaced, parent_in, parents}
use Rattle.points.proofs.examples.worked_examples.Goals as goal

pub returns : goal.returns
unfolding count_trailing_zeros zeros width level index left right parent coords number is_point level_sum replaced parent_in parents
returns c = search rules
