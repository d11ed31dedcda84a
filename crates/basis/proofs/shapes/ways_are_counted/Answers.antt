use Rattle.basis.proofs.Counts.{all_ways}
use Rattle.basis.proofs.shapes.ways_are_counted.Goals as goal

pub returns : goal.returns
returns c = all_ways
