-- The theorem on numbers and coordinates.
use Rattle.points.proofs.Points.{numbered}
use Rattle.points.proofs.point.numbers_and_coordinates_agree.Goals as goal

pub returns : goal.returns
returns c = numbered
