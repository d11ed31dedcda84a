-- The theorem on parents.
use Rattle.points.proofs.Hierarchy.{one_level_up}
use Rattle.points.proofs.axis.exactly_one_neighbour_is_a_level_up.Goals as goal

pub returns : goal.returns
returns c = one_level_up
