use Rattle.basis.proofs.Parents.{parents_by_direction}
use Rattle.basis.proofs.shapes.parents_go_by_directions.Goals as goal

pub returns : goal.returns
returns c = parents_by_direction
