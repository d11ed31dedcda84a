-- The theorem on children.
use Rattle.points.proofs.Hierarchy.{child_by_parent}
use Rattle.points.proofs.axis.children_are_those_with_this_parent.Goals as goal

pub returns : goal.returns
returns c = child_by_parent
