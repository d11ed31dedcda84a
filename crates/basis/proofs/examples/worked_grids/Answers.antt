use Rattle.basis.proofs.Worked.{worked_grids_lem}
use Rattle.basis.proofs.examples.worked_grids.Goals as goal

pub returns : goal.returns
returns c = worked_grids_lem
