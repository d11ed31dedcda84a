use Rattle.ledger.proofs.Worked.{worked_courses_lem}
use Rattle.ledger.proofs.examples.worked_courses.Goals as goal

pub returns : goal.returns
returns c = worked_courses_lem
