use Rattle.ledger.proofs.Theorem.{guarantees}
use Rattle.ledger.proofs.laws.every_course_is_guaranteed.Goals as goal

pub returns : goal.returns
returns g c = guarantees g.K.Kind.group g.met.K.Kind.lawful
