use Rattle.basis.proofs.Theorems.{uniqueness}
use Rattle.basis.proofs.laws.surpluses_are_unique.Goals as goal

pub returns : goal.returns
returns g c = uniqueness g.K.Kind.group g.met.K.Kind.lawful
