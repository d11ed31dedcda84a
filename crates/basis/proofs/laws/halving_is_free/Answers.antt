use Rattle.basis.proofs.Theorems.{halving_free}
use Rattle.basis.proofs.laws.halving_is_free.Goals as goal

pub returns : goal.returns
returns g c = halving_free g.K.Kind.group g.met.K.Kind.lawful
