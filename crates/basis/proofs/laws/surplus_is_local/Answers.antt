use Rattle.basis.proofs.Local.{locality}
use Rattle.basis.proofs.laws.surplus_is_local.Goals as goal

pub returns : goal.returns
returns g c = locality g.K.Kind.group g.met.K.Kind.lawful
