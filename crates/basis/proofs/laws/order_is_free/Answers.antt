use Rattle.basis.proofs.Local.{order_free}
use Rattle.basis.proofs.laws.order_is_free.Goals as goal

pub returns : goal.returns
returns g c = order_free g.K.Kind.group g.met.K.Kind.lawful
