use Rattle.basis.proofs.Ways.{by_directions}
use Rattle.basis.proofs.laws.surplus_goes_by_directions.Goals as goal

pub returns : goal.returns
returns g c = by_directions g.K.Kind.group g.met.K.Kind.lawful
