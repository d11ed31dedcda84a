-- The bounds hold in every group with its laws.
use Rattle.hats.proofs.Terms.{bounded}
use Rattle.hats.proofs.bounds.sizes_are_bounded.Goals as goal

pub returns : goal.returns
returns g c = bounded g.K.Kind.group g.met.K.Kind.lawful
