use Rattle.basis.proofs.Theorems.{exact_halves}
use Rattle.basis.proofs.laws.halvings_are_exact.Goals as goal

pub returns : goal.returns
returns g c = exact_halves g.K.Kind.group g.met.K.Kind.lawful
