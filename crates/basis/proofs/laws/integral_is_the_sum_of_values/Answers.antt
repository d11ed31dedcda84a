use Rattle.basis.proofs.Theorems.{integration}
use Rattle.basis.proofs.laws.integral_is_the_sum_of_values.Goals as goal

pub returns : goal.returns
returns g c = integration g.K.Kind.group g.met.K.Kind.lawful
