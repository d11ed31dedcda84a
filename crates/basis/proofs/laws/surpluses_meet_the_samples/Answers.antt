use Rattle.basis.proofs.Theorems.{existence}
use Rattle.basis.proofs.laws.surpluses_meet_the_samples.Goals as goal

pub returns : goal.returns
returns g c = existence g.K.Kind.group g.met.K.Kind.lawful
