use Rattle.basis.proofs.Theorems.{reconstruction}
use Rattle.basis.proofs.laws.samples_are_reconstructed.Goals as goal

pub returns : goal.returns
returns g c = reconstruction g.K.Kind.group g.met.K.Kind.lawful
