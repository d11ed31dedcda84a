use Rattle.ledger.proofs.Theorem.{sound_interpolate}
use Rattle.ledger.proofs.laws.sound_ledgers_interpolate.Goals as goal

pub returns : goal.returns
returns g c = sound_interpolate g.K.Kind.group g.met.K.Kind.lawful
