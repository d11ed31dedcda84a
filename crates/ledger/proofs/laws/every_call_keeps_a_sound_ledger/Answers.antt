use Rattle.ledger.proofs.Soundness.{stays_sound}
use Rattle.ledger.proofs.laws.every_call_keeps_a_sound_ledger.Goals as goal

pub returns : goal.returns
returns g c H = stays_sound H.fits
