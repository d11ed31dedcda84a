use Rattle.ledger.proofs.Refused.{refusals_leave}
use Rattle.ledger.proofs.laws.refusals_leave_the_ledger.Goals as goal

pub returns : goal.returns
returns g c H = refusals_leave H.fits
