use Rattle.ledger.proofs.Counts.{counts_points}
use Rattle.ledger.proofs.laws.counts_are_of_points.Goals as goal

pub returns : goal.returns
returns g c H = counts_points H.fits
