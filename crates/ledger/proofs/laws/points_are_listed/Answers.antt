use Rattle.ledger.proofs.Places.{listed_points}
use Rattle.ledger.proofs.laws.points_are_listed.Goals as goal

pub returns : goal.returns
returns c = listed_points
