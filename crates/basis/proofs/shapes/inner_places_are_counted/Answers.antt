use Rattle.basis.proofs.Counts.{inner_places}
use Rattle.basis.proofs.shapes.inner_places_are_counted.Goals as goal

pub returns : goal.returns
returns c = inner_places
