-- The items of a store are a finite map.
use Rattle.store.proofs.Facts.{holds}
use Rattle.store.proofs.Store.facts.Goals as goal

pub returns : goal.returns
returns g c = holds c.args.self.now
