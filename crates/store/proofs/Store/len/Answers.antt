-- There are as many items as records in use.
use Rattle.std.proofs.Common.{sym}
use Rattle.store.proofs.Changes.{count}
use Rattle.store.proofs.Store.len.Goals as goal

pub returns : goal.returns
returns g c = sym (count c.args.self.now)
