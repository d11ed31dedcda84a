-- The point and the state of a record in use are its item, and past those there is none.
use Rattle.std.proofs.Common.{sym, arith}
use Rattle.std.proofs.lemmas.Option.{slice_get_past}
use Rattle.store.specs.Contents.{items}
use Rattle.store.proofs.Changes.{count}
use Rattle.store.proofs.States.{item_at}
use Rattle.store.proofs.Store.at.Goals as goal

pub returns-then-i-self : goal.returns-then-i-self
unfolding items
returns-then-i-self g c =
    let m = c.args.self.now in
    item_at m.table.entries.now m.records.now m.table.used c.args.i _ _ _ (omega arith) (omega arith) (omega arith) (omega arith) (omega arith)

pub returns-else-i-self : goal.returns-else-i-self
returns-else-i-self g c = sym (slice_get_past (items c.args.self.now) c.args.i (omega (arith, count c.args.self.now)))
