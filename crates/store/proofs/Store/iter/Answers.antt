-- The first entries beside the first records are the items.
use Rattle.std.proofs.Common.{length, ap, arith}
use Rattle.store.specs.Contents.{items}
use Rattle.store.proofs.Changes.{count}
use Rattle.store.proofs.States.{held_front}
use Rattle.store.proofs.Store.iter.Goals as goal

pub returns-clause-items : goal.returns-clause-items
unfolding items
returns-clause-items g c = held_front c.args.self.now.table.entries.now c.args.self.now.records.now c.args.self.now.table.used

pub returns-clause-bound : goal.returns-clause-bound
unfolding items
returns-clause-bound g c =
    let m = c.args.self.now in
    let e = ap length (held_front m.table.entries.now m.records.now m.table.used) in
    omega (arith, e, count m)
