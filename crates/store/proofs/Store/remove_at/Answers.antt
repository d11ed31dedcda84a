-- The table without the record, and the states with the last one moved.
use Rattle.std.proofs.Common.{◌-◌, arith}
use Rattle.store.specs.Contents.{items}
use Rattle.store.proofs.States.{written_from}
use Rattle.store.proofs.Changes.{removed}
use Rattle.store.proofs.Store.remove_at.Goals as goal

pub returns-clause-removed : goal.returns-clause-removed
unfolding items
returns-clause-removed g c =
    let m = c.args.self.now in
    removed m c.remove.new.self.entries.now _ c.remove.new.self.used c.args.i c.requires c.remove.ensures.dropped
    (written_from m.records.now c.args.i (m.table.used - 1) c.index-self-self.result (omega arith) (omega arith)) c.remove.ensures.used
