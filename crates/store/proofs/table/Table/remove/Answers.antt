-- The last record moves into the place of the one that is dropped.
use Rattle.store.proofs.Dropping.{removed, dropped_anew}
use Rattle.store.proofs.table.Table.remove.Goals as goal

pub invariant_of-self : goal.invariant_of-self
invariant_of-self c =
    let t = c.args.self.now in
    record { sound = (removed t.entries.now t.used c.args.i t.sound c.requires).index }

pub returns-clause-dropped : goal.returns-clause-dropped
returns-clause-dropped c =
    let t = c.args.self.now in
    dropped_anew t.entries.now _ c.wear.new.self.entries.now t.used c.args.i (removed t.entries.now t.used c.args.i t.sound c.requires) c.wear.ensures.rehashed
