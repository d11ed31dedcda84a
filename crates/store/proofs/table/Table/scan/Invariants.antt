-- No slot that was passed leads to a record with the point.
use Rattle.std.proofs.Common.{◌+◌}
use Rattle.store.specs.Index.{Clear}
use Rattle.store.proofs.table.Table.scan.Given as goal

abbrev pub invariant-loop-e : goal.invariant-loop-e
invariant-loop-e l = Clear l.self.entries.now l.p l.from (l.from + l.e-index)
