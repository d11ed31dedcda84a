-- The records before the counter have their slots, and every point is as it was.
use Rattle.std.proofs.Common.{◌≡◌}
use Rattle.store.specs.Index.{Rehashed}
use Rattle.store.proofs.table.Table.rebuild.Given as goal

abbrev pub invariant-loop-i : goal.invariant-loop-i
invariant-loop-i l = record {
  used : l.self.used ≡ l.i;
  rehashed : Rehashed l.fn.self.entries.now l.self.entries.now l.i;
  worn : l.self.worn ≡ 0;
}
