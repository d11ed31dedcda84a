-- The slots before the counter are empty, and every point is as it was.
use Rattle.std.proofs.Common.{◌≡◌, ℕ, ◌<◌}
use Rattle.store.specs.Index.{slot_at, point_at}
use Rattle.store.specs.declared.entry.Slot.TheVariants.{Empty}
use Rattle.store.proofs.table.wipe.Given as goal

abbrev pub invariant-loop-e : goal.invariant-loop-e
invariant-loop-e l = ((k : ℕ) → k < l.e-index → slot_at l.e-items k ≡ Empty) × ((k : ℕ) → point_at l.e-items k ≡ point_at l.fn.es k)
