-- A way of a search stays free of empty slots.
use Rattle.std.proofs.Common.{◌≡◌, ℕ, List, length, arith}
use Rattle.store.specs.Index.{Way, slot_at}
use Rattle.store.specs.declared.entry.Entry.{Entry}
use Rattle.store.specs.declared.entry.Slot.TheVariants.{Empty}

-- a way stays where no slot becomes empty
pub way_kept : (es fs : List Entry) (a b h g : ℕ) → length fs ≡ length es → a ≡ b → h ≡ g
    → ((k : ℕ) → (slot_at es k ≡ Empty → ⊥) → slot_at fs k ≡ Empty → ⊥) → Way es a h → Way fs b g
way_kept es fs a b h g len ea eh keep w = record {
  up = λ k l m. keep k (w.up k (omega arith) (omega arith));
  round = λ k n l m. keep k (w.round k (omega arith) (omega arith) (omega arith));
  low = λ k n l. keep k (w.low k (omega arith) (omega arith));
}
