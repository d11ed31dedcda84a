-- What a search in the table says of a point.
use Rattle.std.proofs.Common.{◌≡◌, ℕ, true, false, Some, None, Option, MatchOption, is_some, arith}
use Rattle.std.specs.List.{slice_get}
use Rattle.store.specs.Index.{Absent, Place}
use Rattle.store.specs.Items.{look}
use Rattle.store.specs.Contents.{items}
use Rattle.store.specs.declared.Store.{Store}
use Rattle.store.proofs.States.{look_absent, found, not_none}

module _ {S : Type 0} (m : Store S) (p : ℕ) where
  -- a point with no record has no state
  pub unknown : Absent m.table.entries.now m.table.used p → look (items m) p ≡ None
  unfolding items
  unknown h = look_absent m.table.entries.now m.records.now m.table.used p h

  -- a point with a record has the state there
  pub state_of : (i : ℕ) → Place m.table.entries.now m.table.used p i → look (items m) p ≡ slice_get m.records.now i
  unfolding items
  state_of i h = found m.table.entries.now m.records.now m.table.used m.table.sound (omega arith) i p h.0 h.1

  -- so it has one
  pub known : (i : ℕ) → Place m.table.entries.now m.table.used p i → look (items m) p ≡ None → ⊥
  unfolding items
  known i h = not_none m.table.entries.now m.records.now m.table.used m.table.sound (omega arith) p i h.0 (state_of i h)

  -- what a search says, by whether it finds a record
  pub known_if : (r : Option ℕ) → MatchOption r (Absent m.table.entries.now m.table.used p) (Place m.table.entries.now m.table.used p) → is_some r ≡ true → look (items m) p ≡ None → ⊥
  known_if None h e = let z : ◌≡◌ {A = ℕ} 0 1 = cc in absurd (omega arith)
  known_if (Some i) h e = known i h

  pub absent_if : (r : Option ℕ) → MatchOption r (Absent m.table.entries.now m.table.used p) (Place m.table.entries.now m.table.used p) → is_some r ≡ false → Absent m.table.entries.now m.table.used p
  absent_if None h e = h
  absent_if (Some i) h e = let z : ◌≡◌ {A = ℕ} 0 1 = cc in absurd (omega arith)
