-- What a store is to its users: its items, the state of each point, and its capacity.
use Rattle.std.specs.Prelude.{◌≡◌, ℕ, ◌≤◌, List, length, map, Some, Option}
use Rattle.std.specs.List.{slice_get, zip}
use Rattle.store.specs.declared.Store.{Store}
use Rattle.store.specs.declared.items.Items.{Items}
use Rattle.store.specs.Items.{look}
use Rattle.store.specs.Layout.{held}

-- what it holds, in an order that is open
unfoldable pub items : {S : Type 0} → Store S → List (ℕ × S)
items m = held m.table.entries.now m.records.now m.table.used

-- what an iterator over the items has still to yield
abbrev pub left : {S : Type 0} → Items S → List (ℕ × S)
left i = zip (map (λ e. e.point) i.entries.now) i.records.now

-- how many points it can hold
unfoldable pub capacity : {S : Type 0} → Store S → ℕ
capacity m = m.room

-- the state of the point p
abbrev pub status : {S : Type 0} → Store S → ℕ → Option S
status m p = look (items m) p

-- the items are a finite map: there are at most as many as the capacity, no two have one point, each is the state of its point,
-- and each point with a state is among them
pub record Holds {S : Type 0} (m : Store S) : Type 0 where
  pub fits : length (items m) ≤ capacity m
  pub apart : (i j p : ℕ) (s t : S) → slice_get (items m) i ≡ Some (p, s) → slice_get (items m) j ≡ Some (p, t) → i ≡ j
  pub each : (i p : ℕ) (s : S) → slice_get (items m) i ≡ Some (p, s) → status m p ≡ Some s
  pub all : (p : ℕ) (s : S) → status m p ≡ Some s → (i : ℕ) × (slice_get (items m) i ≡ Some (p, s))
