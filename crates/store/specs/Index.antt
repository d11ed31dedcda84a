-- The index of the records, which is a hash table with linear probing. It is a list of entries: the entry of number i has the
-- slot i of the hash table, and of the record i the point and the home, which is the slot that leads to it.
use Rattle.std.specs.Prelude.{◌≡◌, ℕ, ◌+◌, ◌-◌, ◌*◌, ◌/◌, ◌%◌, ◌^◌, ◌<◌, ◌≤◌, Bool, true, false, cond, List, length, Some, None, Option, ◌≢◌, nat_lt, slice_index_or}
use Rattle.store.specs.declared.entry.Entry.{Entry}
use Rattle.store.specs.declared.entry.Slot.{Slot}
use Rattle.store.specs.declared.entry.Slot.TheVariants.{Empty, Gone, At}

-- an entry with an empty slot
abbrev pub blank : Entry
blank = record { slot = Empty; point = 0; home = 0 }

-- the slot of number j
abbrev pub slot_at : List Entry → ℕ → Slot
slot_at es j = (slice_index_or es j blank).slot

-- the point of record i
abbrev pub point_at : List Entry → ℕ → ℕ
point_at es i = (slice_index_or es i blank).point

-- the home of record i
abbrev pub home_at : List Entry → ℕ → ℕ
home_at es i = (slice_index_or es i blank).home

-- the slot at which the search for a point begins, of n slots
unfoldable pub start_of : ℕ → ℕ → ℕ
start_of p n = ((p * 2654435769) % 2 ^ 32) % n

-- no slot that a search passes on its way from a to h is empty
pub record Way (es : List Entry) (a h : ℕ) : Type 0 where
  pub up : (k : ℕ) → a ≤ k → k < h → slot_at es k ≢ Empty
  pub round : (k : ℕ) → h < a → a ≤ k → k < length es → slot_at es k ≢ Empty
  pub low : (k : ℕ) → h < a → k < h → slot_at es k ≢ Empty

-- the slots lead to the first `used` records and to nothing else, no two records have one point, and a search for a record's
-- point comes to its home
pub record Index (es : List Entry) (used : ℕ) : Type 0 where
  pub fits : used ≤ length es
  pub inside : (i : ℕ) → i < used → home_at es i < length es
  pub there : (i : ℕ) → i < used → slot_at es (home_at es i) ≡ At i
  pub back : (j i : ℕ) → slot_at es j ≡ At i → (i < used) × (home_at es i ≡ j)
  pub apart : (i j : ℕ) → i < used → j < used → point_at es i ≡ point_at es j → i ≡ j
  pub ways : (i : ℕ) → i < used → Way es (start_of (point_at es i) (length es)) (home_at es i)

-- no record has the point p
abbrev pub Absent : List Entry → ℕ → ℕ → Type 0
Absent es used p = (i : ℕ) → i < used → point_at es i ≢ p

-- record i has the point p
abbrev pub Place : List Entry → ℕ → ℕ → ℕ → Type 0
Place es used p i = (i < used) × (point_at es i ≡ p)

-- no slot from a to b leads to a record with the point p
abbrev pub Clear : List Entry → ℕ → ℕ → ℕ → Type 0
Clear es p a b = (k i : ℕ) → a ≤ k → k < b → slot_at es k ≡ At i → point_at es i ≢ p

-- how a search for p ends in the slots from a to b: at its record, at an empty slot, or not there
abbrev pub Scanned : List Entry → ℕ → ℕ → ℕ → ℕ → Option (Option ℕ) → Type 0
Scanned es used p a b (Some (Some i)) = Place es used p i
Scanned es used p a b (Some None) = (j : ℕ) × (a ≤ j) × (j < b) × (slot_at es j ≡ Empty) × Clear es p a j
Scanned es used p a b None = Clear es p a b

-- whether a slot leads to a record
abbrev pub taken : Slot → Bool
taken Empty = false
taken Gone = false
taken (At i) = true

-- each slot from a to b is taken
abbrev pub Taken : List Entry → ℕ → ℕ → Type 0
Taken es a b = (k : ℕ) → a ≤ k → k < b → taken (slot_at es k) ≡ true

-- j is the first slot from a to b that is not taken
abbrev pub Vacancy : List Entry → ℕ → ℕ → ℕ → Type 0
Vacancy es a b j = (a ≤ j) × (j < b) × (taken (slot_at es j) ≡ false) × Taken es a j

-- j is the first slot that is not taken, on the way from a
pub record Free (es : List Entry) (a j : ℕ) : Type 0 where
  pub inside : j < length es
  pub vacant : taken (slot_at es j) ≡ false
  pub up : Taken es a j
  pub round : j < a → Taken es a (length es)
  pub low : j < a → Taken es 0 j

-- one record more, with the point p
pub record Added (es fs : List Entry) (used p : ℕ) : Type 0 where
  pub index : Index fs (used + 1)
  pub len : length fs ≡ length es
  pub last : point_at fs used ≡ p
  pub others : (i : ℕ) → (i ≢ used) → point_at fs i ≡ point_at es i

-- record i is dropped, and the last is in its place
pub record Dropped (es fs : List Entry) (used i : ℕ) : Type 0 where
  pub index : Index fs (used - 1)
  pub len : length fs ≡ length es
  pub moved : i < used - 1 → point_at fs i ≡ point_at es (used - 1)
  pub others : (k : ℕ) → k < used - 1 → (k ≢ i) → point_at fs k ≡ point_at es k

-- the same points, and an index of the first `used` records
pub record Rehashed (es fs : List Entry) (used : ℕ) : Type 0 where
  pub index : Index fs used
  pub len : length fs ≡ length es
  pub points : (k : ℕ) → point_at fs k ≡ point_at es k

-- the removals since the hash table was made, after one more: it is made anew once a quarter of its n slots may be gone
abbrev pub worn_after : ℕ → ℕ → ℕ
worn_after worn n = cond (nat_lt worn (n / 4)) (worn + 1) 0
