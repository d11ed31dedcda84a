-- What a store holds, as a list of items: points with their states. The order of the items is open.
use Rattle.std.specs.Prelude.{◌≡◌, ℕ, ◌+◌, ◌<◌, Bool, true, false, cond, List, [], ◌∷◌, length, Some, None, Ok, Err, Option, Result, ◌==◌, nat_eq, nat_le, ◌≢◌}
use Rattle.std.specs.Map.{update}
use Rattle.store.specs.declared.fault.InsertFault.{InsertFault}
use Rattle.store.specs.declared.fault.InsertFault.TheVariants.{Known, Full}

-- the state that the items have for the point p
unfoldable pub look : {S : Type 0} → List (ℕ × S) → ℕ → Option S
look [] p = None
look (x ∷ xs) p = cond (p == x.0) (Some x.1) (look xs p)

-- the capacity: as many points as are asked for, where both slices are that long, and else none
abbrev pub room_for : ℕ → ℕ → ℕ → ℕ
room_for n records entries = cond (nat_le n records) (cond (nat_le n entries) n 0) 0

-- from the items xs to the items ys: the point p, which had no state, has the state s
pub record Inserted {S : Type 0} (xs ys : List (ℕ × S)) (p : ℕ) (s : S) : Type 0 where
  pub fresh : look xs p ≡ None
  pub states : (q : ℕ) → look ys q ≡ update nat_eq (look xs) p (Some s) q
  pub count : length ys ≡ length xs + 1

-- the point p, which had a state, has the state s
pub record Replaced {S : Type 0} (xs ys : List (ℕ × S)) (p : ℕ) (s : S) : Type 0 where
  pub known : look xs p ≢ None
  pub states : (q : ℕ) → look ys q ≡ update nat_eq (look xs) p (Some s) q
  pub count : length ys ≡ length xs

-- the point p, which had a state, has none
pub record Removed {S : Type 0} (xs ys : List (ℕ × S)) (p : ℕ) : Type 0 where
  pub known : look xs p ≢ None
  pub states : (q : ℕ) → look ys q ≡ update nat_eq (look xs) p None q
  pub count : length ys + 1 ≡ length xs

-- whether there is a state and it is picked
abbrev pub is_picked : {S : Type 0} → (S → Bool) → Option S → Bool
is_picked f None = false
is_picked f (Some s) = f s

-- nothing in place of a state that is picked
abbrev pub unpicked : {S : Type 0} → (S → Bool) → Option S → Option S
unpicked f o = cond (is_picked f o) None o

-- the points whose states were picked, n of them, have none
pub record Weeded {S : Type 0} (xs ys : List (ℕ × S)) (f : S → Bool) (n : ℕ) : Type 0 where
  pub states : (q : ℕ) → look ys q ≡ unpicked f (look xs q)
  pub count : length ys + n ≡ length xs

-- why an insertion is refused, with room for n items
abbrev pub Cause : {S : Type 0} → List (ℕ × S) → ℕ → ℕ → InsertFault → Type 0
Cause xs n p Known = look xs p ≢ None
Cause xs n p Full = (look xs p ≡ None) × (length xs ≡ n)

-- what an insertion answers, with room for n items: a refusal alters nothing
abbrev pub InsertAnswer : {S : Type 0} → List (ℕ × S) → List (ℕ × S) → ℕ → ℕ → S → Result (Unit {0}) InsertFault → Type 0
InsertAnswer xs ys n p s (Ok u) = (length xs < n) × Inserted xs ys p s
InsertAnswer xs ys n p s (Err e) = Cause xs n p e × (ys ≡ xs)

-- what a replacement answers
abbrev pub ReplaceAnswer : {S : Type 0} → List (ℕ × S) → List (ℕ × S) → ℕ → S → Bool → Type 0
ReplaceAnswer xs ys p s true = Replaced xs ys p s
ReplaceAnswer xs ys p s false = (look xs p ≡ None) × (ys ≡ xs)

-- what a removal answers
abbrev pub RemoveAnswer : {S : Type 0} → List (ℕ × S) → List (ℕ × S) → ℕ → Bool → Type 0
RemoveAnswer xs ys p true = Removed xs ys p
RemoveAnswer xs ys p false = (look xs p ≡ None) × (ys ≡ xs)
