-- What is claimed of parents and children.
use Rattle.std.specs.Prelude.{◌≡◌, ℕ, ◌+◌, ◌≤◌, true, ◌⊎◌, Some, None, Option, ◌≢◌}
use Rattle.points.specs.Axis.{level, left, right, inner, parent, children}

-- q is a neighbour of k and one level above, and the other neighbour is not
pub record SoleUp (k q : ℕ) : Type 0 where
  pub inside : inner q ≡ true
  pub higher : level q + 1 ≡ level k
  pub side : ((q ≡ left k) × (level (right k) + 1 ≢ level k)) ⊎ ((q ≡ right k) × (level (left k) + 1 ≢ level k))

-- at level 2 or more exactly one neighbour is one level above, and it is the parent; only 64 has a lower level, and it has no parent
pub record OneLevelUp : Type 0 where
  pub deep : (k : ℕ) → inner k ≡ true → (k ≢ 64) → 2 ≤ level k
  pub sole : (k : ℕ) → inner k ≡ true → 2 ≤ level k → (q : ℕ) × (parent k ≡ Some q) × SoleUp k q
  pub top : parent 64 ≡ None

-- q is one of the two
abbrev pub Among : ℕ → Option (ℕ × ℕ) → Type 0
Among q None = ⊥
Among q (Some c) = (q ≡ c.0) ⊎ (q ≡ c.1)

-- the children of k are the coordinates whose parent is k
pub record ChildByParent : Type 0 where
  pub only : (k q : ℕ) → parent q ≡ Some k → Among q (children k)
  pub all : (k q : ℕ) → Among q (children k) → parent q ≡ Some k
