-- What the theorems in several dimensions ask of an axis.
use Rattle.std.proofs.Common.{◌≡◌, ℕ, suc, ◌+◌, ◌-◌, ◌*◌, ◌^◌, ◌<◌, ◌≤◌, cond, eqb, ◌⊎◌, List, [], ◌∷◌, sum_by, Some, None, Option}
use Rattle.basis.specs.Lists.{IsIn, AllDistinct}
use Rattle.basis.specs.Axis.{Axis}

-- j is a neighbour of k
abbrev pub Neighbour : Axis → ℕ → ℕ → Type 0
Neighbour a k j = (a.left k ≡ Some j) ⊎ (a.right k ≡ Some j)

-- f at a coordinate, and 0 on the border
abbrev pub at : Option ℕ → (ℕ → ℕ) → ℕ
at None f = 0
at (Some k) f = f k

-- the hat of k at y, in parts of 2 ^ top
unfoldable pub fine : Axis → ℕ → ℕ → ℕ → ℕ
fine a top k y = a.numerator k y * 2 ^ (top - a.exponent k)

-- a number at k alone
unfoldable pub spike : ℕ → ℕ → ℕ → ℕ
spike top k j = cond (eqb k j) (2 ^ suc top) 0

-- a parent of k that lies in the hat of j
pub record Above (a : Axis) (j k : ℕ) : Type 0 where
  pub up : ℕ
  pub is_parent : IsIn up (a.parents k)
  pub listed : IsIn up a.coords
  pub under : 0 < a.numerator j up
  pub higher : a.level up < a.level k

-- The greatest width is 2^top. `dual`: the second difference of a hat is a spike. `climb`: parents lead from k up to each
-- coordinate whose hat is not zero at k. `whole`: the sum over the coordinates, each by its share of 2^unit, is the integral.
pub record Lawful (a : Axis) : Type 0 where
  pub distinct : AllDistinct a.coords
  pub top : ℕ
  pub narrow : (k : ℕ) → IsIn k a.coords → a.exponent k ≤ top
  pub dual : (k j : ℕ) → IsIn k a.coords → IsIn j a.coords → 2 * fine a top j k ≡ at (a.left k) (fine a top j) + at (a.right k) (fine a top j) + spike top k j
  pub lower : (k j : ℕ) → IsIn k a.coords → Neighbour a k j → a.level j < a.level k
  pub near : (k j : ℕ) → IsIn k a.coords → Neighbour a k j → IsIn j a.coords × (0 < a.numerator j k)
  pub climb : (j k : ℕ) → IsIn j a.coords → IsIn k a.coords → 0 < a.numerator j k → (j ≡ k) ⊎ Above a j k
  pub share : ℕ → ℕ
  pub unit : ℕ
  pub whole : (k : ℕ) → IsIn k a.coords → sum_by (λ y. share y * fine a top k y) a.coords * 2 ^ a.scale k ≡ 2 ^ (top + unit)

-- each axis of a list is lawful
abbrev pub AllLawful : List Axis → Type 0
AllLawful [] = Unit {0}
AllLawful (a ∷ ax) = Lawful a × AllLawful ax
