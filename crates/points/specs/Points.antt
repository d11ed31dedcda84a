-- Points and places of a grid of d dimensions, each as one number of 32 bits: four coordinates, the first in front, of which the first d are used.
use Rattle.std.specs.Prelude.{◌≡◌, ℕ, ◌+◌, ◌*◌, ◌/◌, ◌%◌, ◌^◌, ◌<◌, Bool, not, ◌&&◌, List, [], ◌∷◌, length, take, drop, sum_by, Option, nat_eq, nat_lt, slice_index, slice_set}
use Rattle.std.specs.List.{list_all, flat_map, AllByRecursion}
use Rattle.std.specs.Option.{option_map, option_to_list}
use Rattle.std.specs.Bool.{then_some}
use Rattle.points.specs.Axis.{level, within, inner, parent, children}
use Rattle.points.specs.Refusals.{Cause, cause}
use Rattle.points.specs.declared.refusal.Refusal.TheVariants.{Dimensions, Coordinate, LevelSum}

-- the four coordinates of a number
unfoldable pub coords : ℕ → List ℕ
coords n = n / 2 ^ 24 % 256 ∷ n / 2 ^ 16 % 256 ∷ n / 2 ^ 8 % 256 ∷ n % 256 ∷ []

-- the number of four coordinates
unfoldable pub number : List ℕ → ℕ
number [] = 0
number (k ∷ ks) = k * 256 ^ length ks + number ks

-- nothing is lost either way
pub record Numbered : Type 0 where
  pub back : (n : ℕ) → n < 2 ^ 32 → number (coords n) ≡ n
  pub again : (ks : List ℕ) → length ks ≡ 4 → AllByRecursion (λ k. k < 256) ks → coords (number ks) ≡ ks

-- the used coordinates of a number pass the test, and the others are 0
abbrev pub shaped : (ℕ → Bool) → ℕ → ℕ → Bool
shaped f d n = list_all f (take d (coords n)) && list_all (λ k. nat_eq k 0) (drop d (coords n))

-- used coordinates that are inner
unfoldable pub is_point : ℕ → ℕ → Bool
is_point d p = shaped inner d p

-- used coordinates that are inner or on the border
unfoldable pub is_place : ℕ → ℕ → Bool
is_place d y = shaped (within 0 128) d y

-- the levels of the used coordinates together
unfoldable pub level_sum : ℕ → ℕ → ℕ
level_sum d p = sum_by level (take d (coords p))

-- the coordinate in the direction i, counted from 0; past the last it is 0
abbrev pub coord_in : ℕ → ℕ → ℕ
coord_in i p = slice_index (coords p) i

-- the number with another coordinate in the direction i
unfoldable pub replaced : ℕ → ℕ → ℕ → ℕ
replaced i p k = number (slice_set (coords p) i k)

-- the neighbour on a side, left or right, in the direction i; none where that is on the border
unfoldable pub neighbour_in : (ℕ → ℕ) → ℕ → ℕ → Option ℕ
neighbour_in side i p = option_map (replaced i p) (then_some (inner (side (coord_in i p))) (side (coord_in i p)))

-- the parent in the direction i, if the coordinate there has one
unfoldable pub parent_in : ℕ → ℕ → Option ℕ
parent_in i p = option_map (replaced i p) (parent (coord_in i p))

-- the left and the right child in the direction i, if the coordinate there has children
unfoldable pub children_in : ℕ → ℕ → Option (ℕ × ℕ)
children_in i p = option_map (λ c. (replaced i p c.0, replaced i p c.1)) (children (coord_in i p))

-- all parents of a point, the first direction's first
unfoldable pub parents : ℕ → List ℕ
parents p = flat_map (λ i. option_to_list (parent_in i p)) (0 ∷ 1 ∷ 2 ∷ 3 ∷ [])

-- why a number of dimensions is refused
abbrev pub dims_causes : ℕ → List Cause
dims_causes d = cause Dimensions (not (within 1 4 d)) ∷ []

-- why a point is refused
abbrev pub point_causes : ℕ → ℕ → List Cause
point_causes d p = cause Coordinate (not (is_point d p)) ∷ cause LevelSum (nat_lt 16 (level_sum d p)) ∷ []

-- why a place is refused
abbrev pub place_causes : ℕ → ℕ → List Cause
place_causes d y = cause Coordinate (not (is_place d y)) ∷ []
