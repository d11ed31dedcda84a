-- What the lists of inner places, ways and parents hold. A grid has d directions, and n more that are not used.
use Rattle.std.specs.Prelude.{◌≡◌, ℕ, ◌+◌, ◌^◌, ◌<◌, List, length, slice_index, slice_index_or, slice_set}
use Rattle.basis.specs.Lists.{IsIn, AllDistinct}
use Rattle.basis.specs.Axis.{Axis, trivial, directions}
use Rattle.basis.specs.Grid.{Inside, places, parents}
use Rattle.basis.specs.Surplus.{Move, ways}

-- The inner places are all lists of coordinates: 127^d of them.
pub record InnerPlaces (d n : ℕ) : Type 0 where
  pub count : length (places (directions d n)) ≡ 127 ^ d
  pub distinct : AllDistinct (places (directions d n))
  pub only : (y : List ℕ) → IsIn y (places (directions d n)) → Inside (directions d n) y
  pub all : (y : List ℕ) → Inside (directions d n) y → IsIn y (places (directions d n))

-- The ways are the lists of moves, one for each direction: 3^d of them if all directions are used.
pub record AllWays (d n : ℕ) : Type 0 where
  pub count : length (ways (directions d n)) ≡ 3 ^ (d + n)
  pub distinct : AllDistinct (ways (directions d n))
  pub only : (w : List Move) → IsIn w (ways (directions d n)) → length w ≡ d + n
  pub all : (w : List Move) → length w ≡ d + n → IsIn w (ways (directions d n))

-- q is a parent of p: in one direction the coordinate is replaced by a parent of it
pub record ParentInDirection (ax : List Axis) (p q : List ℕ) : Type 0 where
  pub direction : ℕ
  pub within : direction < length ax
  pub coord : ℕ
  pub is_parent : IsIn coord ((slice_index_or ax direction trivial).parents (slice_index p direction))
  pub replaced : q ≡ slice_set p direction coord

-- the list of parents has exactly these
pub record ParentsListed (ax : List Axis) (p : List ℕ) : Type 0 where
  pub only : (q : List ℕ) → IsIn q (parents ax p) → ParentInDirection ax p q
  pub all : (q : List ℕ) → ParentInDirection ax p q → IsIn q (parents ax p)

-- The parents of a point, one coordinate for each axis, are those in some direction.
abbrev pub ParentsByDirection : Type 0
ParentsByDirection = (ax : List Axis) (p : List ℕ) → length p ≡ length ax → ParentsListed ax p
