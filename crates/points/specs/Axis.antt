-- One direction of a grid. A coordinate is a count of 128ths.
use Rattle.std.specs.Prelude.{ℕ, ◌+◌, ◌-◌, ◌/◌, ◌^◌, Bool, cond, ◌&&◌, Option, ◌==◌, nat_le}
use Rattle.std.specs.Int.Count.{count_trailing_zeros}
use Rattle.std.specs.Bool.{then_some}

-- the number of zero bits below the lowest one bit of a byte; 8 at 0
unfoldable pub zeros : ℕ → ℕ
zeros k = count_trailing_zeros 8 k

-- how far the coordinate's hat reaches to either side
unfoldable pub width : ℕ → ℕ
width k = 2 ^ zeros k

-- 1 at 64, up to 7 at the odd coordinates, and 0 at the border
unfoldable pub level : ℕ → ℕ
level k = 7 - zeros k

-- which of its level it is: an odd number
unfoldable pub index : ℕ → ℕ
index k = k / width k

-- the left neighbour
unfoldable pub left : ℕ → ℕ
left k = k - width k

-- the right neighbour
unfoldable pub right : ℕ → ℕ
right k = k + width k

-- from low to high, with both ends
abbrev pub within : ℕ → ℕ → ℕ → Bool
within low high k = nat_le low k && nat_le k high

-- what a point's coordinate may be: neither 0 nor 128, the border
abbrev pub inner : ℕ → Bool
inner k = within 1 127 k

-- q is one level above k
abbrev pub above : ℕ → ℕ → Bool
above q k = level q + 1 == level k

-- the neighbour one level above; a coordinate of level 1 has none
unfoldable pub parent : ℕ → Option ℕ
parent k = then_some (inner k && nat_le 2 (level k)) (cond (above (left k) k) (left k) (right k))

-- half a width to either side; a coordinate of width 1 has none
unfoldable pub children : ℕ → Option (ℕ × ℕ)
children k = then_some (inner k && nat_le 2 (width k)) (k - width k / 2, k + width k / 2)
