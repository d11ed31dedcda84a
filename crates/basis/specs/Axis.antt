-- One direction of a grid, and the directions of a grid.
use Rattle.std.specs.Prelude.{ℕ, zero, suc, ◌+◌, ◌-◌, List, [], ◌∷◌, ◌++◌, replicate, None, Option}
use Rattle.std.specs.Bool.{then_some}
use Rattle.std.specs.Option.{option_to_list}
use Rattle.points.specs.Axis as coordinate

pub record Axis : Type 0 where
  -- what a point's coordinate may be, each once
  pub coords : List ℕ
  -- the neighbours of a coordinate; none where that is on the border
  pub left : ℕ → Option ℕ
  pub right : ℕ → Option ℕ
  -- the neighbours that come before a coordinate in the hierarchy
  pub parents : ℕ → List ℕ
  pub level : ℕ → ℕ
  -- the width of the hat of k is 2^(exponent k), and its value at y is (numerator k y) over the width
  pub exponent : ℕ → ℕ
  pub numerator : ℕ → ℕ → ℕ
  -- the integral of the hat of k is 1 over 2^(scale k)
  pub scale : ℕ → ℕ

-- |y - k|
abbrev pub distance : ℕ → ℕ → ℕ
distance k y = (y - k) + (k - y)

-- the numbers from n down to 1
unfoldable pub down_from : ℕ → List ℕ
down_from zero = []
down_from (suc n) = suc n ∷ down_from n

-- The coordinates 1 to 127, with 0 and 128 as border. The hat of k with width w at y is max(0, w - |y - k|) over w.
unfoldable pub zero_border : Axis
zero_border = record {
  coords = down_from 127;
  left = λ k. then_some (coordinate.inner (coordinate.left k)) (coordinate.left k);
  right = λ k. then_some (coordinate.inner (coordinate.right k)) (coordinate.right k);
  parents = λ k. option_to_list (coordinate.parent k);
  level = coordinate.level;
  exponent = coordinate.zeros;
  numerator = λ k y. coordinate.width k - distance k y;
  scale = coordinate.level;
}

-- The coordinate 0 alone, for a direction that is not used.
unfoldable pub trivial : Axis
trivial = record {
  coords = 0 ∷ [];
  left = λ k. None;
  right = λ k. None;
  parents = λ k. [];
  level = λ k. 0;
  exponent = λ k. 0;
  numerator = λ k y. 1 - distance k y;
  scale = λ k. 0;
}

-- d directions that are used, and n that are not
unfoldable pub directions : ℕ → ℕ → List Axis
directions d n = replicate d zero_border ++ replicate n trivial

-- the directions of a grid of d dimensions
abbrev pub axes : ℕ → List Axis
axes d = directions d 0

-- the same grid with four directions
abbrev pub four_axes : ℕ → List Axis
four_axes d = directions d (4 - d)
