-- Points as 32-bit numbers: over the four axes, their coordinates say the same.
use Rattle.std.specs.Prelude.{◌≡◌, ℕ, ◌≤◌, true, List, map}
use Rattle.points.specs.Points as numbers
use Rattle.basis.specs.Axis.{four_axes}
use Rattle.basis.specs.Grid.{Inside, level_sum, parents}

-- what a point of d dimensions is by its number and by its four coordinates
pub record SameByNumber (d : ℕ) : Type 0 where
  pub inside : (p : ℕ) → numbers.is_point d p ≡ true → Inside (four_axes d) (numbers.coords p)
  pub is_point : (q : List ℕ) → Inside (four_axes d) q → numbers.is_point d (numbers.number q) ≡ true
  pub back : (q : List ℕ) → Inside (four_axes d) q → numbers.coords (numbers.number q) ≡ q
  pub levels : (p : ℕ) → level_sum (four_axes d) (numbers.coords p) ≡ numbers.level_sum d p
  pub parents_of : (p : ℕ) → numbers.is_point d p ≡ true → map numbers.number (parents (four_axes d) (numbers.coords p)) ≡ numbers.parents p

-- Numbers and lists of coordinates agree in up to 4 dimensions.
abbrev pub NumbersAgree : Type 0
NumbersAgree = (d : ℕ) → d ≤ 4 → SameByNumber d
