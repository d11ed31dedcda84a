-- Worked examples of the definitions.
use Rattle.std.specs.Prelude.{◌≡◌, ℕ, [], ◌∷◌, Some, None}
use Rattle.std.specs.Option.{option_map}
use Rattle.points.specs.Axis.{level, index, left, right, parent}
use Rattle.points.specs.Points.{number, level_sum, parents, point_causes}
use Rattle.points.specs.Refusals.{number_of, first}
use Rattle.points.specs.declared.refusal.Refusal.TheVariants.{LevelSum}

-- the point (127, 127, 32)
abbrev pub highest : ℕ
highest = number (127 ∷ 127 ∷ 32 ∷ 0 ∷ [])

-- the point (127, 127, 16)
abbrev pub too_high : ℕ
too_high = number (127 ∷ 127 ∷ 16 ∷ 0 ∷ [])

-- the point (k, j)
abbrev pub pair : ℕ → ℕ → ℕ
pair k j = number (k ∷ j ∷ 0 ∷ 0 ∷ [])

-- each example by name
pub record WorkedExamples : Type 0 where
  pub level_of_48 : level 48 ≡ 3
  pub index_of_48 : index 48 ≡ 3
  pub left_of_48 : left 48 ≡ 32
  pub right_of_48 : right 48 ≡ 64
  pub parent_of_48 : parent 48 ≡ Some 32
  pub highest_sum : level_sum 3 highest ≡ 16
  pub highest_passes : first (point_causes 3 highest) ≡ None
  pub too_high_refused : first (point_causes 3 too_high) ≡ Some LevelSum
  pub too_high_number : option_map number_of (first (point_causes 3 too_high)) ≡ Some 5
  pub parents_of_pair : parents (pair 48 32) ≡ pair 32 32 ∷ pair 48 64 ∷ []
  pub parents_of_root : parents (pair 64 64) ≡ []
