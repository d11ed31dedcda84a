-- Two worked grids, over the integers as counts of 2^-28.
use Rattle.std.specs.Prelude.{◌≡◌, ℕ, ◌-◌, ◌*◌, ◌^◌, Bool, true, false, cond, ◌&&◌, List, [], ◌∷◌, map, ℤ, pos, ◌==◌}
use Rattle.kinds.specs.Halving.{Halving}
use Rattle.kinds.specs.Integers.{integers, whole_count}
use Rattle.basis.specs.Axis.{axes}
use Rattle.basis.specs.Surplus.{surplus}
use Rattle.basis.specs.Interpolant.{value, integral}

-- a point with its sample, a whole number
pub record Sample : Type 0 where
  pub point : List ℕ
  pub number : ℤ

-- the points of a table
unfoldable pub points_of : List Sample → List (List ℕ)
points_of = map (λ (s : Sample). s.point)

-- the same coordinates
unfoldable pub same : List ℕ → List ℕ → Bool
same [] [] = true
same [] (j ∷ js) = false
same (k ∷ ks) [] = false
same (k ∷ ks) (j ∷ js) = k == j && same ks js

-- the sample of a point in a table, and 0 elsewhere
unfoldable pub sample_of : List Sample → List ℕ → ℤ
sample_of [] p = pos 0
sample_of (s ∷ ss) p = cond (same s.point p) (whole_count s.number) (sample_of ss p)

-- m over 2^e
abbrev pub part : ℕ → ℕ → ℤ
part m e = pos (m * 2 ^ (28 - e))

-- samples 8, 5, 7, 4 and 7 at 64, 32, 96, 16 and 48
unfoldable pub line : List Sample
line =
    record { point = 64 ∷ []; number = pos 8 }
    ∷ record { point = 32 ∷ []; number = pos 5 }
    ∷ record { point = 96 ∷ []; number = pos 7 }
    ∷ record { point = 16 ∷ []; number = pos 4 }
    ∷ record { point = 48 ∷ []; number = pos 7 }
    ∷ []

-- samples 16, 10, 9 and 7 at (64, 64), (32, 64), (64, 32) and (32, 32)
unfoldable pub square : List Sample
square =
    record { point = 64 ∷ 64 ∷ []; number = pos 16 }
    ∷ record { point = 32 ∷ 64 ∷ []; number = pos 10 }
    ∷ record { point = 64 ∷ 32 ∷ []; number = pos 9 }
    ∷ record { point = 32 ∷ 32 ∷ []; number = pos 7 }
    ∷ []

-- the answers on the line, of which the last surpluses are 3/2 and 1/2, one value 15/2 and the integral 21/4
pub record WorkedLine (H : Halving integers) : Type 0 where
  pub at_64 : surplus integers H (axes 1) (sample_of line) (64 ∷ []) ≡ part 8 0
  pub at_32 : surplus integers H (axes 1) (sample_of line) (32 ∷ []) ≡ part 1 0
  pub at_96 : surplus integers H (axes 1) (sample_of line) (96 ∷ []) ≡ part 3 0
  pub at_16 : surplus integers H (axes 1) (sample_of line) (16 ∷ []) ≡ part 3 1
  pub at_48 : surplus integers H (axes 1) (sample_of line) (48 ∷ []) ≡ part 1 1
  pub value_at_8 : value integers H (axes 1) (points_of line) (sample_of line) (8 ∷ []) ≡ part 2 0
  pub value_at_80 : value integers H (axes 1) (points_of line) (sample_of line) (80 ∷ []) ≡ part 15 1
  pub whole : integral integers H (axes 1) (points_of line) (sample_of line) ≡ part 21 2

-- the answers on the square, of which the last surplus is 3/2 and the integral 143/32
pub record WorkedSquare (H : Halving integers) : Type 0 where
  pub at_64_64 : surplus integers H (axes 2) (sample_of square) (64 ∷ 64 ∷ []) ≡ part 16 0
  pub at_32_64 : surplus integers H (axes 2) (sample_of square) (32 ∷ 64 ∷ []) ≡ part 2 0
  pub at_64_32 : surplus integers H (axes 2) (sample_of square) (64 ∷ 32 ∷ []) ≡ part 1 0
  pub at_32_32 : surplus integers H (axes 2) (sample_of square) (32 ∷ 32 ∷ []) ≡ part 3 1
  pub whole : integral integers H (axes 2) (points_of square) (sample_of square) ≡ part 143 5

-- both, for any halving
pub record WorkedGrids : Type 0 where
  pub line_answers : (H : Halving integers) → WorkedLine H
  pub square_answers : (H : Halving integers) → WorkedSquare H
