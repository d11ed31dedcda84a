-- Why no grid can be made with some figures.
use Rattle.std.specs.Prelude.{ℕ, ◌||◌, List, [], ◌∷◌, ◌++◌, Some, None, Option, ◌==◌, nat_lt}
use Rattle.points.specs.declared.refusal.Refusal.{Refusal}
use Rattle.points.specs.declared.refusal.Refusal.TheVariants.{Memory, ZeroNumber}
use Rattle.points.specs.Points.{dims_causes}
use Rattle.points.specs.Refusals.{Cause, cause}

-- the number of dimensions, then that of point places and lookup entries, then a number that is 0
abbrev pub make_causes : ℕ → ℕ → ℕ → ℕ → ℕ → List Cause
make_causes d places entries grid ticket =
    dims_causes d
    ++ (cause Memory (places == 0 || (nat_lt 4096 places || nat_lt entries places)) ∷ cause ZeroNumber (grid == 0 || ticket == 0) ∷ [])

-- the number of dimensions of a grid that is made: as asked, or one where the figures are refused
abbrev pub made_dims : Option Refusal → ℕ → ℕ
made_dims None d = d
made_dims (Some e) d = 1

-- its point places: all that were lent, or none
abbrev pub made_room : Option Refusal → ℕ → ℕ
made_room None n = n
made_room (Some e) n = 0
