-- The figures that a grid is made with, and the new ledger.
use Rattle.std.specs.Prelude.{ℕ, not, ◌||◌, List, [], ◌∷◌, ◌++◌, Some, None, Option, ◌==◌, nat_lt}
use Rattle.points.specs.Axis.{within}
use Rattle.points.specs.Points.{dims_causes}
use Rattle.points.specs.Refusals.{Cause, cause, first}
use Rattle.points.specs.declared.refusal.Refusal.{Refusal}
use Rattle.points.specs.declared.refusal.Refusal.TheVariants.{Memory, ZeroNumber}
use Rattle.ledger.specs.Ledger.{free, Ledger}

-- the dimensions, the point places and lookup entries of the memory, the grid number and the first ticket number
pub record Figures : Type 0 where
  pub dims : ℕ
  pub room : ℕ
  pub lookups : ℕ
  pub grid : ℕ
  pub next : ℕ

-- why figures are refused
abbrev pub figure_causes : Figures → List Cause
figure_causes f =
    dims_causes f.dims
    ++ cause Memory (not (within 1 4096 f.room) || nat_lt f.lookups f.room)
    ∷ cause ZeroNumber (f.grid == 0 || f.next == 0)
    ∷ []

-- nothing is in or out
abbrev pub empty : {M : Type 0} → ℕ → ℕ → ℕ → ℕ → Ledger M
empty d room grid next = record { dims = d; grid = grid; room = room; next = next; known = λ q. free }

-- a new ledger; with figures that are refused it has one dimension and no places
unfoldable pub make_by : {M : Type 0} → Option Refusal → Figures → Ledger M
make_by None f = empty f.dims f.room f.grid f.next
make_by (Some e) f = empty 1 0 f.grid f.next

-- the ledger of a grid made with these figures
unfoldable pub make : {M : Type 0} → Figures → Ledger M
make f = make_by (first (figure_causes f)) f
