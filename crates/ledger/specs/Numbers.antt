-- The inner places by number are just the points, each once.
use Rattle.std.specs.Prelude.{◌≡◌, ℕ, ◌^◌, ◌<◌, ◌≤◌, true, length}
use Rattle.points.specs.Points.{is_point}
use Rattle.basis.specs.Lists.{IsIn, AllDistinct}
use Rattle.ledger.specs.Ledger.{inner_places}

pub record ListedPoints (d : ℕ) : Type 0 where
  pub all : (p : ℕ) → p < 2 ^ 32 → is_point d p ≡ true → IsIn p (inner_places d)
  pub only : (p : ℕ) → IsIn p (inner_places d) → (p < 2 ^ 32) × (is_point d p ≡ true)
  pub once : AllDistinct (inner_places d)
  pub many : length (inner_places d) ≡ 127 ^ d

-- in up to four dimensions
abbrev pub AllListed : Type 0
AllListed = (d : ℕ) → d ≤ 4 → ListedPoints d
