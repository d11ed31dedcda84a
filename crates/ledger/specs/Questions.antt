-- What a ledger answers when asked: samples, surpluses, values, the integral and the count of the points in.
use Rattle.std.specs.Prelude.{ℕ, not, List, [], ◌∷◌, ◌++◌, length, Some, None, filter, Option}
use Rattle.kinds.specs.Group.{Group}
use Rattle.kinds.specs.Halving.{Halving}
use Rattle.points.specs.Points.{coords, number}
use Rattle.points.specs.Refusals.{Cause, cause, first}
use Rattle.points.specs.declared.refusal.Refusal.{Refusal}
use Rattle.points.specs.declared.refusal.Refusal.TheVariants.{PointNotIn}
use Rattle.basis.specs.Grid.{places}
use Rattle.basis.specs.Surplus.{surplus}
use Rattle.basis.specs.Interpolant.{value, integral}
use Rattle.ledger.specs.Ledger.{Known, free, drawn, entered, Ledger, is_in, axes_of, no_point, no_place}

-- a question is told its answer, or denied it
pub data Reply (M : Type 0) : Type 0 where
  told : M → Reply M
  denied : Refusal → Reply M

-- the answer x, unless there is a refusal
unfoldable pub reply : {M : Type 0} → Option Refusal → M → Reply M
reply None x = told x
reply (Some e) x = denied e

-- why a question about a point is refused
abbrev pub point_in_causes : {M : Type 0} → Ledger M → ℕ → List Cause
point_in_causes L p = no_point L.dims p ++ cause PointNotIn (not (is_in (L.known p))) ∷ []

-- the points in, as lists of coordinates
unfoldable pub points_in : {M : Type 0} → Ledger M → List (List ℕ)
points_in L = filter (λ q. is_in (L.known (number q))) (places (axes_of L))

-- how many points are in, which is never refused
unfoldable pub count_of : {M : Type 0} → Ledger M → ℕ
count_of L = length (points_in L)

-- the sample that is known, or else z
unfoldable pub sample_or : {M : Type 0} → M → Known M → M
sample_or z free = z
sample_or z (drawn o) = z
sample_or z (entered x) = x

-- the sample at a point in, and zero elsewhere
unfoldable pub sample_at : (G : Group) → Ledger G.Member → ℕ → G.Member
sample_at G L p = sample_or G.zero (L.known p)

-- the same by coordinates
abbrev pub samples : (G : Group) → Ledger G.Member → List ℕ → G.Member
samples G L q = sample_at G L (number q)

-- the sample, asked for
unfoldable pub ask_sample : (G : Group) → Ledger G.Member → ℕ → Reply G.Member
ask_sample G L p = reply (first (point_in_causes L p)) (sample_at G L p)

module _ (G : Group) (H : Halving G) where
  -- the surpluses by coordinates
  abbrev pub surpluses : Ledger G.Member → List ℕ → G.Member
  surpluses L = surplus G H (axes_of L) (samples G L)

  -- the surplus of a point
  unfoldable pub surplus_at : Ledger G.Member → ℕ → G.Member
  surplus_at L p = surpluses L (coords p)

  -- the value at a place
  unfoldable pub value_at : Ledger G.Member → ℕ → G.Member
  value_at L y = value G H (axes_of L) (points_in L) (samples G L) (coords y)

  -- the integral, which is never refused
  unfoldable pub integral_of : Ledger G.Member → G.Member
  integral_of L = integral G H (axes_of L) (points_in L) (samples G L)

  -- the surplus, asked for
  unfoldable pub ask_surplus : Ledger G.Member → ℕ → Reply G.Member
  ask_surplus L p = reply (first (point_in_causes L p)) (surplus_at L p)

  -- the value, asked for
  unfoldable pub ask_value : Ledger G.Member → ℕ → Reply G.Member
  ask_value L y = reply (first (no_place L.dims y)) (value_at L y)
