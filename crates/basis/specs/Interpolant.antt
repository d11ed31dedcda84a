-- The interpolant of the samples u at a list of points, its integral, and the equations that its coefficients meet.
use Rattle.std.specs.Prelude.{◌≡◌, ℕ, ◌-◌, List}
use Rattle.kinds.specs.Group.{Group, doubled}
use Rattle.kinds.specs.Halving.{Halving}
use Rattle.basis.specs.Lists.{IsIn}
use Rattle.basis.specs.Sums.{sum_over, taken, halved}
use Rattle.basis.specs.Axis.{Axis}
use Rattle.basis.specs.Grid.{exponents, scales, numerators}
use Rattle.basis.specs.Surplus.{surplus}

-- the value at a place: each surplus taken N times and halved s times
unfoldable pub value : (G : Group) → Halving G → List Axis → List (List ℕ) → (List ℕ → G.Member) → List ℕ → G.Member
value G H ax points u y = sum_over G points (λ q. halved G H (exponents ax q) (taken G (numerators ax q y) (surplus G H ax u q)))

-- the integral: each surplus times the integral of its hat
unfoldable pub integral : (G : Group) → Halving G → List Axis → List (List ℕ) → (List ℕ → G.Member) → G.Member
integral G H ax points u = sum_over G points (λ q. halved G H (scales ax q) (surplus G H ax u q))

-- Coefficients c meet the samples: at each point, the sum of each coefficient taken N times and doubled e - s times is the sample doubled e times.
abbrev pub Meets : (G : Group) → List Axis → ℕ → List (List ℕ) → (List ℕ → G.Member) → (List ℕ → G.Member) → Type 0
Meets G ax e points u c =
    (p : List ℕ) → IsIn p points
    → sum_over G points (λ q. doubled G (e - exponents ax q) (taken G (numerators ax q p) (c q))) ≡ doubled G e (u p)
