-- Sizes: no surplus, no term and no part of a sum grows so large that a kind has no answer.
use Rattle.std.specs.Prelude.{◌≡◌, ℕ, ◌+◌, ◌^◌, ◌≤◌, List, ◌∷◌, length}
use Rattle.kinds.specs.Group.{Group, doubled}
use Rattle.kinds.specs.Halving.{Halving}
use Rattle.basis.specs.Lists.{IsIn}
use Rattle.basis.specs.Sums.{sum_over, taken, halved}
use Rattle.basis.specs.Axis.{Axis, directions}
use Rattle.basis.specs.Grid.{exponents, scales, numerators}
use Rattle.basis.specs.Surplus.{Move, ways, moves, reached, added, surplus}
use Rattle.basis.specs.Interpolant.{value, integral}
use Rattle.basis.specs.Laws.{Sampled, Shallow}
use Rattle.hats.specs.Multiples.{Proper}

-- what a way adds to the surplus of p
abbrev pub way_term : (G : Group) → Halving G → List Axis → (List ℕ → G.Member) → List ℕ → List Move → G.Member
way_term G H ax u p w = added G H u (moves w) (reached ax p w)

-- what the point p adds to the value at the place y
abbrev pub value_term : (G : Group) → Halving G → List Axis → (List ℕ → G.Member) → List ℕ → List ℕ → G.Member
value_term G H ax u y p = halved G H (exponents ax p) (taken G (numerators ax p y) (surplus G H ax u p))

-- what the point p adds to the integral
abbrev pub integral_term : (G : Group) → Halving G → List Axis → (List ℕ → G.Member) → List ℕ → G.Member
integral_term G H ax u p = halved G H (scales ax p) (surplus G H ax u p)

-- Of at most 4,096 terms f over elements of xs, in any order: the sum of those before and the next have sizes of at most 2^60 together, so a kind has their sum.
abbrev pub Summable : (G : Group) {X : Type 0} → List X → (X → G.Member) → Type 0
Summable G {X} xs f =
    (before : List X) (next : X) → ((x : X) → IsIn x (next ∷ before) → IsIn x xs) → length (next ∷ before) ≤ 4096
    → G.size (sum_over G before f) + G.size (f next) ≤ 2 ^ 60

-- The sizes at a grid with the samples u.
pub record Small (G : Group) (H : Halving G) (ax : List Axis) (points : List (List ℕ)) (u : List ℕ → G.Member) : Type 0 where
  -- the terms are those of the surplus, of the value and of the integral
  pub surplus_is : (p : List ℕ) → surplus G H ax u p ≡ sum_over G (ways ax) (way_term G H ax u p)
  pub value_is : (y : List ℕ) → value G H ax points u y ≡ sum_over G points (value_term G H ax u y)
  pub integral_is : integral G H ax points u ≡ sum_over G points (integral_term G H ax u)
  -- what a way adds has size at most 2^44
  pub way_small : (p : List ℕ) → IsIn p points → (w : List Move) → IsIn w (ways ax) → G.size (way_term G H ax u p w) ≤ 2 ^ 44
  pub ways_summable : (p : List ℕ) → IsIn p points → Summable G (ways ax) (way_term G H ax u p)
  -- a surplus has size at most 2^48, and can be halved 24 times
  pub surplus_small : (p : List ℕ) → IsIn p points → G.size (surplus G H ax u p) ≤ 2 ^ 48
  pub surplus_rooted : (p : List ℕ) → IsIn p points → (x : G.Member) × (doubled G 24 x ≡ surplus G H ax u p)
  -- it can be halved s times, and N is at most 2^s; so a term of a value is no larger
  pub value_proper : (p y : List ℕ) → IsIn p points → Proper G (numerators ax p y) (exponents ax p) (surplus G H ax u p)
  pub value_small : (p y : List ℕ) → IsIn p points → G.size (value_term G H ax u y p) ≤ 2 ^ 48
  pub value_summable : (y : List ℕ) → Summable G points (value_term G H ax u y)
  -- a term of the integral is no larger either
  pub integral_small : (p : List ℕ) → IsIn p points → G.size (integral_term G H ax u p) ≤ 2 ^ 48
  pub integral_summable : Summable G points (integral_term G H ax u)

-- They hold at every grid whose samples fit and whose level sums are at most 16.
abbrev pub Bounded : Group → Type 0
Bounded G =
    (H : Halving G) (d n : ℕ) (points : List (List ℕ)) (u : List ℕ → G.Member) → Sampled G d n points u → Shallow d n points
    → Small G H (directions d n) points u
