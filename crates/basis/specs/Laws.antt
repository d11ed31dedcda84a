-- The laws of the hierarchical hat basis, over any group. A grid has d directions, and n more that are not used.
use Rattle.std.specs.Prelude.{◌≡◌, ℕ, ◌+◌, ◌*◌, ◌≤◌, List, ◌≢◌}
use Rattle.kinds.specs.Group.{Group, doubled}
use Rattle.kinds.specs.Halving.{Halving, Fits}
use Rattle.basis.specs.Lists.{IsIn, AllDistinct, SameSet}
use Rattle.basis.specs.Sums.{sum_over, taken, halved}
use Rattle.basis.specs.Axis.{Axis, directions}
use Rattle.basis.specs.Grid.{places, parents, level_sum, exponents, numerators, SparseGrid}
use Rattle.basis.specs.Surplus.{surplus, Reads}
use Rattle.basis.specs.Interpolant.{value, integral, Meets}

-- a grid of at most 4 directions, with a sample that fits at each point
pub record Sampled (G : Group) (d n : ℕ) (points : List (List ℕ)) (u : List ℕ → G.Member) : Type 0 where
  pub most : d + n ≤ 4
  pub grid : SparseGrid (directions d n) points
  pub fit : (p : List ℕ) → IsIn p points → Fits G (u p)

-- the level sum of each point is at most 16
abbrev pub Shallow : ℕ → ℕ → List (List ℕ) → Type 0
Shallow d n points = (p : List ℕ) → IsIn p points → level_sum (directions d n) p ≤ 16

-- At each point in, the value is its sample.
abbrev pub Reconstruction : Group → Type 0
Reconstruction G =
    (H : Halving G) (d n : ℕ) (points : List (List ℕ)) (u : List ℕ → G.Member) → Sampled G d n points u
    → (p : List ℕ) → IsIn p points → value G H (directions d n) points u p ≡ u p

-- The surpluses meet all samples.
abbrev pub Existence : Group → Type 0
Existence G =
    (H : Halving G) (d n : ℕ) (points : List (List ℕ)) (u : List ℕ → G.Member) → Sampled G d n points u
    → Meets G (directions d n) (7 * d) points u (surplus G H (directions d n) u)

-- Coefficients that meet all samples are the surpluses.
abbrev pub Uniqueness : Group → Type 0
Uniqueness G =
    (H : Halving G) (d n : ℕ) (points : List (List ℕ)) (u : List ℕ → G.Member) → Sampled G d n points u
    → (c : List ℕ → G.Member) → Meets G (directions d n) (7 * d) points u c
    → (p : List ℕ) → IsIn p points → c p ≡ surplus G H (directions d n) u p

-- The integral doubled 7·d times is the sum of the values at all inner places.
abbrev pub Integration : Group → Type 0
Integration G =
    (H : Halving G) (d n : ℕ) (points : List (List ℕ)) (u : List ℕ → G.Member) → Sampled G d n points u → Shallow d n points
    → doubled G (7 * d) (integral G H (directions d n) points u)
    ≡ sum_over G (places (directions d n)) (value G H (directions d n) points u)

-- What a surplus depends on.
pub record Locality (G : Group) : Type 0 where
  -- only the samples that its ways lead to
  pub reads_only :
      (H : Halving G) (d n : ℕ) (u v : List ℕ → G.Member) (p : List ℕ)
      → ((y : List ℕ) → Reads (directions d n) p y → u y ≡ v y)
      → surplus G H (directions d n) u p ≡ surplus G H (directions d n) v p
  -- each of which is in every grid that has the point
  pub holds_these :
      (d n : ℕ) (points : List (List ℕ)) → SparseGrid (directions d n) points
      → (p y : List ℕ) → IsIn p points → Reads (directions d n) p y → IsIn y points
  -- so a change at a point that is not read leaves the surplus
  pub unread_stays :
      (H : Halving G) (d n : ℕ) (u v : List ℕ → G.Member) (p q : List ℕ)
      → (Reads (directions d n) q p → ⊥) → ((y : List ℕ) → (y ≢ p) → u y ≡ v y)
      → surplus G H (directions d n) u q ≡ surplus G H (directions d n) v q
  -- and what happens at a point without children, an entry, a removal or another sample, leaves the surpluses of all other points
  pub others_stay :
      (H : Halving G) (d n : ℕ) (points : List (List ℕ)) → SparseGrid (directions d n) points
      → (u v : List ℕ → G.Member) (p : List ℕ)
      → ((q : List ℕ) → IsIn q points → IsIn p (parents (directions d n) q) → ⊥)
      → ((y : List ℕ) → (y ≢ p) → u y ≡ v y)
      → (q : List ℕ) → IsIn q points → (q ≢ p) → surplus G H (directions d n) u q ≡ surplus G H (directions d n) v q

-- Two lists of points, with samples u and v and halvings H and H', give the same surpluses, values and integral.
pub record SameAnswers (G : Group) (ax : List Axis) (H H' : Halving G) (points others : List (List ℕ)) (u v : List ℕ → G.Member) : Type 0 where
  pub surpluses : (p : List ℕ) → IsIn p points → surplus G H ax u p ≡ surplus G H' ax v p
  pub values : (y : List ℕ) → value G H ax points u y ≡ value G H' ax others v y
  pub integrals : integral G H ax points u ≡ integral G H' ax others v

-- The order of the points is free.
abbrev pub OrderFree : Group → Type 0
OrderFree G =
    (H : Halving G) (d n : ℕ) (points others : List (List ℕ)) (u v : List ℕ → G.Member) → SparseGrid (directions d n) points
    → AllDistinct others → SameSet points others → ((p : List ℕ) → IsIn p points → u p ≡ v p)
    → SameAnswers G (directions d n) H H points others u v

-- Only doubles are ever halved, so any halving gives the same.
abbrev pub HalvingFree : Group → Type 0
HalvingFree G =
    (H H' : Halving G) (d n : ℕ) (points : List (List ℕ)) (u : List ℕ → G.Member) → Sampled G d n points u → Shallow d n points
    → SameAnswers G (directions d n) H H' points points u u

-- How often one can halve.
pub record Exact (G : Group) (H : Halving G) (d n : ℕ) (points : List (List ℕ)) (u : List ℕ → G.Member) : Type 0 where
  -- a sample 28 times
  pub samples : (p : List ℕ) → IsIn p points → (m : ℕ) → m ≤ 28 → doubled G m (halved G H m (u p)) ≡ u p
  -- a surplus d times less
  pub surpluses :
      (p : List ℕ) → IsIn p points → (m : ℕ) → m + d ≤ 28
      → doubled G m (halved G H m (surplus G H (directions d n) u p)) ≡ surplus G H (directions d n) u p
  -- which is enough for the widths
  pub narrow : (p : List ℕ) → IsIn p points → exponents (directions d n) p + d ≤ 28
  -- so one may halve first and then take multiples
  pub halves_first :
      (p y : List ℕ) → IsIn p points
      → halved G H (exponents (directions d n) p) (taken G (numerators (directions d n) p y) (surplus G H (directions d n) u p))
      ≡ taken G (numerators (directions d n) p y) (halved G H (exponents (directions d n) p) (surplus G H (directions d n) u p))

-- The halvings are exact.
abbrev pub ExactHalves : Group → Type 0
ExactHalves G =
    (H : Halving G) (d n : ℕ) (points : List (List ℕ)) (u : List ℕ → G.Member) → Sampled G d n points u → Exact G H d n points u
