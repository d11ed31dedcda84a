-- What the answers of a ledger have to do with its samples. In p x says that the point p is in with the sample x.
use Rattle.std.specs.Prelude.{◌≡◌, ℕ, ◌*◌, List, length, None}
use Rattle.kinds.specs.Group.{Group, doubled}
use Rattle.kinds.specs.Halving.{Halving}
use Rattle.points.specs.Points.{coords}
use Rattle.points.specs.Refusals.{first}
use Rattle.basis.specs.Lists.{IsIn, AllDistinct}
use Rattle.basis.specs.Sums.{sum_over}
use Rattle.basis.specs.Interpolant.{Meets}
use Rattle.ledger.specs.Ledger.{Ledger, inner_places, axes_of, no_place}
use Rattle.ledger.specs.Questions.{told, count_of, surpluses, surplus_at, value_at, integral_of, ask_sample, ask_surplus, ask_value}

-- points are the coordinates of the points in, each once, and u has their samples
pub record Listing {M : Type 0} (In : ℕ → M → Type 0) (points : List (List ℕ)) (u : List ℕ → M) : Type 0 where
  pub once : AllDistinct points
  pub only : (q : List ℕ) → IsIn q points → (p : ℕ) × (x : M) × (q ≡ coords p) × In p x
  pub all : (p : ℕ) (x : M) → In p x → IsIn (coords p) points
  pub sampled : (p : ℕ) (x : M) → In p x → u (coords p) ≡ x

module _ (G : Group) (H : Halving G) where
  -- At each point in, the value is its sample. Every place is told its value. The integral doubled 7·d times is the sum of the values at all inner places.
  pub record Interpolates (L : Ledger G.Member) (In : ℕ → G.Member → Type 0) : Type 0 where
    pub value_is_sample : (p : ℕ) (x : G.Member) → In p x → ask_value G H L p ≡ told x
    pub sample_told : (p : ℕ) (x : G.Member) → In p x → ask_sample G L p ≡ told x
    pub value_told : (y : ℕ) → first (no_place L.dims y) ≡ None → ask_value G H L y ≡ told (value_at G H L y)
    pub integral_is_sum : doubled G (7 * L.dims) (integral_of G H L) ≡ sum_over G (inner_places L.dims) (value_at G H L)

  -- The surpluses meet all samples, and no other coefficients do. The points in can be listed, and the order is free.
  pub record SoleCoefficients (L : Ledger G.Member) (In : ℕ → G.Member → Type 0) : Type 0 where
    pub listed : (points : List (List ℕ)) × (u : List ℕ → G.Member) × Listing In points u
    pub counted : (points : List (List ℕ)) (u : List ℕ → G.Member) → Listing In points u → count_of L ≡ length points
    pub surplus_told : (p : ℕ) (x : G.Member) → In p x → ask_surplus G H L p ≡ told (surplus_at G H L p)
    pub meet : (points : List (List ℕ)) (u : List ℕ → G.Member) → Listing In points u → Meets G (axes_of L) (7 * L.dims) points u (surpluses G H L)
    pub no_other :
        (points : List (List ℕ)) (u : List ℕ → G.Member) → Listing In points u
        → (c : List ℕ → G.Member) → Meets G (axes_of L) (7 * L.dims) points u c
        → (p : ℕ) (x : G.Member) → In p x → c (coords p) ≡ surplus_at G H L p

  -- Two ledgers answer the same: equal surpluses, equal values at all places, equal integrals.
  pub record Agree (L K : Ledger G.Member) : Type 0 where
    pub surpluses : (p : ℕ) → ask_surplus G H L p ≡ ask_surplus G H K p
    pub values : (y : ℕ) → ask_value G H L y ≡ ask_value G H K y
    pub integrals : integral_of G H L ≡ integral_of G H K

-- in as many dimensions, with the same points in and equal samples
pub record Alike {M : Type 0} (L K : Ledger M) (In-L In-K : ℕ → M → Type 0) : Type 0 where
  pub dims : L.dims ≡ K.dims
  pub there : (p : ℕ) (x : M) → In-L p x → In-K p x
  pub back : (p : ℕ) (x : M) → In-K p x → In-L p x
