-- What every ledger keeps that is made and then changed by calls.
use Rattle.std.specs.Prelude.{◌≡◌, ℕ, ◌<◌, ◌≤◌, Bool, true, false, List, length, None}
use Rattle.kinds.specs.Group.{Group}
use Rattle.kinds.specs.Halving.{Halving}
use Rattle.points.specs.Axis.{within}
use Rattle.points.specs.Points.{parents}
use Rattle.points.specs.Refusals.{first}
use Rattle.basis.specs.Lists.{IsIn, AllDistinct}
use Rattle.ledger.specs.Ledger.{Holding, Known, free, drawn, entered, Ledger, is_in, is_taken, counted, no_point}
use Rattle.ledger.specs.Calls.{Call, step}
use Rattle.ledger.specs.Making.{Figures, make}
use Rattle.ledger.specs.Interpolation.{Interpolates, SoleCoefficients, Alike, Agree}

-- a ledger that can be trusted, where fits is the test of fit
pub record Sound {M : Type 0} (fits : M → Bool) (L : Ledger M) : Type 0 where
  -- there are one to four dimensions
  pub dimensions : within 1 4 L.dims ≡ true
  -- what is in or out is a point, of level sum at most 16
  pub lawful : (p : ℕ) → is_taken (L.known p) ≡ true → first (no_point L.dims p) ≡ None
  -- and has its parents in
  pub parents_in : (p : ℕ) → is_taken (L.known p) ≡ true → (q : ℕ) → IsIn q (parents p) → is_in (L.known q) ≡ true
  -- the samples fit
  pub fit : (p : ℕ) (x : M) → L.known p ≡ entered x → fits x ≡ true
  -- the points in and out have places
  pub within_room : counted is_taken L ≤ L.room
  -- the ticket numbers of the points out are used up
  pub issued : (p : ℕ) (o : Holding) → L.known p ≡ drawn o → o.ticket < L.next

-- A new ledger is sound, and so is a sound one after any call.
pub record StaysSound {M : Type 0} (fits : M → Bool) : Type 0 where
  pub new : (f : Figures) → Sound fits (make f)
  pub on : (L : Ledger M) → Sound fits L → (c : Call M) → Sound fits (step fits L c).after

-- points are those of which what is known passes the test, each once
pub record Passing {M : Type 0} (L : Ledger M) (f : Known M → Bool) (points : List ℕ) : Type 0 where
  pub once : AllDistinct points
  pub only : (p : ℕ) → IsIn p points → f (L.known p) ≡ true
  pub all : (p : ℕ) → f (L.known p) ≡ true → IsIn p points

-- Whatever is counted of a sound ledger, other than free points, is as many points as are listed.
abbrev pub CountsPoints : {M : Type 0} → (M → Bool) → Type 0
CountsPoints {M} fits =
    (L : Ledger M) → Sound fits L → (f : Known M → Bool) → f free ≡ false
    → (points : List ℕ) → Passing L f points → counted f L ≡ length points

-- p is in with the sample x
abbrev pub In : {M : Type 0} → Ledger M → ℕ → M → Type 0
In L p x = L.known p ≡ entered x

-- The answers of a sound ledger interpolate its samples, by the only coefficients that do, and come from its samples alone.
pub record SoundInterpolate (G : Group) (H : Halving G) : Type 0 where
  pub interpolates : (L : Ledger G.Member) → Sound H.fits L → Interpolates G H L (In L)
  pub sole : (L : Ledger G.Member) → Sound H.fits L → SoleCoefficients G H L (In L)
  pub agree : (L K : Ledger G.Member) → Alike L K (In L) (In K) → Agree G H L K

-- Of a group, whatever halving does off doubles: every call keeps a ledger sound.
abbrev pub EveryCall : Group → Type 0
EveryCall G = (H : Halving G) → StaysSound H.fits

-- Every count of a sound ledger is of points.
abbrev pub EveryCount : Group → Type 0
EveryCount G = (H : Halving G) → CountsPoints H.fits

-- Every sound ledger interpolates its samples.
abbrev pub EverySoundLedger : Group → Type 0
EverySoundLedger G = (H : Halving G) → SoundInterpolate G H
