-- Halves in a group: they are unique, they lose no size, and samples are told by them.
use Rattle.std.specs.Prelude.{◌≡◌, ◌*◌, ◌^◌, ◌≤◌, Bool, true}
use Rattle.kinds.specs.Group.{Group, twice, doubled}

-- Equal doubles mean equal members, so a half is unique.
abbrev pub UniqueHalves : Group → Type 0
UniqueHalves G = (x y : G.Member) → twice G x ≡ twice G y → x ≡ y

-- A member that may be a sample: its size is at most 2^44, and it is some member doubled 28 times.
pub record Fits (G : Group) (x : G.Member) : Type 0 where
  pub small : G.size x ≤ 2 ^ 44
  pub root : G.Member
  pub rooted : doubled G 28 root ≡ x

-- Halving as a function, and the test of fit. Off doubles `halve` is any function: nothing rests on it there.
pub record Halving (G : Group) : Type 0 where
  pub halve : G.Member → G.Member
  pub halve_twice : (x : G.Member) → halve (twice G x) ≡ x
  pub size_twice : (x : G.Member) → 2 * G.size x ≤ G.size (twice G x)
  pub fits : G.Member → Bool
  pub fits_only : (x : G.Member) → fits x ≡ true → Fits G x
  pub fits_all : (x : G.Member) → Fits G x → fits x ≡ true
