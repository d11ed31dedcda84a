-- What halving several times and taking multiples answer. X are the values, and m says which member of the group a value means.
use Rattle.std.specs.Prelude.{◌≡◌, ℕ, ◌*◌, ◌^◌, ◌<◌, ◌≤◌, Some, None, Option, ◌≢◌}
use Rattle.kinds.specs.Group.{Group, doubled}
use Rattle.kinds.specs.Halving.{Halving}
use Rattle.basis.specs.Sums.{taken, halved}

-- z doubled n times is x, so that it is x halved n times by any halving
pub record HalfOf (G : Group) (n : ℕ) (x z : G.Member) : Type 0 where
  pub root : doubled G n z ≡ x
  pub half : (H : Halving G) → z ≡ halved G H n x

-- x halved n times, or nothing exactly when no member doubled n times is x
abbrev pub Halved : (G : Group) {X : Type 0} → (X → G.Member) → ℕ → X → Option X → Type 0
Halved G m n x None = (y : G.Member) → doubled G n y ≢ m x
Halved G m n x (Some z) = HalfOf G n (m x) (m z)

-- x taken n times, or nothing only when n times the size of x passes 2^60
abbrev pub Taken : (G : Group) {X : Type 0} → (X → G.Member) → ℕ → X → Option X → Type 0
Taken G m n x None = 2 ^ 60 < n * G.size (m x)
Taken G m n x (Some z) = m z ≡ taken G n (m x)

-- x taken n times and halved s times, or nothing only when n times the size of whatever is x halved s times passes 2^60
abbrev pub Term : (G : Group) {X : Type 0} → (X → G.Member) → ℕ → ℕ → X → Option X → Type 0
Term G m n s x None = (y : G.Member) → doubled G s y ≡ m x → 2 ^ 60 < n * G.size y
Term G m n s x (Some z) = (H : Halving G) → m z ≡ halved G H s (taken G n (m x))

-- x is a surplus of size at most 2^48 that can be halved s times, and n over 2^s is a value of a hat
pub record Proper (G : Group) (n s : ℕ) (x : G.Member) : Type 0 where
  pub root : G.Member
  pub rooted : doubled G s root ≡ x
  pub small : G.size x ≤ 2 ^ 48
  pub share : n ≤ 2 ^ s
