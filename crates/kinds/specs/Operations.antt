-- What the operations of a kind answer. X are the values, and m says which member of the group a value means.
use Rattle.std.specs.Prelude.{◌≡◌, ◌+◌, ◌^◌, ◌<◌, ◌≤◌, Bool, true, false, ℤ, Some, None, Option, ◌≢◌}
use Rattle.kinds.specs.Group.{Group, twice}
use Rattle.kinds.specs.Halving.{Fits}
use Rattle.kinds.specs.Numbers.{InRange}

-- exact, or nothing exactly when the two sizes together pass 2^60
abbrev pub Sum : (G : Group) {X : Type 0} → (X → G.Member) → X → X → Option X → Type 0
Sum G m x y None = 2 ^ 60 < G.size (m x) + G.size (m y)
Sum G m x y (Some z) = (G.size (m x) + G.size (m y) ≤ 2 ^ 60) × (m z ≡ G.plus (m x) (m y))

-- exact, or nothing exactly when the size passes 2^60
abbrev pub Negative : (G : Group) {X : Type 0} → (X → G.Member) → X → Option X → Type 0
Negative G m x None = 2 ^ 60 < G.size (m x)
Negative G m x (Some z) = (G.size (m x) ≤ 2 ^ 60) × (m z ≡ G.minus (m x))

-- exact, or nothing exactly when no member doubled is the value
abbrev pub Half : (G : Group) {X : Type 0} → (X → G.Member) → X → Option X → Type 0
Half G m x None = (y : G.Member) → twice G y ≢ m x
Half G m x (Some z) = twice G (m z) ≡ m x

-- yes exactly when the value fits
abbrev pub Fit : (G : Group) → G.Member → Bool → Type 0
Fit G x true = Fits G x
Fit G x false = Fits G x → ⊥

-- the value of a number of the range, and nothing for any other
abbrev pub Whole : (G : Group) {X : Type 0} → (X → G.Member) → (ℤ → X) → ℤ → Option X → Type 0
Whole G m number n None = InRange n → ⊥
Whole G m number n (Some z) = InRange n × (m z ≡ m (number n))

-- the number of the range that has this value, or nothing exactly when there is none
abbrev pub Back : (G : Group) {X : Type 0} → (X → G.Member) → (ℤ → X) → X → Option ℤ → Type 0
Back G m number x None = (n : ℤ) → InRange n → m (number n) ≢ m x
Back G m number x (Some n) = InRange n × (m (number n) ≡ m x)
