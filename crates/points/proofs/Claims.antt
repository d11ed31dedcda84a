-- Claims that a test decides, and such a test at all numbers below a bound.
use Rattle.std.proofs.Common.{◌≡◌, ℕ, ◌<◌, ◌≤◌, Bool, true, false, not, ◌&&◌, ◌||◌, eqb, leb, ◌⊎◌, Some, None, Option, refl, subst, inl, inr}
use Rattle.std.proofs.lemmas.Bool.{eqb-true, eqb-false, leb-true, not-true, both_ways, and_parts, or_cases, agree_below, agree_below_at}

-- what a test can decide; `given` is under a test, `some` and `any` are about the value of an option
pub data Claim : Type 0 where
  fails : Claim
  same : ℕ → ℕ → Claim
  differ : ℕ → ℕ → Claim
  at_most : ℕ → ℕ → Claim
  holds : Bool → Claim
  given : Bool → Claim → Claim
  also : Claim → Claim → Claim
  either : Claim → Claim → Claim
  some : Option ℕ → (ℕ → Claim) → Claim
  any : Option ℕ → (ℕ → Claim) → Claim

-- what each claim says
abbrev pub Means : Claim → Type 0
Means fails = ⊥
Means (same m n) = m ≡ n
Means (differ m n) = m ≡ n → ⊥
Means (at_most m n) = m ≤ n
Means (holds b) = b ≡ true
Means (given b f) = b ≡ true → Means f
Means (also f g) = Means f × Means g
Means (either f g) = Means f ⊎ Means g
Means (some o f) = (q : ℕ) × (o ≡ Some q) × Means (f q)
Means (any o f) = (q : ℕ) → o ≡ Some q → Means (f q)

-- the test of each claim
unfoldable pub test : Claim → Bool
test fails = false
test (same m n) = eqb m n
test (differ m n) = not (eqb m n)
test (at_most m n) = leb m n
test (holds b) = b
test (given b f) = not b || test f
test (also f g) = test f && test g
test (either f g) = test f || test g
test (some None f) = false
test (some (Some q) f) = test (f q)
test (any None f) = true
test (any (Some q) f) = test (f q)

-- a claim whose test passes holds
pub sound : (f : Claim) → test f ≡ true → Means f
unfolding test
sound fails t = cc
sound (same m n) t = eqb-true m n t
sound (differ m n) t = eqb-false m n (not-true (eqb m n) t)
sound (at_most m n) t = leb-true m n t
sound (holds b) t = t
sound (given b f) t = λ e. elim (or_cases (not b) (test f) t) [ inl n ↦ absurd (both_ways b (not-true b n) e) | inr u ↦ sound f u ]
sound (also f g) t = let u = and_parts (test f) (test g) t in (sound f u.0, sound g u.1)
sound (either f g) t = elim (or_cases (test f) (test g) t) [ inl u ↦ inl (sound f u) | inr u ↦ inr (sound g u) ]
sound (some None f) t = cc
sound (some (Some q) f) t = (q, refl, sound (f q) t)
sound (any None f) t = λ q e. cc
sound (any (Some p) f) t = λ q e. let s : p ≡ q = cc in subst (λ x. Means (f x)) s (sound (f p) t)

-- the test of f at each number below n
abbrev pub tests : ℕ → (ℕ → Claim) → Bool
tests n f = agree_below (λ k. test (f k)) (λ k. true) n

-- so the claim holds at each number below n
pub below : (n : ℕ) (f : ℕ → Claim) → tests n f ≡ true → (k : ℕ) → k < n → Means (f k)
below n f t k h = sound (f k) (agree_below_at (λ j. test (f j)) (λ j. true) n k t h)
