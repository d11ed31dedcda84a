-- A number with the twos taken out of it.
use Rattle.std.proofs.Common.{◌≡◌, ℕ, zero, suc, ◌+◌, ◌-◌, ◌*◌, ◌/◌, ◌%◌, ◌^◌, ◌<◌, ◌≤◌, min, ◌⊎◌, ℤ, pos, negsuc, ◌*ℤ◌, neg_ℤ, sym, refl, ap, ap₂, ◌∙◌, inl, inr, arith, w64, SFits}
use native.Mathlib.Nat.{pow-succ', zero-mul}
use lib.Count.{count_trailing_zeros}
use Rattle.std.specs.Int.Signed.{quot_z}
use Rattle.std.specs.Prelude.{unsigned_abs}
use Rattle.std.proofs.Math.Nat.{div-div-eq-div-mul, div-le_self}
use mir.ValLaws.{sfits_le}
use Rattle.std.proofs.lemmas.Bool.{cases_lt}
use Rattle.report.specs.Lowest.{LowestTerms}

-- one more power of two
div_twice : (n t : ℕ) → n / 2 ^ suc t ≡ n / 2 / 2 ^ t
div_twice n t = ap (λ m. n / m) (pow-succ' 2 t) ∙ sym (div-div-eq-div-mul n 2 (2 ^ t))

-- as many twos divide a number of k digits as there are zeros at its end
exact : (k n t : ℕ) → t ≤ count_trailing_zeros k n → n / 2 ^ t * 2 ^ t ≡ n
unfolding count_trailing_zeros
exact k n zero h = omega arith
exact zero n (suc t) h = absurd (omega arith)
exact (suc k) n (suc t) h = go (n % 2) refl h (exact k (n / 2) t)
  where
    go : (r : ℕ) → n % 2 ≡ r → suc t ≤ lib.Count.under r (count_trailing_zeros k (n / 2)) → (t ≤ count_trailing_zeros k (n / 2) → n / 2 / 2 ^ t * 2 ^ t ≡ n / 2) → n / 2 ^ suc t * 2 ^ suc t ≡ n
    go zero e h half =
        let q = n / 2 / 2 ^ t in
        let p = 2 ^ t in
        let twice : q * (2 * p) ≡ 2 * (q * p) = grind arith in
        ap₂ ◌*◌ (div_twice n t) (pow-succ' 2 t) ∙ twice ∙ omega (arith, e, half (omega (arith, h)))
    go (suc r) e h half = absurd (omega (arith, h))

-- where not all digits are zeros, what is left is odd
odd : (k n : ℕ) → count_trailing_zeros k n < k → n / 2 ^ count_trailing_zeros k n % 2 ≡ 1
unfolding count_trailing_zeros
odd zero n h = absurd (omega arith)
odd (suc k) n h = go (n % 2) refl h (odd k (n / 2))
  where
    go : (r : ℕ) → n % 2 ≡ r → lib.Count.under r (count_trailing_zeros k (n / 2)) < suc k
        → (count_trailing_zeros k (n / 2) < k → n / 2 / 2 ^ count_trailing_zeros k (n / 2) % 2 ≡ 1) → n / 2 ^ lib.Count.under r (count_trailing_zeros k (n / 2)) % 2 ≡ 1
    go zero e h half = ap (λ m. m % 2) (div_twice n (count_trailing_zeros k (n / 2))) ∙ half (omega (arith, h))
    go (suc r) e h half = omega (arith, e)

-- the quotient of a number that the divisor divides
negative_times : (m d : ℕ) → neg_ℤ (pos m) *ℤ pos d ≡ neg_ℤ (pos (m * d))
negative_times zero d = ap pos (zero-mul d) ∙ ap (λ k. neg_ℤ (pos k)) (sym (zero-mul d))
negative_times (suc m) d = refl

quot_times : (z : ℤ) (d : ℕ) → unsigned_abs z / d * d ≡ unsigned_abs z → quot_z z (pos d) *ℤ pos d ≡ z
quot_times (pos a) d e = ap pos e
quot_times (negsuc a) d e = negative_times (suc a / d) d ∙ ap (λ k. neg_ℤ (pos k)) e

abs_negative : (m : ℕ) → unsigned_abs (neg_ℤ (pos m)) ≡ m
abs_negative zero = refl
abs_negative (suc m) = refl

abs_quot : (z : ℤ) (d : ℕ) → unsigned_abs (quot_z z (pos d)) ≡ unsigned_abs z / d
abs_quot (pos a) d = refl
abs_quot (negsuc a) d = abs_negative (suc a / d)

pub lowest : (z : ℤ) (h : ℕ) → h ≡ min (count_trailing_zeros 64 (unsigned_abs z)) 28 → LowestTerms z (quot_z z (pos (2 ^ h))) (28 - h)
lowest z h e =
    let n = unsigned_abs z in
    record {
      taken_out = h;
      exponents = omega (arith, e);
      equal = quot_times z (2 ^ h) (exact 64 n h (omega (arith, e)));
      smallest = left (cases_lt (count_trailing_zeros 64 n) 28);
    }
  where
    left : (count_trailing_zeros 64 (unsigned_abs z) < 28) ⊎ (28 ≤ count_trailing_zeros 64 (unsigned_abs z)) → (28 - h ≡ 0) ⊎ (unsigned_abs (quot_z z (pos (2 ^ h))) % 2 ≡ 1)
    left (inl few) =
        let n = unsigned_abs z in
        let own : h ≡ count_trailing_zeros 64 n = omega (arith, e, few) in
        inr (ap (λ m. m % 2) (abs_quot z (2 ^ h) ∙ ap (λ t. n / 2 ^ t) own) ∙ odd 64 n (omega (arith, few)))
    left (inr many) = inl (omega (arith, e, many))

-- a quotient fits where the number does
pub quot_fits : (z : ℤ) (d : ℕ) → SFits w64 z → SFits w64 (quot_z z (pos d))
quot_fits (pos a) d f = sfits_le (div-le_self a d) f
quot_fits (negsuc a) d f = go (suc a / d) (div-le_self (suc a) d)
  where
    go : (m : ℕ) → m ≤ suc a → SFits w64 (neg_ℤ (pos m))
    go zero h = sfits_le (omega arith) f
    go (suc m) h = sfits_le (omega (arith, h)) f
