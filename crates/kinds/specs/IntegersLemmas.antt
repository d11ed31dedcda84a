-- The laws of the integers: sums, sizes, halves, fit and whole numbers.
use Rattle.std.specs.Prelude.{◌≡◌, ℕ, zero, suc, ◌+◌, ◌*◌, ◌/◌, ◌%◌, ◌^◌, ◌≤◌, Bool, true, false, ◌&&◌, ℤ, pos, negsuc, ◌+ℤ◌, ◌*ℤ◌, neg_ℤ, ◌==◌, int_div, nat_le, unsigned_abs, refl}
use Rattle.std.proofs.Common.{sym, ap, ◌∙◌, mul-add, pow-suc, arith}
use Rattle.std.proofs.Math.IntN.{+ℤ_assoc, +ℤ_comm, +ℤ_idr, +ℤ_invr, neg_ℤ-+ℤ}
use Rattle.std.proofs.lemmas.Int.{ints}
use Rattle.std.proofs.lemmas.Bool.{and_parts, and_from, leb-true, le-leb, eqb-true, eq-eqb, both_ways}
use Rattle.kinds.specs.Group.{Laws, doubled}
use Rattle.kinds.specs.Halving.{Halving, UniqueHalves, Fits}
use Rattle.kinds.specs.Numbers.{Numbers, InRange}
use Rattle.kinds.specs.Operations.{Fit}
use Rattle.kinds.specs.Integers.{integers, whole_count}

size_minus : (x : ℤ) → unsigned_abs (neg_ℤ x) ≡ unsigned_abs x
size_minus (pos zero) = refl
size_minus (pos (suc n)) = refl
size_minus (negsuc n) = refl

pub integer_laws : Laws integers
integer_laws = record {
  plus_assoc = +ℤ_assoc;
  plus_comm = +ℤ_comm;
  plus_zero = +ℤ_idr;
  plus_minus = +ℤ_invr;
  size_zero = refl;
  size_minus = size_minus;
  size_plus = λ x y. omega (arith, ints);
}

pub integer_unique : UniqueHalves integers
integer_unique x y e = omega (arith, ints)

half : ℤ → ℤ
half x = int_div x (pos 2)

half_twice : (x : ℤ) → half (x +ℤ x) ≡ x
unfolding half
half_twice (pos n) = ap pos (omega arith)
half_twice (negsuc n) = ap (λ k. neg_ℤ (pos k)) (let e : suc (suc (n + n)) / 2 ≡ suc n = omega arith in e)

-- doubling n times is a product with 2^n
doubled_is : (n : ℕ) (y : ℤ) → doubled integers n y ≡ y *ℤ pos (2 ^ n)
unfolding doubled
doubled_is zero y = omega (arith, ints)
doubled_is (suc n) y = ap (λ z. z +ℤ z) (doubled_is n y) ∙ go y
  where
    grows : (a : ℕ) → a * 2 ^ n + a * 2 ^ n ≡ a * 2 ^ suc n
    grows a = sym (mul-add a (2 ^ n) (2 ^ n)) ∙ ap (λ k. a * k) (let e = pow-suc 2 n in omega arith)

    go : (y : ℤ) → y *ℤ pos (2 ^ n) +ℤ y *ℤ pos (2 ^ n) ≡ y *ℤ pos (2 ^ suc n)
    go (pos a) = ap pos (grows a)
    go (negsuc a) = sym (neg_ℤ-+ℤ (pos (suc a * 2 ^ n)) (pos (suc a * 2 ^ n))) ∙ ap (λ k. neg_ℤ (pos k)) (grows (suc a))

-- a size of at most 2^44, and a multiple of 2^28
fits : ℤ → Bool
fits x = nat_le (unsigned_abs x) (2 ^ 44) && unsigned_abs x % 2 ^ 28 == 0

unit : ℤ → ℤ
unit x = int_div x (pos (2 ^ 28))

unit_rooted : (x : ℤ) → unsigned_abs x % 2 ^ 28 ≡ 0 → unit x *ℤ pos (2 ^ 28) ≡ x
unfolding unit
unit_rooted (pos a) e = ap pos (omega arith)
unit_rooted (negsuc a) e = omega (arith, ints)

fits_only : (x : ℤ) → fits x ≡ true → Fits integers x
unfolding fits
fits_only x t =
    let p = and_parts (nat_le (unsigned_abs x) (2 ^ 44)) (unsigned_abs x % 2 ^ 28 == 0) t in
    record {
      small = leb-true (unsigned_abs x) (2 ^ 44) p.0;
      root = unit x;
      rooted = doubled_is 28 (unit x) ∙ unit_rooted x (eqb-true (unsigned_abs x % 2 ^ 28) 0 p.1);
    }

multiple : (y x : ℤ) → y *ℤ pos (2 ^ 28) ≡ x → unsigned_abs x % 2 ^ 28 ≡ 0
multiple y x e = omega (arith, ints)

fits_all : (x : ℤ) → Fits integers x → fits x ≡ true
unfolding fits
fits_all x f =
    and_from (nat_le (unsigned_abs x) (2 ^ 44)) (unsigned_abs x % 2 ^ 28 == 0) (le-leb (unsigned_abs x) (2 ^ 44) f.small)
    (eq-eqb (unsigned_abs x % 2 ^ 28) 0 (multiple f.root x (sym (doubled_is 28 f.root) ∙ f.rooted)))

-- the test of fit, once the size is small enough
pub fit_told : (x : ℤ) (b : Bool) → b ≡ (unsigned_abs x % 2 ^ 28 == 0) → unsigned_abs x ≤ 2 ^ 44 → Fit integers x b
unfolding fits
fit_told x true e h = fits_only x (and_from (nat_le (unsigned_abs x) (2 ^ 44)) (unsigned_abs x % 2 ^ 28 == 0) (le-leb (unsigned_abs x) (2 ^ 44) h) (sym e))
fit_told x false e h = λ f. both_ways (unsigned_abs x % 2 ^ 28 == 0) (sym e) (and_parts (nat_le (unsigned_abs x) (2 ^ 44)) (unsigned_abs x % 2 ^ 28 == 0) (fits_all x f)).1

pub integer_halving : Halving integers
integer_halving = record {
  halve = half;
  halve_twice = half_twice;
  size_twice = λ x. omega (arith, ints);
  fits = fits;
  fits_only = fits_only;
  fits_all = fits_all;
}

fit : (n : ℤ) → InRange n → Fits integers (whole_count n)
fit n r = record { small = omega (arith, ints); root = n; rooted = doubled_is 28 n }

pub integer_numbers : Numbers integers whole_count
integer_numbers = record {
  fit = fit;
  sums = λ m n r s t. omega (arith, ints);
  apart = λ m n r s e. omega (arith, ints);
}
