-- Lowest terms of a dyadic number.
use Rattle.std.specs.Prelude.{◌≡◌, ℕ, ◌+◌, ◌%◌, ◌^◌, ◌⊎◌, ℤ, pos, ◌*ℤ◌, unsigned_abs}

-- count / 2^28 is n / 2^e, with the smallest e from 0
pub record LowestTerms (count n : ℤ) (e : ℕ) : Type 0 where
  pub taken_out : ℕ
  pub exponents : e + taken_out ≡ 28
  pub equal : n *ℤ pos (2 ^ taken_out) ≡ count
  pub smallest : (e ≡ 0) ⊎ (unsigned_abs n % 2 ≡ 1)
