-- The residues modulo an odd number, each given by the least number that has it.
use Rattle.std.specs.Prelude.{◌≡◌, ℕ, suc, ◌+◌, ◌-◌, ◌*◌, ◌%◌, ◌<◌, ℤ, pos, negsuc, refl}
use Rattle.std.proofs.Common.{zero-le, suc-le-suc, mod-lt, le_trans, lit<}
use Rattle.kinds.specs.Group.{Group}

-- odd, so that halves are unique, and so large that the numbers from -65,536 to 65,536 have different residues
pub record Modulus : Type 0 where
  pub modulus : ℕ
  pub low_half : ℕ
  pub odd : modulus ≡ 1 + 2 * low_half
  pub wide : 131072 < modulus

pub record ResidueClass (p : Modulus) : Type 0 where
  pub least : ℕ
  pub below : least < p.modulus

-- the residue of a number
abbrev pub class : (p : Modulus) → ℕ → ResidueClass p
class p n = record { least = n % p.modulus; below = mod-lt n (le_trans (suc-le-suc zero-le) p.wide) }

-- sums are those of numbers, and every residue has size 0
abbrev pub residues : Modulus → Group
residues p = record {
  Member = ResidueClass p;
  zero = class p 0;
  plus = λ x y. class p (x.least + y.least);
  minus = λ x. class p (p.modulus - x.least);
  size = λ x. 0;
}

-- a number that has the residue of a whole number
abbrev pub whole_residue : Modulus → ℤ → ℕ
whole_residue p (pos n) = n
whole_residue p (negsuc n) = p.modulus - suc n

-- the modulus of the residue kind, the prime 2^31 - 1
abbrev pub mersenne : Modulus
mersenne = record { modulus = 2147483647; low_half = 1073741823; odd = refl; wide = lit< tt }
