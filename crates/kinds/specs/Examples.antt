-- Worked examples of halves.
use Rattle.std.specs.Prelude.{ℤ, pos, negsuc, Some, None}
use Rattle.kinds.specs.Integers.{integers}
use Rattle.kinds.specs.Operations.{Half}
use Rattle.kinds.specs.Residues.{ResidueClass, residues, class, mersenne}

-- Members are taken as values that mean themselves.
pub record WorkedHalves : Type 0 where
  pub residue_of_one : Half (residues mersenne) (λ (x : ResidueClass mersenne). x) (class mersenne 1) (Some (class mersenne 1073741824))
  pub count_of_three : Half integers (λ (x : ℤ). x) (pos 3) None
  pub count_of_minus_two : Half integers (λ (x : ℤ). x) (negsuc 1) (Some (negsuc 0))
