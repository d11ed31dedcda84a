use Rattle.std.proofs.Common.{refl, arith}
use Rattle.std.proofs.lemmas.Int.{ints}
use Rattle.kinds.specs.Residues.{mersenne}
use Rattle.kinds.specs.ResiduesLemmas.{residue_same}
use Rattle.kinds.proofs.examples.worked_halves.Goals as goal

pub returns : goal.returns
returns c = record { residue_of_one = residue_same mersenne refl; count_of_three = λ y e. omega (arith, ints); count_of_minus_two = refl }
