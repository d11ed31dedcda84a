use Rattle.std.proofs.Common.{zero-le, arith}
use Rattle.kinds.specs.Residues.{mersenne}
use Rattle.kinds.specs.ResiduesLemmas.{residue_same}
use Rattle.kinds.proofs.residue.ResidueKind.sum.Goals as goal

pub returns-clause-sum : goal.returns-clause-sum
returns-clause-sum c = (zero-le, residue_same mersenne (omega arith))
