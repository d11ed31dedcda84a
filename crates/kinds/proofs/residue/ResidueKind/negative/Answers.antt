use Rattle.std.proofs.Common.{zero-le, arith}
use Rattle.kinds.specs.Residues.{mersenne}
use Rattle.kinds.specs.ResiduesLemmas.{residue_same}
use Rattle.kinds.proofs.residue.ResidueKind.negative.Goals as goal

pub returns-clause-negative : goal.returns-clause-negative
returns-clause-negative c = (zero-le, residue_same mersenne (omega arith))
