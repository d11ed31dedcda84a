use Rattle.std.proofs.Common.{◌+◌, ◌/◌, inl, inr, arith}
use Rattle.kinds.specs.Residues.{mersenne}
use Rattle.kinds.specs.ResiduesLemmas.{half_told}
use Rattle.kinds.proofs.residue.ResidueKind.half.Goals as goal

pub returns-then-least-eq0-clause-half : goal.returns-then-least-eq0-clause-half
returns-then-least-eq0-clause-half c = half_told mersenne c.args.self.bits (c.least-least.result / 2) (inl (omega arith))

pub returns-else-least-eq0-clause-half : goal.returns-else-least-eq0-clause-half
returns-else-least-eq0-clause-half c = half_told mersenne c.args.self.bits ((c.least-least.result + 2147483647) / 2) (inr (omega arith))
