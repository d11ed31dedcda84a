use Rattle.std.proofs.Common.{◌+◌, ◌/◌, ◌%◌, inl, inr, arith}
use Rattle.kinds.specs.ResiduesLemmas.{half_told}
use Rattle.modular.specs.Million.{million}
use Rattle.modular.proofs.ModularKind.half.Goals as goal

pub returns-then-least-eq0 : goal.returns-then-least-eq0
returns-then-least-eq0 c = half_told million c.args.self.count (c.args.self.count % 1000003 / 2) (inl (omega arith))

pub returns-else-least-eq0 : goal.returns-else-least-eq0
returns-else-least-eq0 c = half_told million c.args.self.count ((c.args.self.count % 1000003 + 1000003) / 2) (inr (omega arith))
