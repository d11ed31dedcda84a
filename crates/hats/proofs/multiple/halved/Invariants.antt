-- What is left, doubled once for each turn, is the value.
use Rattle.std.proofs.Common.{◌≡◌}
use Rattle.kinds.specs.Group.{doubled}
use Rattle.hats.proofs.multiple.halved.Given as goal

abbrev pub invariant-loop : goal.invariant-loop
invariant-loop g l = doubled g.K.Kind.group l.counter (g.K.Kind.meaning l.half) ≡ g.K.Kind.meaning l.initial.half
