-- There are at most as many points in as records so far.
use Rattle.std.proofs.Common.{◌≤◌}
use Rattle.grid.proofs.grid.Grid.count.Given as goal

abbrev pub invariant-loop-i : goal.invariant-loop-i
invariant-loop-i g l = l.count ≤ l.i
