-- Each turn leaves less of the input.
use Rattle.std.proofs.Common.{length}
use Rattle.trials.proofs.main.Given as goal

abbrev pub decreases-loop-text : goal.decreases-loop-text
decreases-loop-text l = length l.rest
