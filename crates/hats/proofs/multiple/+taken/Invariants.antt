-- Each call has half the number, or less.
use Rattle.hats.proofs.multiple.+taken.Given as goal

abbrev pub decreases-taken : goal.decreases-taken
decreases-taken g l = l.times
