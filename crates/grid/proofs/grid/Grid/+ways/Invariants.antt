-- Each call has one direction fewer to go.
use Rattle.std.proofs.Common.{◌-◌}
use Rattle.grid.proofs.grid.Grid.+ways.Given as goal

abbrev pub decreases-ways : goal.decreases-ways
decreases-ways g l = 4 - l.direction
