-- Each line leaves less of the text.
use Rattle.std.proofs.Common.{length}
use Rattle.reading.proofs.reader.read_points.Given as goal

abbrev pub decreases-loop-line : goal.decreases-loop-line
decreases-loop-line g l = length l.parser.at.rest.now
