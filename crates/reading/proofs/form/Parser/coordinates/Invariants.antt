-- The cursor goes onward with each coordinate.
use Rattle.text.specs.Cursor.{Onward}
use Rattle.reading.proofs.form.Parser.coordinates.Given as goal

abbrev pub invariant-loop-coordinate : goal.invariant-loop-coordinate
invariant-loop-coordinate l = Onward l.fn.self.at l.self.at
