-- A course: a new grid, made with any figures, and any calls on it, one after the other.
use Rattle.std.specs.Prelude.{Bool, List, [], ◌∷◌, ◌++◌}
use Rattle.ledger.specs.Ledger.{Ledger}
use Rattle.ledger.specs.Calls.{Call, Answer, step}
use Rattle.ledger.specs.Making.{Figures, make}

-- a call with its answer
pub record Event (M : Type 0) : Type 0 where
  pub call : Call M
  pub answer : Answer

-- the figures of the grid, and the calls
pub record Course (M : Type 0) : Type 0 where
  pub figures : Figures
  pub calls : List (Call M)

module _ {M : Type 0} (fits : M → Bool) where
  -- a call on a ledger, with its answer
  unfoldable pub event : Ledger M → Call M → Event M
  event L c = record { call = c; answer = (step fits L c).answer }

  -- the calls on a ledger with their answers
  unfoldable pub history_from : Ledger M → List (Call M) → List (Event M)
  history_from L [] = []
  history_from L (c ∷ cs) = event L c ∷ history_from (step fits L c).after cs

  -- the ledger after these calls
  unfoldable pub end_from : Ledger M → List (Call M) → Ledger M
  end_from L [] = L
  end_from L (c ∷ cs) = end_from (step fits L c).after cs

  -- the calls of a course with their answers
  abbrev pub history : Course M → List (Event M)
  history c = history_from (make c.figures) c.calls

  -- the ledger at its end
  abbrev pub end : Course M → Ledger M
  end c = end_from (make c.figures) c.calls

  -- one more call at its end, with its answer
  abbrev pub next : Course M → Call M → Event M
  next c k = event (end c) k

-- the course with more calls
abbrev pub longer : {M : Type 0} → Course M → List (Call M) → Course M
longer c ks = record { figures = c.figures; calls = c.calls ++ ks }
