-- Worked courses on a grid of one dimension, number 7, with samples that are counts of 2^-28.
use Rattle.std.specs.Prelude.{◌≡◌, ℕ, ◌+◌, ◌*◌, ◌^◌, List, [], ◌∷◌, map, ℤ, pos}
use Rattle.kinds.specs.Halving.{Halving}
use Rattle.kinds.specs.Integers.{integers, whole_count}
use Rattle.points.specs.declared.refusal.Refusal.TheVariants.{Sample, TicketsSpent, NoSuchTicket}
use Rattle.ledger.specs.Ledger.{free, Ticket}
use Rattle.ledger.specs.Calls.{Call, draw, enter, withdraw, sweep, Answer, handed, done, freed, refused}
use Rattle.ledger.specs.Course.{Event, Course, history, end}

-- the point 64
abbrev pub middle : ℕ
middle = 64 * 2 ^ 24

-- the ticket with the number n for that point
abbrev pub ticket : ℕ → Ticket
ticket n = record { grid = 7; number = n; point = middle }

-- a course with this first ticket number
abbrev pub starting : ℕ → List (Call ℤ) → Course ℤ
starting n calls = record { figures = record { dims = 1; room = 8; lookups = 16; grid = 7; next = n }; calls = calls }

-- the answers of a course
unfoldable pub answers : Halving integers → Course ℤ → List Answer
answers H c = map (λ (e : Event ℤ). e.answer) (history H.fits c)

-- the last ticket number is drawn and withdrawn, and the point is drawn again
abbrev pub last_number : Course ℤ
last_number = starting 4294967295 (draw middle 5 ∷ withdraw (ticket 4294967295) ∷ draw middle 5 ∷ [])

-- session 5 draws and is swept; session 6 draws, session 5 is swept again, and both tickets are entered
abbrev pub two_sessions : Course ℤ
two_sessions =
    starting 1
    (draw middle 5
    ∷ sweep 5
    ∷ draw middle 6
    ∷ sweep 5
    ∷ enter (ticket 1) (whole_count (pos 8))
    ∷ enter (ticket 2) (whole_count (pos 8))
    ∷ [])

-- the sample 65,536 is entered
abbrev pub greatest : Course ℤ
greatest = starting 1 (draw middle 5 ∷ enter (ticket 1) (whole_count (pos 65536)) ∷ [])

-- the sample 65,537 is entered
abbrev pub too_great : Course ℤ
too_great = starting 1 (draw middle 5 ∷ enter (ticket 1) (pos (2 ^ 44 + 2 ^ 28)) ∷ [])

-- what these courses answer, by any halving
pub record WorkedCourses (H : Halving integers) : Type 0 where
  -- the last ticket number is used once
  pub last_number_answers : answers H last_number ≡ handed (ticket 4294967295) ∷ done ∷ refused TicketsSpent ∷ []
  -- a sweep frees what its session drew, and not what another drew since
  pub two_sessions_answers : answers H two_sessions ≡ handed (ticket 1) ∷ freed 1 ∷ handed (ticket 2) ∷ freed 0 ∷ refused NoSuchTicket ∷ done ∷ []
  -- 65,536 fits
  pub greatest_answers : answers H greatest ≡ handed (ticket 1) ∷ done ∷ []
  -- 65,537 does not, and leaves its point free
  pub too_great_answers : answers H too_great ≡ handed (ticket 1) ∷ refused Sample ∷ []
  pub too_great_frees : (end H.fits too_great).known middle ≡ free
