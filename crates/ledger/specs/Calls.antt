-- The five calls that change a ledger: what each answers, why it is refused, and the ledger after it.
use Rattle.std.specs.Prelude.{ℕ, suc, Bool, true, false, cond, not, List, [], ◌∷◌, ◌++◌, Some, None, Option, ◌==◌, nat_eq, nat_le, nat_lt}
use Rattle.std.specs.List.{list_all}
use Rattle.points.specs.Points.{parents}
use Rattle.points.specs.Refusals.{Cause, cause, first}
use Rattle.points.specs.declared.refusal.Refusal.{Refusal}
use Rattle.points.specs.declared.refusal.Refusal.TheVariants.{ZeroNumber, Sample, PointIn, PointOut, ParentNotIn, PlacesFull, TicketsSpent, NoSuchTicket, PointNotIn, ChildKnown}
use Rattle.ledger.specs.Ledger.{Holding, Known, free, drawn, entered, Ledger, Ticket, is_in, is_out_by, is_out, is_taken, knowing, put, counted, has_child, is_held, no_point}

-- A draw names a point and a session, an entry a ticket and a sample, a sweep a session, a removal a point.
pub data Call (M : Type 0) : Type 0 where
  draw : ℕ → ℕ → Call M
  enter : Ticket → M → Call M
  withdraw : Ticket → Call M
  sweep : ℕ → Call M
  remove : ℕ → Call M

-- An accepted draw hands over a ticket, an accepted sweep tells how many points it frees, and any other accepted call is done.
pub data Answer : Type 0 where
  handed : Ticket → Answer
  done : Answer
  freed : ℕ → Answer
  refused : Refusal → Answer

-- what a call answers, and the ledger after it
pub record Outcome (M : Type 0) : Type 0 where
  pub answer : Answer
  pub after : Ledger M

-- why a session is refused
abbrev pub session_causes : ℕ → List Cause
session_causes s = cause ZeroNumber (s == 0) ∷ []

module _ {M : Type 0} where
  -- the outcome, unless the call is refused, which leaves the ledger as it was
  unfoldable pub unless : Option Refusal → Ledger M → Outcome M → Outcome M
  unless None L o = o
  unless (Some e) L o = record { answer = refused e; after = L }

  -- the same ledger with k known of the point p
  abbrev pub with_point : Ledger M → ℕ → Known M → Ledger M
  with_point L p k = knowing L (put L.known p k)

  -- the ticket of the next draw, of the point p
  abbrev pub ticket_of_next : Ledger M → ℕ → Ticket
  ticket_of_next L p = record { grid = L.grid; number = L.next; point = p }

  -- what the point is then out under, drawn by the session s
  abbrev pub next_holding : Ledger M → ℕ → Holding
  next_holding L s = record { ticket = L.next; session = s }

  -- p is out under the next ticket number, which then rises by one
  abbrev pub drawn_next : Ledger M → ℕ → ℕ → Ledger M
  drawn_next L p s = record {
    dims = L.dims;
    grid = L.grid;
    room = L.room;
    next = suc L.next;
    known = put L.known p (drawn (next_holding L s));
  }

  -- out under the session s
  abbrev pub is_by : ℕ → Known M → Bool
  is_by s = is_out_by (λ o. nat_eq o.session s)

  -- what a sweep of s leaves of k
  unfoldable pub swept : ℕ → Known M → Known M
  swept s k = cond (is_by s k) free k

  -- why a draw is refused
  abbrev pub draw_causes : Ledger M → ℕ → ℕ → List Cause
  draw_causes L p s =
      session_causes s
      ++ no_point L.dims p
      ++ cause PointIn (is_in (L.known p))
      ∷ cause PointOut (is_out (L.known p))
      ∷ cause ParentNotIn (not (list_all (λ q. is_in (L.known q)) (parents p)))
      ∷ cause PlacesFull (nat_le L.room (counted is_taken L))
      ∷ cause TicketsSpent (nat_lt 4294967295 L.next)
      ∷ []

  -- why a ticket is refused
  abbrev pub ticket_causes : Ledger M → Ticket → List Cause
  ticket_causes L t = cause NoSuchTicket (not (is_held L t)) ∷ []

  -- why a removal is refused
  abbrev pub remove_causes : Ledger M → ℕ → List Cause
  remove_causes L p = no_point L.dims p ++ cause PointNotIn (not (is_in (L.known p))) ∷ cause ChildKnown (has_child L p) ∷ []

  -- a sample that fits is in; any other is refused and leaves its point free
  unfoldable pub received : Bool → Ledger M → ℕ → M → Outcome M
  received true L p x = record { answer = done; after = with_point L p (entered x) }
  received false L p x = record { answer = refused Sample; after = with_point L p free }

  -- a call on a ledger; fits is the test of fit
  unfoldable pub step : (M → Bool) → Ledger M → Call M → Outcome M
  step fits L (draw p s) = unless (first (draw_causes L p s)) L (record { answer = handed (ticket_of_next L p); after = drawn_next L p s })
  step fits L (enter t x) = unless (first (ticket_causes L t)) L (received (fits x) L t.point x)
  step fits L (withdraw t) = unless (first (ticket_causes L t)) L (record { answer = done; after = with_point L t.point free })
  step fits L (sweep s) = unless (first (session_causes s)) L (record { answer = freed (counted (is_by s) L); after = knowing L (λ q. swept s (L.known q)) })
  step fits L (remove p) = unless (first (remove_causes L p)) L (record { answer = done; after = with_point L p free })
