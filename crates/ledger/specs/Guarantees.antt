-- The guarantees over every course of calls.
use Rattle.std.specs.Prelude.{◌≡◌, ℕ, Bool, List, [], ◌∷◌, ◌≢◌}
use Rattle.kinds.specs.Group.{Group}
use Rattle.kinds.specs.Halving.{Halving}
use Rattle.points.specs.declared.refusal.Refusal.TheVariants.{NoSuchTicket}
use Rattle.ledger.specs.Ledger.{Holding, drawn, entered, Ledger, Ticket}
use Rattle.ledger.specs.Calls.{Call, draw, enter, withdraw, handed, refused}
use Rattle.ledger.specs.Course.{Course, history_from, history, end, next, longer}
use Rattle.ledger.specs.History.{SomeIs, LastEntered, Ends, Outstanding, Ended, DrawnAnew}
use Rattle.ledger.specs.Interpolation.{Interpolates, SoleCoefficients, Alike, Agree}

-- the ticket's point is out under it, drawn by the session s
pub record OutUnder {M : Type 0} (L : Ledger M) (t : Ticket) (s : ℕ) : Type 0 where
  pub grid : t.grid ≡ L.grid
  pub holding : Holding
  pub known : L.known t.point ≡ drawn holding
  pub number : holding.ticket ≡ t.number
  pub session : holding.session ≡ s

-- the ticket under which the point p is out
abbrev pub ticket_of : {M : Type 0} → Ledger M → ℕ → Holding → Ticket
ticket_of L p o = record { grid = L.grid; number = o.ticket; point = p }

module _ {M : Type 0} (fits : M → Bool) where
  -- The ledger at the end says of each point what the history says.
  pub record TrueToHistory (c : Course M) : Type 0 where
    pub in_only : (p : ℕ) (x : M) → (end fits c).known p ≡ entered x → LastEntered (history fits c) p x
    pub in_all : (p : ℕ) (x : M) → LastEntered (history fits c) p x → (end fits c).known p ≡ entered x
    pub out_only : (p : ℕ) (o : Holding) → (end fits c).known p ≡ drawn o → Outstanding (history fits c) (ticket_of (end fits c) p o) o.session
    pub out_all : (t : Ticket) (s : ℕ) → Outstanding (history fits c) t s → OutUnder (end fits c) t s

  -- While a ticket is outstanding its point is out under it: no draw of the point is accepted as the next call, and no entry or withdrawal of the ticket is refused as unknown.
  pub record Held (c : Course M) (t : Ticket) (s : ℕ) : Type 0 where
    pub out : OutUnder (end fits c) t s
    pub no_draw : (r : ℕ) (u : Ticket) → (next fits c (draw t.point r)).answer ≢ handed u
    pub enterable : (x : M) → (next fits c (enter t x)).answer ≢ refused NoSuchTicket
    pub withdrawable : (next fits c (withdraw t)).answer ≢ refused NoSuchTicket

  -- Once it has ended, every entry or withdrawal of it is refused as unknown as the next call.
  pub record Void (c : Course M) (t : Ticket) : Type 0 where
    pub not_enterable : (x : M) → (next fits c (enter t x)).answer ≡ refused NoSuchTicket
    pub not_withdrawable : (next fits c (withdraw t)).answer ≡ refused NoSuchTicket

  -- After the call k that ends it and more calls ks, its point is out only if one of ks drew it.
  abbrev pub OnlyAnew : Course M → Type 0
  OnlyAnew c =
      (t : Ticket) (s : ℕ) → Outstanding (history fits c) t s
      → (k : Call M) → Ends t s (next fits c k)
      → (ks : List (Call M)) (o : Holding) → (end fits (longer c (k ∷ ks))).known t.point ≡ drawn o
      → SomeIs (DrawnAnew t.point) (history_from fits (end fits (longer c (k ∷ []))) ks)

  -- A ticket's life in every course.
  pub record TicketsHold : Type 0 where
    pub held : (c : Course M) (t : Ticket) (s : ℕ) → Outstanding (history fits c) t s → Held c t s
    pub void : (c : Course M) (t : Ticket) (s : ℕ) → Ended (history fits c) t s → Void c t
    pub only_anew : (c : Course M) → OnlyAnew c

-- All guarantees. What is in, and with which sample, is read off the history.
pub record Guarantees (G : Group) (H : Halving G) : Type 0 where
  -- The ledger at the end of a course is what its history says.
  pub true_to_history : (c : Course G.Member) → TrueToHistory H.fits c
  -- At each point in, the value is the sample last entered there, and the integral comes from the values at all inner places.
  pub interpolates : (c : Course G.Member) → Interpolates G H (end H.fits c) (LastEntered (history H.fits c))
  -- The surpluses meet all samples, and no other coefficients do.
  pub sole : (c : Course G.Member) → SoleCoefficients G H (end H.fits c) (LastEntered (history H.fits c))
  -- Two courses in as many dimensions, with the same points in and equal samples at their ends, end in equal surpluses, values and integral.
  pub agree :
      (b c : Course G.Member)
      → Alike (end H.fits b) (end H.fits c) (LastEntered (history H.fits b)) (LastEntered (history H.fits c))
      → Agree G H (end H.fits b) (end H.fits c)
  -- A point is out from its draw until its ticket ends, and the ticket is good for just as long.
  pub tickets : TicketsHold H.fits

-- The guarantees of a group, whatever halving does off doubles.
abbrev pub EveryCourse : Group → Type 0
EveryCourse G = (H : Halving G) → Guarantees G H
