-- What a history, the calls of a course with their answers, says of points and tickets.
use Rattle.std.specs.Prelude.{◌≡◌, ℕ, ◌⊎◌, List, [], ◌∷◌}
use Rattle.points.specs.declared.refusal.Refusal.TheVariants.{Sample}
use Rattle.ledger.specs.Ledger.{Ticket}
use Rattle.ledger.specs.Calls.{draw, enter, withdraw, sweep, remove, handed, done, freed, refused}
use Rattle.ledger.specs.Course.{Event}

module _ {X : Type 0} where
  -- no event of the list is such
  abbrev pub NoneIs : (X → Type 0) → List X → Type 0
  NoneIs P [] = Unit {0}
  NoneIs P (e ∷ es) = (P e → ⊥) × NoneIs P es

  -- some event of the list is such
  abbrev pub SomeIs : (X → Type 0) → List X → Type 0
  SomeIs P [] = ⊥
  SomeIs P (e ∷ es) = P e ⊎ SomeIs P es

  -- some event is P, and of those after it none is Q
  abbrev pub NotSince : (X → Type 0) → (X → Type 0) → List X → Type 0
  NotSince P Q [] = ⊥
  NotSince P Q (e ∷ es) = (P e × NoneIs Q es) ⊎ NotSince P Q es

  -- some event is P, and of those after it some is Q
  abbrev pub Since : (X → Type 0) → (X → Type 0) → List X → Type 0
  Since P Q [] = ⊥
  Since P Q (e ∷ es) = (P e × SomeIs Q es) ⊎ Since P Q es

module _ {M : Type 0} where
  -- an accepted entry of the sample x at the point p
  abbrev pub Enters : ℕ → M → Event M → Type 0
  Enters p x e = (t : Ticket) × (t.point ≡ p) × (e.call ≡ enter t x) × (e.answer ≡ done)

  -- an accepted removal of p
  abbrev pub Removes : ℕ → Event M → Type 0
  Removes p e = (e.call ≡ remove p) × (e.answer ≡ done)

  -- an accepted entry or removal of p
  abbrev pub Changes : ℕ → Event M → Type 0
  Changes p e = ((x : M) × Enters p x e) ⊎ Removes p e

  -- p is in, and x is the sample last entered there: x was entered, and no entry or removal of p was accepted since
  abbrev pub LastEntered : List (Event M) → ℕ → M → Type 0
  LastEntered es p x = NotSince (Enters p x) (Changes p) es

  -- an accepted draw by the session s, which hands over the ticket t
  abbrev pub Draws : Ticket → ℕ → Event M → Type 0
  Draws t s e = (e.call ≡ draw t.point s) × (e.answer ≡ handed t)

  -- the ticket t is entered: the entry is accepted, or the sample does not fit
  abbrev pub EntersTicket : Ticket → Event M → Type 0
  EntersTicket t e = (x : M) × (e.call ≡ enter t x) × ((e.answer ≡ done) ⊎ (e.answer ≡ refused Sample))

  -- t is withdrawn
  abbrev pub Withdraws : Ticket → Event M → Type 0
  Withdraws t e = (e.call ≡ withdraw t) × (e.answer ≡ done)

  -- the session s is swept
  abbrev pub Sweeps : ℕ → Event M → Type 0
  Sweeps s e = (n : ℕ) × (e.call ≡ sweep s) × (e.answer ≡ freed n)

  -- the ticket t of the session s is entered or withdrawn, or its session is swept
  abbrev pub Ends : Ticket → ℕ → Event M → Type 0
  Ends t s e = EntersTicket t e ⊎ (Withdraws t e ⊎ Sweeps s e)

  -- t was handed over to s, and has not ended since
  abbrev pub Outstanding : List (Event M) → Ticket → ℕ → Type 0
  Outstanding es t s = NotSince (Draws t s) (Ends t s) es

  -- t was handed over to s, and has ended since
  abbrev pub Ended : List (Event M) → Ticket → ℕ → Type 0
  Ended es t s = Since (Draws t s) (Ends t s) es

  -- an accepted draw of p
  abbrev pub DrawnAnew : ℕ → Event M → Type 0
  DrawnAnew p e = (t : Ticket) × (s : ℕ) × (t.point ≡ p) × Draws t s e
