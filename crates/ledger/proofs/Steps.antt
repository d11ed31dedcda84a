-- Every way that a call can go.
use Rattle.std.proofs.Common.{◌≡◌, ℕ, ◌<◌, Bool, true, false, not, ◌&&◌, eqb, List, [], ◌∷◌, Some, None, refl, ap, ◌≤◌, arith}
use Rattle.std.specs.List.{list_all}
use Rattle.std.proofs.lemmas.Bool.{both_ways, not-false, and_parts, leb-false}
use Rattle.points.specs.Points.{parents}
use Rattle.points.specs.Refusals.{Cause, cause, first, number_of}
use Rattle.points.specs.declared.refusal.Refusal.{Refusal}
use Rattle.points.specs.declared.refusal.Refusal.TheVariants.{Sample}
use Rattle.ledger.specs.Ledger.{free, entered, Ledger, Ticket, is_in, is_out, is_taken, knowing, counted, has_child, is_held, no_point}
use Rattle.ledger.specs.Calls.{Call, draw, enter, withdraw, sweep, remove, handed, done, freed, refused, Outcome, unless, with_point, ticket_of_next, drawn_next, swept, draw_causes, ticket_causes, session_causes, remove_causes, received, step}
use Rattle.ledger.specs.Course.{Event}

-- no cause holds
abbrev pub Clear : List Cause → Type 0
Clear [] = Unit {0}
Clear (cause e b ∷ cs) = (b ≡ false) × Clear cs

pub first_none : (cs : List Cause) → first cs ≡ None → Clear cs
first_none [] e = tt
first_none (cause n true ∷ cs) e = cc
first_none (cause n false ∷ cs) e = (refl, first_none cs e)

pub none_first : (cs : List Cause) → Clear cs → first cs ≡ None
none_first [] k = refl
none_first (cause n true ∷ cs) k = cc k.0
none_first (cause n false ∷ cs) k = none_first cs k.1

-- none of the causes is that a sample does not fit
spares : List Cause → Bool
spares [] = true
spares (cause e b ∷ cs) = not (eqb (number_of e) 6) && spares cs

first_spares : (cs : List Cause) (e : Refusal) → spares cs ≡ true → first cs ≡ Some e → e ≡ Sample → ⊥
unfolding spares
first_spares [] e s f = cc
first_spares (cause n true ∷ cs) e s f = λ h. let i : n ≡ Sample = cc in both_ways (not (eqb (number_of n) 6)) (ap (λ m. not (eqb (number_of m) 6)) i) (and_parts (not (eqb (number_of n) 6)) _ s).0
first_spares (cause n false ∷ cs) e s f = first_spares cs e (and_parts (not (eqb (number_of n) 6)) _ s).1 f

-- what an accepted draw has found
pub record Drawable {M : Type 0} (L : Ledger M) (p : ℕ) : Type 0 where
  pub lawful : first (no_point L.dims p) ≡ None
  pub not_in : is_in (L.known p) ≡ false
  pub not_out : is_out (L.known p) ≡ false
  pub parents_in : list_all (λ q. is_in (L.known q)) (parents p) ≡ true
  pub room_left : counted is_taken L < L.room

pub drawable : {M : Type 0} (L : Ledger M) (p s : ℕ) → Clear (draw_causes L p s) → Drawable L p
drawable L p s k = record {
  lawful = none_first (no_point L.dims p) (k.1.0, (k.1.1.0, (k.1.1.1.0, tt)));
  not_in = k.1.1.1.1.0;
  not_out = k.1.1.1.1.1.0;
  parents_in = not-false _ k.1.1.1.1.1.1.0;
  room_left = leb-false L.room (counted is_taken L) k.1.1.1.1.1.1.1.0;
}

-- what an accepted removal has found
pub record Removable {M : Type 0} (L : Ledger M) (p : ℕ) : Type 0 where
  pub inside : is_in (L.known p) ≡ true
  pub childless : has_child L p ≡ false

removable : {M : Type 0} (L : Ledger M) (p : ℕ) → Clear (remove_causes L p) → Removable L p
removable L p k = record { inside = not-false _ k.1.1.1.0; childless = k.1.1.1.1.0 }

-- a call with the answer of an outcome
abbrev pub did : {M : Type 0} → Call M → Outcome M → Event M
did c o = record { call = c; answer = o.answer }

module _ {M : Type 0} (fits : M → Bool) where
  -- the ledger after a call
  abbrev pub then : Ledger M → Call M → Ledger M
  then L c = (step fits L c).after

  -- the ways of a call
  pub data Way (L : Ledger M) : Call M → Outcome M → Type 0 where
    refuses : (c : Call M) (e : Refusal) → (e ≡ Sample → ⊥) → Way L c (record { answer = refused e; after = L })
    draws : (p s : ℕ) → Drawable L p → Way L (draw p s) (record { answer = handed (ticket_of_next L p); after = drawn_next L p s })
    takes : (t : Ticket) (x : M) → is_held L t ≡ true → fits x ≡ true → Way L (enter t x) (record { answer = done; after = with_point L t.point (entered x) })
    spoils : (t : Ticket) (x : M) → is_held L t ≡ true → fits x ≡ false → Way L (enter t x) (record { answer = refused Sample; after = with_point L t.point free })
    returns : (t : Ticket) → is_held L t ≡ true → Way L (withdraw t) (record { answer = done; after = with_point L t.point free })
    sweeps : (s n : ℕ) → Way L (sweep s) (record { answer = freed n; after = knowing L (λ q. swept s (L.known q)) })
    removes : (p : ℕ) → Removable L p → Way L (remove p) (record { answer = done; after = with_point L p free })

  -- unless a cause holds, it goes the way that the call asks for
  settled : (L : Ledger M) (c : Call M) (cs : List Cause) (o : Outcome M) → spares cs ≡ true → (Clear cs → Way L c o) → Way L c (unless (first cs) L o)
  settled L c cs o s go = elim (first cs) as (λ v. first cs ≡ v → Way L c (unless v L o)) [
    | None ↦ λ e. unfold unless in go (first_none cs e)
    | Some r ↦ λ e. unfold unless in refuses c r (first_spares cs r s e)
  ] refl

  pub way : (L : Ledger M) (c : Call M) → Way L c (step fits L c)
  unfolding step spares
  way L (draw p s) = settled L (draw p s) (draw_causes L p s) _ refl (λ k. draws p s (drawable L p s k))
  way L (enter t x) = settled L (enter t x) (ticket_causes L t) _ refl (λ k. elim (fits x) as (λ b. fits x ≡ b → Way L (enter t x) (received b L t.point x)) [
    | true ↦ λ e. unfold received in takes t x (not-false (is_held L t) k.0) e
    | false ↦ λ e. unfold received in spoils t x (not-false (is_held L t) k.0) e
  ] refl)
  way L (withdraw t) = settled L (withdraw t) (ticket_causes L t) _ refl (λ k. returns t (not-false (is_held L t) k.0))
  way L (sweep s) = settled L (sweep s) (session_causes s) _ refl (λ k. sweeps s _)
  way L (remove p) = settled L (remove p) (remove_causes L p) _ refl (λ k. removes p (removable L p k))

  -- along each way the dimensions and the grid number stay, and the ticket numbers rise
  fixed_along : (L : Ledger M) (c : Call M) (o : Outcome M) → Way L c o → (o.after.dims ≡ L.dims) × (o.after.grid ≡ L.grid) × (L.next ≤ o.after.next)
  fixed_along L c o (refuses b r n) = (refl, refl, omega arith)
  fixed_along L c o (draws p s k) = (refl, refl, omega arith)
  fixed_along L c o (takes t x h f) = (refl, refl, omega arith)
  fixed_along L c o (spoils t x h f) = (refl, refl, omega arith)
  fixed_along L c o (returns t h) = (refl, refl, omega arith)
  fixed_along L c o (sweeps s n) = (refl, refl, omega arith)
  fixed_along L c o (removes p k) = (refl, refl, omega arith)

  module _ (L : Ledger M) (c : Call M) where
    pub dims_stay : (then L c).dims ≡ L.dims
    dims_stay = (fixed_along L c (step fits L c) (way L c)).0

    pub grid_stays : (then L c).grid ≡ L.grid
    grid_stays = (fixed_along L c (step fits L c) (way L c)).1

    pub next_grows : L.next ≤ (then L c).next
    next_grows = (fixed_along L c (step fits L c) (way L c)).2
