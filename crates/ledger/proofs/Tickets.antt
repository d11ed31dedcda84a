-- The life of a ticket over a course.
use Rattle.std.proofs.Common.{◌≡◌, ℕ, ◌<◌, Bool, true, false, ◌⊎◌, List, [], ◌∷◌, ◌++◌, Some, None, Option, sym, refl, ap, ◌∙◌, subst, inl, inr, arith}
use Rattle.std.proofs.lemmas.Bool.{both_ways, cases_Bool}
use Rattle.points.specs.Refusals.{first}
use Rattle.points.specs.declared.refusal.Refusal.{Refusal}
use Rattle.points.specs.declared.refusal.Refusal.TheVariants.{NoSuchTicket}
use Rattle.ledger.specs.Ledger.{Holding, drawn, Ledger, Ticket, is_held}
use Rattle.ledger.specs.Calls.{Call, draw, enter, withdraw, handed, refused, Outcome, unless, draw_causes, received, step}
use Rattle.ledger.specs.Making.{make}
use Rattle.ledger.specs.Course.{Event, event, history_from, end_from, Course, history, end}
use Rattle.ledger.specs.History.{NoneIs, SomeIs, Draws, Ends, Outstanding, Ended, DrawnAnew}
use Rattle.ledger.specs.Guarantees.{OutUnder, ticket_of, Held, Void, OnlyAnew, TicketsHold}
use Rattle.ledger.proofs.Known.{new_free, out_drawn, held_out, out_held, same_ticket}
use Rattle.ledger.proofs.Steps.{next_grows, first_none, Drawable, drawable, grid_stays, then}
use Rattle.ledger.proofs.Holdings.{stays, Before, before, out_now}

module _ {M : Type 0} (fits : M → Bool) where
  -- a ticket out that does not end is out at the end
  kept : (L : Ledger M) (t : Ticket) (s : ℕ) → OutUnder L t s → (cs : List (Call M)) → NoneIs (Ends t s) (history_from fits L cs) → OutUnder (end_from fits L cs) t s
  unfolding history_from end_from
  kept L t s o [] n = o
  kept L t s o (c ∷ cs) n = kept (then fits L c) t s (stays fits L c t s o n.0) cs n.1

  pub outstanding_out : (L : Ledger M) (cs : List (Call M)) (t : Ticket) (s : ℕ) → Outstanding (history_from fits L cs) t s → OutUnder (end_from fits L cs) t s
  unfolding history_from end_from
  outstanding_out L [] t s r = absurd r
  outstanding_out L (c ∷ cs) t s (inl w) = kept (then fits L c) t s (out_now fits L c t s w.0).0 cs w.1
  outstanding_out L (c ∷ cs) t s (inr w) = outstanding_out (then fits L c) cs t s w

  -- the number of t is used up, and if its point is out under that number, then by s
  record Tied (L : Ledger M) (t : Ticket) (s : ℕ) : Type 0 where
    grid : t.grid ≡ L.grid
    less : t.number < L.next
    one : (h : Holding) → L.known t.point ≡ drawn h → h.ticket ≡ t.number → h.session ≡ s

  -- the number of t is used up, and its point is not out under it
  record Gone (L : Ledger M) (t : Ticket) : Type 0 where
    less : t.number < L.next
    none : (h : Holding) → L.known t.point ≡ drawn h → h.ticket ≡ t.number → ⊥

  -- out under a number that was used up before the call: out before it, under a ticket that the call does not end
  earlier : (L : Ledger M) (t : Ticket) → t.number < L.next → (c : Call M) (h : Holding) → (then fits L c).known t.point ≡ drawn h → h.ticket ≡ t.number
      → (L.known t.point ≡ drawn h) × (t.grid ≡ L.grid → Ends t h.session (event fits L c) → ⊥)
  earlier L t l c h e n = elim (before fits L c t.point h e) [
    | inl w ↦ (w.0, λ g z. w.1 (subst (λ u. Ends u h.session (event fits L c)) (same_ticket t (ticket_of L t.point h) g (sym n) refl) z))
    | inr w ↦ let m = w.1 in absurd (omega arith)
  ]

  tied_on : (L : Ledger M) (t : Ticket) (s : ℕ) → Tied L t s → (c : Call M) → Tied (then fits L c) t s
  tied_on L t s a c = record {
    grid = a.grid ∙ sym (grid_stays fits L c);
    less = omega (arith, a.less, next_grows fits L c);
    one = λ h e n. a.one h (earlier L t a.less c h e n).0 n;
  }

  gone_on : (L : Ledger M) (t : Ticket) → Gone L t → (c : Call M) → Gone (then fits L c) t
  gone_on L t a c = record { less = omega (arith, a.less, next_grows fits L c); none = λ h e n. a.none h (earlier L t a.less c h e n).0 n }

  ends_gone : (L : Ledger M) (t : Ticket) (s : ℕ) → Tied L t s → (c : Call M) → Ends t s (event fits L c) → Gone (then fits L c) t
  ends_gone L t s a c z = record {
    less = omega (arith, a.less, next_grows fits L c);
    none = λ h e n. let w = earlier L t a.less c h e n in w.1 a.grid (subst (λ r. Ends t r (event fits L c)) (sym (a.one h w.0 n)) z);
  }

  gone_end : (L : Ledger M) (t : Ticket) → Gone L t → (cs : List (Call M)) → Gone (end_from fits L cs) t
  unfolding end_from
  gone_end L t a [] = a
  gone_end L t a (c ∷ cs) = gone_end (then fits L c) t (gone_on L t a c) cs

  some_gone : (L : Ledger M) (t : Ticket) (s : ℕ) → Tied L t s → (cs : List (Call M)) → SomeIs (Ends t s) (history_from fits L cs) → Gone (end_from fits L cs) t
  unfolding history_from end_from
  some_gone L t s a [] z = absurd z
  some_gone L t s a (c ∷ cs) (inl z) = gone_end (then fits L c) t (ends_gone L t s a c z) cs
  some_gone L t s a (c ∷ cs) (inr z) = some_gone (then fits L c) t s (tied_on L t s a c) cs z

  tied_now : (L : Ledger M) (t : Ticket) (s : ℕ) → OutUnder L t s → t.number < L.next → Tied L t s
  tied_now L t s o l = record {
    grid = o.grid;
    less = l;
    one = λ h e n. cc (e, o.known, o.session);
  }

  ended_gone : (L : Ledger M) (cs : List (Call M)) (t : Ticket) (s : ℕ) → Ended (history_from fits L cs) t s → Gone (end_from fits L cs) t
  unfolding history_from end_from
  ended_gone L [] t s z = absurd z
  ended_gone L (c ∷ cs) t s (inl w) = let o = out_now fits L c t s w.0 in some_gone (then fits L c) t s (tied_now (then fits L c) t s o.0 o.1) cs w.1
  ended_gone L (c ∷ cs) t s (inr w) = ended_gone (then fits L c) cs t s w

  -- the answers to a ticket that is not held, and to one that is
  module _ (L : Ledger M) (t : Ticket) where
    enter_unknown : (x : M) → is_held L t ≡ false → (step fits L (enter t x)).answer ≡ refused NoSuchTicket
    unfolding step unless
    enter_unknown x h = rw h

    withdraw_unknown : is_held L t ≡ false → (step fits L (withdraw t)).answer ≡ refused NoSuchTicket
    unfolding step unless
    withdraw_unknown h = rw h

    enter_known : (x : M) → is_held L t ≡ true → (step fits L (enter t x)).answer ≡ refused NoSuchTicket → ⊥
    unfolding step unless received
    enter_known x h e = let q = rw h at e in elim (fits x) as (λ b. (received b L t.point x).answer ≡ refused NoSuchTicket → ⊥) [ true ↦ λ r. cc | false ↦ λ r. cc ] q

    withdraw_known : is_held L t ≡ true → (step fits L (withdraw t)).answer ≡ refused NoSuchTicket → ⊥
    unfolding step unless
    withdraw_known h e = let q = rw h at e in cc

  -- an accepted draw has no cause against it
  unless_handed : (v : Option Refusal) (L : Ledger M) (o : Outcome M) (t : Ticket) → (unless v L o).answer ≡ handed t → v ≡ None
  unfolding unless
  unless_handed None L o t h = refl
  unless_handed (Some e) L o t h = cc

  pub draw_accepted : (L : Ledger M) (p s : ℕ) (t : Ticket) → (step fits L (draw p s)).answer ≡ handed t → Drawable L p
  unfolding step
  draw_accepted L p s t e = drawable L p s (first_none (draw_causes L p s) (unless_handed (first (draw_causes L p s)) L _ t e))

  holds : (c : Course M) (t : Ticket) (s : ℕ) → Outstanding (history fits c) t s → Held fits c t s
  unfolding event
  holds c t s r =
      let o = outstanding_out (make c.figures) c.calls t s r in
      let h = out_held (end fits c) t o.holding o.grid o.known o.number in
      record {
        out = o;
        no_draw = λ q u e. both_ways _ (draw_accepted (end fits c) t.point q u e).not_out (out_drawn _ _ o.holding o.known refl);
        enterable = λ x e. enter_known (end fits c) t x h e;
        withdrawable = λ e. withdraw_known (end fits c) t h e;
      }

  void : (c : Course M) (t : Ticket) (s : ℕ) → Ended (history fits c) t s → Void fits c t
  unfolding event
  void c t s z = elim (cases_Bool (is_held (end fits c) t)) [
    | inl h ↦ let w = held_out (end fits c) t h in absurd ((ended_gone (make c.figures) c.calls t s z).none w.0 w.2 w.3)
    | inr h ↦ record { not_enterable = λ x. enter_unknown (end fits c) t x h; not_withdrawable = withdraw_unknown (end fits c) t h }
  ]

  end_on : (L : Ledger M) (cs : List (Call M)) (c : Call M) (ds : List (Call M)) → end_from fits L (cs ++ (c ∷ ds)) ≡ end_from fits (then fits (end_from fits L cs) c) ds
  unfolding end_from
  end_on L [] c ds = refl
  end_on L (b ∷ cs) c ds = end_on (then fits L b) cs c ds

  grid_end : (L : Ledger M) (cs : List (Call M)) → (end_from fits L cs).grid ≡ L.grid
  unfolding end_from
  grid_end L [] = refl
  grid_end L (c ∷ cs) = grid_end (then fits L c) cs ∙ grid_stays fits L c

  -- out at the end: out at the start, or drawn in between
  drawn_since : (L : Ledger M) (q : ℕ) (h : Holding) (cs : List (Call M)) → (end_from fits L cs).known q ≡ drawn h → (L.known q ≡ drawn h) ⊎ SomeIs (DrawnAnew q) (history_from fits L cs)
  unfolding end_from history_from
  drawn_since L q h [] e = inl e
  drawn_since L q h (c ∷ cs) e = go (drawn_since (then fits L c) q h cs e)
    where
      back : Before fits L q h (event fits L c) → (L.known q ≡ drawn h) ⊎ SomeIs (DrawnAnew q) (history_from fits L (c ∷ cs))
      back (inl w) = inl w.0
      back (inr w) = inr (inl (ticket_of L q h, h.session, refl, w.0))

      go : ((then fits L c).known q ≡ drawn h) ⊎ SomeIs (DrawnAnew q) (history_from fits (then fits L c) cs) → (L.known q ≡ drawn h) ⊎ SomeIs (DrawnAnew q) (history_from fits L (c ∷ cs))
      go (inl k) = back (before fits L c q h k)
      go (inr w) = inr (inr w)

  -- what ends a ticket is no draw
  end_no_draw : (t u : Ticket) (s r : ℕ) (e : Event M) → Ends t s e → Draws u r e → ⊥
  end_no_draw t u s r e (inl w) d = cc (w.1, d.0)
  end_no_draw t u s r e (inr (inl w)) d = cc (w.0, d.0)
  end_no_draw t u s r e (inr (inr w)) d = cc (w.1, d.0)

  -- a ticket that ends leaves its point not out
  freed_now : (L : Ledger M) (t : Ticket) (s : ℕ) → OutUnder L t s → (c : Call M) → Ends t s (event fits L c) → (h : Holding) → (then fits L c).known t.point ≡ drawn h → ⊥
  freed_now L t s o c z h e = elim (before fits L c t.point h e) [
    | inl w ↦ let i : o.holding ≡ h = cc (w.0, o.known) in
        let t_is : t ≡ ticket_of L t.point h = same_ticket t (ticket_of L t.point h) o.grid (cc (o.number, i)) refl in
        let s_is : s ≡ h.session = cc (o.session, i) in
        w.1 (subst (λ u. Ends u h.session (event fits L c)) t_is (subst (λ r. Ends t r (event fits L c)) s_is z))
    | inr w ↦ end_no_draw t _ s _ _ z w.0
  ]

  only_anew : (c : Course M) → OnlyAnew fits c
  only_anew c t s run k z ks h e =
      subst (λ L. SomeIs (DrawnAnew t.point) (history_from fits L ks)) (sym (end_on (make c.figures) c.calls k []))
      (elim (drawn_since (then fits (end fits c) k) t.point h ks (ap (λ L. L.known t.point) (sym (end_on (make c.figures) c.calls k ks)) ∙ e)) [
        | inl q ↦ absurd (freed_now (end fits c) t s (outstanding_out (make c.figures) c.calls t s run) k z h q)
        | inr w ↦ unfold end_from in w
      ])

  pub tickets_hold : TicketsHold fits
  tickets_hold = record { held = holds; void = void; only_anew = only_anew }

  -- out under t at the start, and t has not ended, or t is outstanding
  abbrev OutSince : Ledger M → List (Call M) → ℕ → Holding → Ticket → Type 0
  OutSince L cs q h t = ((L.known q ≡ drawn h) × NoneIs (Ends t h.session) (history_from fits L cs)) ⊎ Outstanding (history_from fits L cs) t h.session

  -- so it is of a point that is out at the end
  outstanding_since : (L : Ledger M) (q : ℕ) (h : Holding) (cs : List (Call M)) → (end_from fits L cs).known q ≡ drawn h
      → OutSince L cs q h (ticket_of (end_from fits L cs) q h)
  unfolding end_from history_from
  outstanding_since L q h [] e = inl (e, tt)
  outstanding_since L q h (c ∷ cs) e = go (outstanding_since (then fits L c) q h cs e)
    where
      t : Ticket
      t = ticket_of (end_from fits (then fits L c) cs) q h

      same : ticket_of L q h ≡ t
      same = same_ticket _ _ (sym (grid_end L (c ∷ cs))) refl refl

      back : NoneIs (Ends t h.session) (history_from fits (then fits L c) cs) → Before fits L q h (event fits L c) → OutSince L (c ∷ cs) q h t
      back m (inl w) = inl (w.0, (subst (λ u. Ends u h.session (event fits L c) → ⊥) same w.1, m))
      back m (inr w) = inr (inl (subst (λ u. Draws u h.session (event fits L c)) same w.0, m))

      go : OutSince (then fits L c) cs q h t → OutSince L (c ∷ cs) q h t
      go (inl w) = back w.1 (before fits L c q h w.0)
      go (inr w) = inr (inr w)

  pub out_outstanding : (c : Course M) (p : ℕ) (h : Holding) → (end fits c).known p ≡ drawn h → Outstanding (history fits c) (ticket_of (end fits c) p h) h.session
  out_outstanding c p h e = elim (outstanding_since (make c.figures) p h c.calls e) [ inl w ↦ cc (new_free c.figures p, w.0) | inr w ↦ w ]
