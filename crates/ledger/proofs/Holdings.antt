-- Points out: what one call does to a ticket.
use Rattle.std.proofs.Common.{◌≡◌, ℕ, ◌<◌, Bool, true, ◌⊎◌, sym, refl, ap, ◌∙◌, ap₂, inl, inr, arith}
use Rattle.std.proofs.lemmas.Bool.{both_ways}
use Rattle.points.specs.declared.refusal.Refusal.{Refusal}
use Rattle.points.specs.declared.refusal.Refusal.TheVariants.{Sample}
use Rattle.ledger.specs.Ledger.{Holding, Known, free, drawn, entered, Ledger, Ticket, put, is_held}
use Rattle.ledger.specs.Calls.{Call, draw, enter, withdraw, sweep, remove, Answer, handed, refused, Outcome, ticket_of_next, next_holding, step}
use Rattle.ledger.specs.Course.{Event, event}
use Rattle.ledger.specs.History.{Draws, Ends}
use Rattle.ledger.specs.Guarantees.{OutUnder, ticket_of}
use Rattle.ledger.proofs.Known.{put_on, put_at, put_from, entered_in, out_drawn, held_out, swept_cases, same_ticket}
use Rattle.ledger.proofs.Steps.{did, then, Way, refuses, draws, takes, spoils, returns, sweeps, removes, way}

module _ {M : Type 0} (fits : M → Bool) where
  -- which calls end a ticket
  draw_no_end : (t : Ticket) (s p r : ℕ) (a : Answer) → Ends {M = M} t s (record { call = draw p r; answer = a }) → ⊥
  draw_no_end t s p r a w = grind arith

  remove_no_end : (t : Ticket) (s p : ℕ) (a : Answer) → Ends {M = M} t s (record { call = remove p; answer = a }) → ⊥
  remove_no_end t s p a w = grind arith

  enter_ends : (t : Ticket) (s : ℕ) (u : Ticket) (x : M) (a : Answer) → Ends {M = M} t s (record { call = enter u x; answer = a }) → u ≡ t
  enter_ends t s u x a w = grind arith

  withdraw_ends : (t : Ticket) (s : ℕ) (u : Ticket) (a : Answer) → Ends {M = M} t s (record { call = withdraw u; answer = a }) → u ≡ t
  withdraw_ends t s u a w = grind arith

  sweep_ends : (t : Ticket) (s r : ℕ) (a : Answer) → Ends {M = M} t s (record { call = sweep r; answer = a }) → r ≡ s
  sweep_ends t s r a w = grind arith

  -- a refused call ends one only if its sample does not fit
  refused_no_end : (t : Ticket) (s : ℕ) (c : Call M) (r : Refusal) → (r ≡ Sample → ⊥) → Ends {M = M} t s (record { call = c; answer = refused r }) → ⊥
  refused_no_end t s c r n (inl w) = elim w.2 [ inl e ↦ cc | inr e ↦ n (cc) ]
  refused_no_end t s c r n (inr (inl w)) = cc w.1
  refused_no_end t s c r n (inr (inr w)) = cc w.2

  module _ (L : Ledger M) where
    -- two tickets out at one point are one
    one_ticket : (t u : Ticket) (s : ℕ) → OutUnder L t s → is_held L u ≡ true → t.point ≡ u.point → u ≡ t
    one_ticket t u s o h e = let w = held_out L u h in same_ticket u t (cc (w.1, o.grid)) (cc (w.2, e, o.known, w.3, o.number)) (sym e)

    -- the same ticket, out in a ledger of the same grid
    still : (K : Ledger M) (t : Ticket) (s : ℕ) (o : OutUnder L t s) → K.grid ≡ L.grid → K.known t.point ≡ drawn o.holding → OutUnder K t s
    still K t s o g k = record { grid = o.grid ∙ sym g; holding = o.holding; known = k; number = o.number; session = o.session }

    -- which another call leaves out that puts k at another point
    elsewhere : (t : Ticket) (s : ℕ) (o : OutUnder L t s) (p : ℕ) (k : Known M) → (t.point ≡ p → ⊥) → put L.known p k t.point ≡ drawn o.holding
    elsewhere t s o p k n = put_on L.known p k t.point n ∙ o.known

    stays_along : (t : Ticket) (s : ℕ) → OutUnder L t s → (c : Call M) (r : Outcome M) → Way fits L c r → (Ends t s (did c r) → ⊥) → OutUnder r.after t s
    stays_along t s o c r (refuses b e n) not = o
    stays_along t s o c r (draws p q k) not = still _ t s o refl (elsewhere t s o p _ (λ e. both_ways _ k.not_out (out_drawn _ (L.known p) o.holding (ap L.known (sym e) ∙ o.known) refl)))
    stays_along t s o c r (takes u x h f) not = still _ t s o refl (elsewhere t s o u.point _ (λ e. not (inl (x, ap (λ v. enter v x) (one_ticket t u s o h e), inl refl))))
    stays_along t s o c r (spoils u x h f) not = still _ t s o refl (elsewhere t s o u.point _ (λ e. not (inl (x, ap (λ v. enter v x) (one_ticket t u s o h e), inr refl))))
    stays_along t s o c r (returns u h) not = still _ t s o refl (elsewhere t s o u.point _ (λ e. not (inr (inl (ap withdraw (one_ticket t u s o h e), refl)))))
    stays_along t s o c r (sweeps q n) not = still _ t s o refl (elim (swept_cases q (L.known t.point)) [
      | inl w ↦ let i : q ≡ s = cc (w.1, w.2, o.known, o.session) in absurd (not (inr (inr (n, ap sweep i, refl))))
      | inr w ↦ w.1 ∙ o.known
    ])
    stays_along t s o c r (removes p k) not = still _ t s o refl (elsewhere t s o p _ (λ e. let w = entered_in (L.known p) k.inside in cc ((ap L.known (sym e) ∙ o.known), w.1)))

    -- out before under a ticket that does not end, or drawn now
    abbrev pub Before : ℕ → Holding → Event M → Type 0
    Before q h e = ((L.known q ≡ drawn h) × (Ends (ticket_of L q h) h.session e → ⊥)) ⊎ (Draws (ticket_of L q h) h.session e × (h.ticket ≡ L.next))

    -- where something else than out is put at p, what is out was out before, at another point
    out_elsewhere : (p q : ℕ) (k : Known M) (h : Holding) → (k ≡ drawn h → ⊥) → put L.known p k q ≡ drawn h → (q ≡ p → ⊥) × (L.known q ≡ drawn h)
    out_elsewhere p q k h n e = elim (put_from L.known p k q (drawn h) e) [ inl w ↦ absurd (n w.1) | inr w ↦ w ]

    before_along : (q : ℕ) (h : Holding) (c : Call M) (r : Outcome M) → Way fits L c r → r.after.known q ≡ drawn h → Before q h (did c r)
    before_along q h c r (refuses b e n) k = inl (k, refused_no_end _ _ b e n)
    before_along q h c r (draws p s g) k = elim (put_from L.known p _ q (drawn h) k) [
      | inl w ↦ let e = w.1 in
          let m : L.next ≡ h.ticket = cc in
          inr ((ap₂ draw (sym w.0) (cc), ap handed (same_ticket _ _ refl m (sym w.0))), sym m)
      | inr w ↦ inl (w.1, draw_no_end _ _ p s _)
    ]
    before_along q h c r (takes u x g f) k =
        let w = out_elsewhere u.point q (entered x) h (λ e. cc (sym e)) k in
        inl (w.1, λ z. w.0 (sym (ap (λ v. v.point) (enter_ends _ _ u x _ z))))
    before_along q h c r (spoils u x g f) k =
        let w = out_elsewhere u.point q free h (λ e. cc) k in
        inl (w.1, λ z. w.0 (sym (ap (λ v. v.point) (enter_ends _ _ u x _ z))))
    before_along q h c r (returns u g) k =
        let w = out_elsewhere u.point q free h (λ e. cc) k in
        inl (w.1, λ z. w.0 (sym (ap (λ v. v.point) (withdraw_ends _ _ u _ z))))
    before_along q h c r (sweeps s n) k = elim (swept_cases s (L.known q)) [ inl w ↦ cc (w.3, k) | inr w ↦ let e = sym w.1 ∙ k in inl (e, λ z. w.0 h e (sym (sweep_ends _ _ s _ z))) ]
    before_along q h c r (removes p g) k = let w = out_elsewhere p q free h (λ e. cc) k in inl (w.1, remove_no_end _ _ p _)

    out_along : (t : Ticket) (s : ℕ) (c : Call M) (r : Outcome M) → Way fits L c r → Draws t s (did c r) → OutUnder r.after t s × (t.number < r.after.next)
    out_along t s c r (refuses b e n) d = cc d.1
    out_along t s c r (draws p q k) d = (
      record { grid = sym (ap (λ v. v.grid) is); holding = next_holding L q; known = put_at L.known p (drawn (next_holding L q)) t.point (sym (ap (λ v. v.point) is)); number = ap (λ v. v.number) is; session = by },
      let m : L.next ≡ t.number = ap (λ v. v.number) is in omega arith,
    )
      where
        is : ticket_of_next L p ≡ t
        is = cc d.1

        by : q ≡ s
        by = cc d.0
    out_along t s c r (takes u x h f) d = cc d.0
    out_along t s c r (spoils u x h f) d = cc d.0
    out_along t s c r (returns u h) d = cc d.0
    out_along t s c r (sweeps q n) d = cc d.0
    out_along t s c r (removes p k) d = cc d.0

  module _ (L : Ledger M) (c : Call M) where
    -- a ticket that does not end stays out
    pub stays : (t : Ticket) (s : ℕ) → OutUnder L t s → (Ends t s (event fits L c) → ⊥) → OutUnder (then fits L c) t s
    unfolding event
    stays t s o = stays_along L t s o c (step fits L c) (way fits L c)

    -- what is out was out before, under a ticket that does not end, or is drawn now
    pub before : (q : ℕ) (h : Holding) → (then fits L c).known q ≡ drawn h → Before L q h (event fits L c)
    unfolding event
    before q h = before_along L q h c (step fits L c) (way fits L c)

    -- a ticket that is handed over is out, under a number that is used up
    pub out_now : (t : Ticket) (s : ℕ) → Draws t s (event fits L c) → OutUnder (then fits L c) t s × (t.number < (then fits L c).next)
    unfolding event
    out_now t s = out_along L t s c (step fits L c) (way fits L c)
