-- Points in: the ledger says of them what the history says.
use Rattle.std.proofs.Common.{◌≡◌, ℕ, Bool, true, false, ◌⊎◌, List, [], ◌∷◌, sym, refl, ap, ◌∙◌, inl, inr}
use Rattle.std.proofs.lemmas.Bool.{both_ways}
use Rattle.ledger.specs.Ledger.{Holding, Known, free, drawn, entered, Ledger, put, has_child}
use Rattle.ledger.specs.Calls.{Call, enter, remove, Outcome, step}
use Rattle.ledger.specs.Making.{Figures, make}
use Rattle.ledger.specs.Course.{event, history_from, end_from}
use Rattle.ledger.specs.History.{NoneIs, Enters, Removes, Changes, LastEntered}
use Rattle.ledger.proofs.Known.{put_cases, put_on, put_at, put_from, in_entered, held_out, swept_cases, new_free}
use Rattle.ledger.proofs.Steps.{did, then, Way, refuses, draws, takes, spoils, returns, sweeps, removes, way}

module _ {M : Type 0} (fits : M → Bool) where
  -- along each way of a call
  module _ (L : Ledger M) where
    enters_along : (q : ℕ) (x : M) (c : Call M) (o : Outcome M) → Way fits L c o → Enters q x (did c o)
        → (h : Holding) × (L.known q ≡ drawn h) × (o.after.known q ≡ entered x) × (fits x ≡ true)
    enters_along q x c o (refuses b r n) e = cc e.3
    enters_along q x c o (draws p s k) e = cc e.2
    enters_along q x c o (takes t y h f) e =
        let w = held_out L t h in
        let j : y ≡ x = cc e.2 in
        let p : q ≡ t.point = cc (e.1, e.2) in
        (w.0, ap L.known p ∙ w.2, put_at L.known t.point (entered y) q p ∙ ap entered j, ap fits (sym j) ∙ f)
    enters_along q x c o (spoils t y h f) e = cc e.3
    enters_along q x c o (returns t h) e = cc e.2
    enters_along q x c o (sweeps s n) e = cc e.2
    enters_along q x c o (removes p k) e = cc e.2

    removes_along : (q : ℕ) (c : Call M) (o : Outcome M) → Way fits L c o → Removes q (did c o) → o.after.known q ≡ free
    removes_along q c o (refuses b r n) e = cc e.1
    removes_along q c o (draws p s k) e = cc e.0
    removes_along q c o (takes t y h f) e = cc e.0
    removes_along q c o (spoils t y h f) e = cc e.0
    removes_along q c o (returns t h) e = cc e.0
    removes_along q c o (sweeps s n) e = cc e.0
    removes_along q c o (removes p k) e = put_at L.known p free q (cc e.0)

    -- a change at a point that is out leaves what is in
    in_stays : (q : ℕ) (x : M) (p : ℕ) (k : Known M) (h : Holding) → L.known q ≡ entered x → L.known p ≡ drawn h → put L.known p k q ≡ entered x
    in_stays q x p k h e d = put_on L.known p k q (λ i. cc (i, d, e)) ∙ e

    entered_along : (q : ℕ) (x : M) (c : Call M) (o : Outcome M) → Way fits L c o → L.known q ≡ entered x
        → (o.after.known q ≡ entered x) ⊎ (Removes q (did c o) × (has_child L q ≡ false))
    entered_along q x c o (refuses b r n) e = inl e
    entered_along q x c o (draws p s k) e = inl (put_on L.known p _ q (λ i. both_ways _ k.not_in (in_entered (L.known p) x (ap L.known (sym i) ∙ e))) ∙ e)
    entered_along q x c o (takes t y h f) e = let w = held_out L t h in inl (in_stays q x t.point _ w.0 e w.2)
    entered_along q x c o (spoils t y h f) e = let w = held_out L t h in inl (in_stays q x t.point _ w.0 e w.2)
    entered_along q x c o (returns t h) e = let w = held_out L t h in inl (in_stays q x t.point _ w.0 e w.2)
    entered_along q x c o (sweeps s n) e = inl (elim (swept_cases s (L.known q)) [ inl w ↦ cc (w.1, e) | inr w ↦ w.1 ∙ e ])
    entered_along q x c o (removes p k) e = elim (put_cases L.known p free q) [
      | inl w ↦ inr ((ap remove (sym w.0), refl), ap (has_child L) w.0 ∙ k.childless)
      | inr w ↦ inl (w.1 ∙ e)
    ]

    -- where p is freed, what is in was in before
    in_before : (q : ℕ) (x : M) (p : ℕ) → put L.known p free q ≡ entered x → L.known q ≡ entered x
    in_before q x p e = elim (put_from L.known p free q (entered x) e) [ inl w ↦ cc w.1 | inr w ↦ w.1 ]

    came_along : (q : ℕ) (x : M) (c : Call M) (o : Outcome M) → Way fits L c o → o.after.known q ≡ entered x → (L.known q ≡ entered x) ⊎ Enters q x (did c o)
    came_along q x c o (refuses b r n) e = inl e
    came_along q x c o (draws p s k) e = elim (put_from L.known p _ q _ e) [ inl w ↦ cc w.1 | inr w ↦ inl w.1 ]
    came_along q x c o (takes t y h f) e = elim (put_from L.known t.point _ q _ e) [
      | inl w ↦ let j : y ≡ x = cc w.1 in inr (t, sym w.0, ap (enter t) j, refl)
      | inr w ↦ inl w.1
    ]
    came_along q x c o (spoils t y h f) e = inl (in_before q x t.point e)
    came_along q x c o (returns t h) e = inl (in_before q x t.point e)
    came_along q x c o (sweeps s n) e = inl (elim (swept_cases s (L.known q)) [ inl w ↦ cc (w.3, e) | inr w ↦ sym w.1 ∙ e ])
    came_along q x c o (removes p k) e = inl (in_before q x p e)

  module _ (L : Ledger M) (c : Call M) where
    -- an accepted entry finds its point out, and its sample fits
    pub enters_was : (q : ℕ) (x : M) → Enters q x (event fits L c) → (h : Holding) × (L.known q ≡ drawn h) × ((then fits L c).known q ≡ entered x) × (fits x ≡ true)
    unfolding event
    enters_was q x = enters_along L q x c (step fits L c) (way fits L c)

    -- an accepted removal leaves its point free
    removes_now : (q : ℕ) → Removes q (event fits L c) → (then fits L c).known q ≡ free
    unfolding event
    removes_now q = removes_along L q c (step fits L c) (way fits L c)

    -- a point in stays in, or is removed while it has no child
    pub entered_next : (q : ℕ) (x : M) → L.known q ≡ entered x → ((then fits L c).known q ≡ entered x) ⊎ (Removes q (event fits L c) × (has_child L q ≡ false))
    unfolding event
    entered_next q x = entered_along L q x c (step fits L c) (way fits L c)

    -- what is in was in before, or is entered now
    pub entered_before : (q : ℕ) (x : M) → (then fits L c).known q ≡ entered x → (L.known q ≡ entered x) ⊎ Enters q x (event fits L c)
    unfolding event
    entered_before q x = came_along L q x c (step fits L c) (way fits L c)

  -- a point in that no call changes is in with its sample
  unchanged : (L : Ledger M) (p : ℕ) (x : M) → L.known p ≡ entered x → (cs : List (Call M)) → NoneIs (Changes p) (history_from fits L cs) → (end_from fits L cs).known p ≡ entered x
  unfolding history_from end_from
  unchanged L p x e [] n = e
  unchanged L p x e (c ∷ cs) n = unchanged (then fits L c) p x (elim (entered_next L c p x e) [ inl k ↦ k | inr w ↦ absurd (n.0 (inr w.0)) ]) cs n.1

  -- the sample last entered is in at the end
  pub history_in : (L : Ledger M) (cs : List (Call M)) (p : ℕ) (x : M) → LastEntered (history_from fits L cs) p x → (end_from fits L cs).known p ≡ entered x
  unfolding history_from end_from
  history_in L [] p x h = absurd h
  history_in L (c ∷ cs) p x (inl w) = unchanged (then fits L c) p x (enters_was L c p x w.0).2 cs w.1
  history_in L (c ∷ cs) p x (inr w) = history_in (then fits L c) cs p x w

  -- in at the end: in at the start and unchanged, or entered since
  abbrev InSince : Ledger M → List (Call M) → ℕ → M → Type 0
  InSince L cs p x = ((L.known p ≡ entered x) × NoneIs (Changes p) (history_from fits L cs)) ⊎ LastEntered (history_from fits L cs) p x

  in_since : (L : Ledger M) (cs : List (Call M)) (p : ℕ) (x : M) → (end_from fits L cs).known p ≡ entered x → InSince L cs p x
  unfolding history_from end_from
  in_since L [] p x e = inl (e, tt)
  in_since L (c ∷ cs) p x e = go (in_since (then fits L c) cs p x e)
    where
      still : L.known p ≡ entered x → (then fits L c).known p ≡ entered x → Changes p (event fits L c) → ⊥
      still a b (inl w) = let u = enters_was L c p w.0 w.1 in cc (u.1, a)
      still a b (inr w) = cc (removes_now L c p w, b)

      back : (then fits L c).known p ≡ entered x → NoneIs (Changes p) (history_from fits (then fits L c) cs) → (L.known p ≡ entered x) ⊎ Enters p x (event fits L c) → InSince L (c ∷ cs) p x
      back k n (inl a) = inl (a, (still a k, n))
      back k n (inr a) = inr (inl (a, n))

      go : InSince (then fits L c) cs p x → InSince L (c ∷ cs) p x
      go (inl w) = back w.0 w.1 (entered_before L c p x w.0)
      go (inr w) = inr (inr w)

  -- what is in at the end of a course was last entered
  pub in_history : (f : Figures) (cs : List (Call M)) (p : ℕ) (x : M) → (end_from fits (make f) cs).known p ≡ entered x → LastEntered (history_from fits (make f) cs) p x
  in_history f cs p x e = elim (in_since (make f) cs p x e) [ inl w ↦ cc (new_free f p, w.0) | inr w ↦ w ]
