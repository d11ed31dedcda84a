-- What is known of points: the tests of it, and what changes leave.
use Rattle.std.proofs.Common.{◌≡◌, ℕ, Bool, true, eqb, ◌⊎◌, Some, None, sym, refl, ap, ◌∙◌, inl, inr}
use Rattle.std.proofs.lemmas.Bool.{both_ways, and_parts, and_from, eqb-true, eq-eqb, ne_eqb, or_left, or_right, cond-true, cond-false, cases_Bool}
use Rattle.std.proofs.lemmas.Bool.Decides.{eqb_tells}
use Rattle.points.specs.Refusals.{first}
use Rattle.ledger.specs.Ledger.{Holding, Known, free, drawn, entered, Ledger, Ticket, is_in, is_out_by, is_taken, put, is_held}
use Rattle.ledger.specs.Calls.{is_by, swept}
use Rattle.ledger.specs.Making.{Figures, figure_causes, make_by, make}

module _ {M : Type 0} where
  -- where k is put at p: q is p and k is known of it, or it is another point and what was known stays
  abbrev pub PutCases : (ℕ → Known M) → ℕ → Known M → ℕ → Type 0
  PutCases f p k q = ((q ≡ p) × (put f p k q ≡ k)) ⊎ ((q ≡ p → ⊥) × (put f p k q ≡ f q))

  pub put_cases : (f : ℕ → Known M) (p : ℕ) (k : Known M) (q : ℕ) → PutCases f p k q
  unfolding put
  put_cases f p k q = elim (eqb_tells q p) [ inl w ↦ inl (w.1, cond-true (eqb q p) k (f q) w.0) | inr w ↦ inr (w.1, cond-false (eqb q p) k (f q) w.0) ]

  pub put_on : (f : ℕ → Known M) (p : ℕ) (k : Known M) (q : ℕ) → (q ≡ p → ⊥) → put f p k q ≡ f q
  unfolding put
  put_on f p k q n = rw (ne_eqb q p n)

  pub put_at : (f : ℕ → Known M) (p : ℕ) (k : Known M) (q : ℕ) → q ≡ p → put f p k q ≡ k
  unfolding put
  put_at f p k q e = rw (eq-eqb q p e)

  -- v is known of q since k was put at p: it is k, or it was known before
  abbrev pub PutFrom : (ℕ → Known M) → ℕ → Known M → ℕ → Known M → Type 0
  PutFrom f p k q v = ((q ≡ p) × (k ≡ v)) ⊎ ((q ≡ p → ⊥) × (f q ≡ v))

  pub put_from : (f : ℕ → Known M) (p : ℕ) (k : Known M) (q : ℕ) (v : Known M) → put f p k q ≡ v → PutFrom f p k q v
  put_from f p k q v e = elim (put_cases f p k q) [ inl w ↦ inl (w.0, sym w.1 ∙ e) | inr w ↦ inr (w.0, sym w.1 ∙ e) ]

  -- the tests of what is known
  pub entered_in : (k : Known M) → is_in k ≡ true → (x : M) × (k ≡ entered x)
  unfolding is_in
  entered_in free h = cc
  entered_in (drawn o) h = cc
  entered_in (entered x) h = (x, refl)

  pub in_entered : (k : Known M) (x : M) → k ≡ entered x → is_in k ≡ true
  unfolding is_in
  in_entered k x e = ap is_in e

  pub drawn_out : (f : Holding → Bool) (k : Known M) → is_out_by f k ≡ true → (o : Holding) × (k ≡ drawn o) × (f o ≡ true)
  unfolding is_out_by
  drawn_out f free h = cc
  drawn_out f (drawn o) h = (o, refl, h)
  drawn_out f (entered x) h = cc

  pub out_drawn : (f : Holding → Bool) (k : Known M) (o : Holding) → k ≡ drawn o → f o ≡ true → is_out_by f k ≡ true
  unfolding is_out_by
  out_drawn f k o e h = ap (is_out_by f) e ∙ h

  pub taken_in : (k : Known M) (x : M) → k ≡ entered x → is_taken k ≡ true
  taken_in k x e = or_left (is_in k) _ (in_entered k x e)

  pub taken_out : (k : Known M) (o : Holding) → k ≡ drawn o → is_taken k ≡ true
  taken_out k o e = or_right (is_in k) _ (out_drawn _ k o e refl)

  -- in or out
  pub taken_cases : (k : Known M) → is_taken k ≡ true → ((x : M) × (k ≡ entered x)) ⊎ ((o : Holding) × (k ≡ drawn o))
  unfolding is_in is_out_by
  taken_cases free h = cc
  taken_cases (drawn o) h = inr (o, refl)
  taken_cases (entered x) h = inl (x, refl)

  -- under which holding a ticket's point is out
  pub held_out : (L : Ledger M) (t : Ticket) → is_held L t ≡ true → (o : Holding) × (t.grid ≡ L.grid) × (L.known t.point ≡ drawn o) × (o.ticket ≡ t.number)
  unfolding is_held
  held_out L t h =
      let w = and_parts (eqb t.grid L.grid) _ h in
      let u = drawn_out (λ o. eqb o.ticket t.number) (L.known t.point) w.1 in
      (u.0, eqb-true _ _ w.0, u.1, eqb-true _ _ u.2)

  pub out_held : (L : Ledger M) (t : Ticket) (o : Holding) → t.grid ≡ L.grid → L.known t.point ≡ drawn o → o.ticket ≡ t.number → is_held L t ≡ true
  unfolding is_held
  out_held L t o g k n = and_from (eqb t.grid L.grid) _ (eq-eqb _ _ g) (out_drawn (λ h. eqb h.ticket t.number) (L.known t.point) o k (eq-eqb _ _ n))

  -- a sweep of s frees a point that s drew, and leaves any other
  abbrev pub SweptCases : ℕ → Known M → Type 0
  SweptCases s k = ((o : Holding) × (k ≡ drawn o) × (o.session ≡ s) × (swept s k ≡ free)) ⊎ (((o : Holding) → k ≡ drawn o → o.session ≡ s → ⊥) × (swept s k ≡ k))

  pub swept_cases : (s : ℕ) (k : Known M) → SweptCases s k
  unfolding swept
  swept_cases s k = elim (cases_Bool (is_by s k)) [
    | inl e ↦ let w = drawn_out (λ o. eqb o.session s) k e in inl (w.0, w.1, eqb-true _ _ w.2, cond-true (is_by s k) free k e)
    | inr e ↦ inr ((λ o h i. both_ways (is_by s k) e (out_drawn (λ o. eqb o.session s) k o h (eq-eqb _ _ i))), cond-false (is_by s k) free k e)
  ]

-- a ticket is its three figures
pub same_ticket : (t u : Ticket) → t.grid ≡ u.grid → t.number ≡ u.number → t.point ≡ u.point → t ≡ u
same_ticket t u g n p = λ i. record { grid = g i; number = n i; point = p i }

-- nothing is known of any point of a new ledger
pub new_free : {M : Type 0} (f : Figures) (p : ℕ) → (make {M = M} f).known p ≡ free
unfolding make make_by
new_free {M} f p = elim (first (figure_causes f)) as (λ v. (make_by {M = M} v f).known p ≡ free) [ None ↦ refl | Some e ↦ refl ]
