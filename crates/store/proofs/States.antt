-- What the items of a table say of a point, by the records.
use Rattle.std.proofs.Common.{◌≡◌, ℕ, zero, suc, map, take, ◌+◌, ◌-◌, ◌<◌, ◌≤◌, eqb, ◌⊎◌, List, [], ◌∷◌, length, set, get_or, Some, None, Option, sym, refl, ap, ◌∙◌, inl, inr, ⊎_elim, arith}
use Rattle.std.specs.List.{slice_get, zip}
use Rattle.std.specs.Map.{update}
use Rattle.std.proofs.lemmas.Option.{slice_get-get_or}
use Rattle.std.proofs.lemmas.Map.{update_here, update_apart}
use Rattle.std.proofs.lemmas.List.{length-set, get_or-set_same}
use Rattle.std.proofs.lemmas.Bool.{cases_eq, eq-eqb, ne_eqb, cond-true, cond-false}
use Rattle.store.specs.Index.{Index, point_at, Absent, Place, Added, Dropped}
use Rattle.store.specs.Items.{look}
use Rattle.store.specs.Layout.{held, Written}
use Rattle.store.specs.declared.entry.Entry.{Entry}

-- no two of the first `used` records have one point
abbrev pub Apart : List Entry → ℕ → Type 0
Apart es used = (i j : ℕ) → i < used → j < used → point_at es i ≡ point_at es j → i ≡ j

-- a point with no record has no state
pub look_absent : {S : Type 0} (es : List Entry) (ss : List S) (used p : ℕ) → Absent es used p → look (held es ss used) p ≡ None
unfolding look held
look_absent es ss zero p h = refl
look_absent [] ss (suc n) p h = refl
look_absent (e ∷ es) [] (suc n) p h = refl
look_absent (e ∷ es) (s ∷ ss) (suc n) p h =
    cond-false (eqb p e.point) (Some s) (look (held es ss n) p) (ne_eqb p e.point (λ x. h 0 (omega arith) (sym x)))
    ∙ look_absent es ss n p (λ i b. h (suc i) (omega arith))

-- with no records in use there is no item
pub held_none : {S : Type 0} (es : List Entry) (ss : List S) (n : ℕ) → n ≡ 0 → held es ss n ≡ []
unfolding held
held_none es ss n e = ap (λ (k : ℕ). held es ss k) e

-- so no point has a state
pub look_none : {S : Type 0} (es : List Entry) (ss : List S) (n q : ℕ) → n ≡ 0 → look (held es ss n) q ≡ None
look_none es ss n q e = look_absent es ss n q (λ i b. absurd (omega arith))

-- a point with a record has the state there
pub look_found : {S : Type 0} (es : List Entry) (ss : List S) (used i p : ℕ) → Apart es used → used ≤ length es → used ≤ length ss
    → i < used → point_at es i ≡ p → look (held es ss used) p ≡ slice_get ss i
unfolding look held
look_found es ss zero i p apart a b l e = absurd (omega arith)
look_found [] ss (suc n) i p apart a b l e = absurd (omega arith)
look_found (x ∷ es) [] (suc n) i p apart a b l e = absurd (omega arith)
look_found (x ∷ es) (s ∷ ss) (suc n) zero p apart a b l e =
    cond-true (eqb p x.point) (Some s) (look (held es ss n) p) (eq-eqb p x.point (sym e))
look_found (x ∷ es) (s ∷ ss) (suc n) (suc i) p apart a b l e =
    cond-false (eqb p x.point) (Some s) (look (held es ss n) p)
    (ne_eqb p x.point (λ y. let z = apart (suc i) 0 l (omega arith) (e ∙ y) in omega arith))
    ∙ look_found es ss n i p (λ j k c d f. let z = apart (suc j) (suc k) (omega arith) (omega arith) f in omega arith)
    (omega arith) (omega arith) (omega arith) e

-- a table holds as many items as it has records in use
pub length_held : {S : Type 0} (es : List Entry) (ss : List S) (used : ℕ) → used ≤ length es → used ≤ length ss → length (held es ss used) ≡ used
unfolding held
length_held es ss zero a b = refl
length_held [] ss (suc n) a b = absurd (omega arith)
length_held (e ∷ es) [] (suc n) a b = absurd (omega arith)
length_held (e ∷ es) (s ∷ ss) (suc n) a b = ap suc (length_held es ss n (omega arith) (omega arith))

-- the item of a record
pub nth_held : {S : Type 0} (es : List Entry) (ss : List S) (used i : ℕ) (s : S) → i < used → used ≤ length es → slice_get ss i ≡ Some s
    → slice_get (held es ss used) i ≡ Some (point_at es i, s)
unfolding held
nth_held es ss zero i s l a e = absurd (omega arith)
nth_held [] ss (suc n) i s l a e = absurd (omega arith)
nth_held (x ∷ es) [] (suc n) i s l a e = cc
nth_held (x ∷ es) (t ∷ ss) (suc n) zero s l a e = cc
nth_held (x ∷ es) (t ∷ ss) (suc n) (suc i) s l a e = nth_held es ss n i s (omega arith) (omega arith) e

-- so what the record of that number gives is the item
pub item_at : {S : Type 0} (es : List Entry) (ss : List S) (used i j k : ℕ) (d : S) → j ≡ i → k ≡ i → i < used → used ≤ length es → used ≤ length ss
    → Some (point_at es j, get_or ss k d) ≡ slice_get (held es ss used) i
item_at es ss used i j k d ej ek l a b =
    let e = nth_held es ss used i (get_or ss i d) l a (slice_get-get_or ss i d (omega arith)) in
    let p : point_at es j ≡ point_at es i = ap (point_at es) ej in
    let s : get_or ss k d ≡ get_or ss i d = ap (λ (m : ℕ). get_or ss m d) ek in
    cc

-- the record of an item
pub record_of : {S : Type 0} (es : List Entry) (ss : List S) (used i p : ℕ) (s : S) → slice_get (held es ss used) i ≡ Some (p, s)
    → Place es used p i × (slice_get ss i ≡ Some s)
unfolding held
record_of es ss zero i p s e = let z : ◌≡◌ {A = ℕ} 0 1 = cc in absurd (omega arith)
record_of [] ss (suc n) i p s e = let z : ◌≡◌ {A = ℕ} 0 1 = cc in absurd (omega arith)
record_of (x ∷ es) [] (suc n) i p s e = let z : ◌≡◌ {A = ℕ} 0 1 = cc in absurd (omega arith)
record_of {S} (x ∷ es) (t ∷ ss) (suc n) zero p s e =
    let h : ◌≡◌ {A = ℕ × S} (x.point, t) (p, s) = cc in
    ((omega arith, ap (λ (y : ℕ × S). y.0) h), ap (λ (y : ℕ × S). Some y.1) h)
record_of (x ∷ es) (t ∷ ss) (suc n) (suc i) p s e = let r = record_of es ss n i p s e in ((omega (arith, r.0.0), r.0.1), r.1)

-- a point has a record, or is absent
pub which : (es : List Entry) (used p : ℕ) → ((i : ℕ) × Place es used p i) ⊎ Absent es used p
which es zero p = inr (λ i b e. absurd (omega arith))
which es (suc k) p = ⊎_elim (λ h. inl (k, (omega arith, h)))
    (λ n. ⊎_elim (λ f. inl (f.0, ((let b = f.1.0 in omega arith), f.1.1)))
    (λ a. inr (λ i b e. ⊎_elim (λ h. n (ap (point_at es) (sym h) ∙ e)) (λ m. a i (omega arith) e) (cases_eq i k))) (which es k p))
    (cases_eq (point_at es k) p)

-- what is written is read
nth_set_same : {S : Type 0} (ss : List S) (i : ℕ) (s : S) → i < length ss → slice_get (set ss i s) i ≡ Some s
nth_set_same ss i s b = slice_get-get_or (set ss i s) i s (omega (arith, length-set ss i s)) ∙ ap Some (get_or-set_same ss i s s b)

-- the other places are as before
nth_set_other : {S : Type 0} (ss : List S) (i k : ℕ) (s : S) → (k ≡ i → ⊥) → slice_get (set ss i s) k ≡ slice_get ss k
nth_set_other [] i k s n = refl
nth_set_other (x ∷ xs) zero zero s n = absurd (n refl)
nth_set_other (x ∷ xs) zero (suc k) s n = refl
nth_set_other (x ∷ xs) (suc i) zero s n = refl
nth_set_other (x ∷ xs) (suc i) (suc k) s n = nth_set_other xs i k s (λ e. n (ap suc e))

-- a write of one state
pub written : {S : Type 0} (ss : List S) (i : ℕ) (s : S) → i < length ss → Written ss (set ss i s) i (Some s)
written ss i s b = record { len = length-set ss i s; here = nth_set_same ss i s b; others = λ k n. nth_set_other ss i k s n }

-- a write of the state at another place
pub written_from : {S : Type 0} (ss : List S) (i k : ℕ) (d : S) → i < length ss → k < length ss → Written ss (set ss i (get_or ss k d)) i (slice_get ss k)
written_from ss i k d b c =
    let w = written ss i (get_or ss k d) b in
    record { len = w.len; here = w.here ∙ sym (slice_get-get_or ss k d c); others = w.others }

-- there is something at each place of a list
nth_some : {S : Type 0} (ss : List S) (i : ℕ) → i < length ss → slice_get ss i ≡ None → ⊥
nth_some [] i b e = omega arith
nth_some (x ∷ xs) zero b e = let z : ◌≡◌ {A = ℕ} 0 1 = cc in omega arith
nth_some (x ∷ xs) (suc i) b e = nth_some xs i (omega arith) e

-- the entries es are an index of the first `used` records of ss
module _ {S : Type 0} (es : List Entry) (ss : List S) (used : ℕ) (ok : Index es used) (fits : used ≤ length ss) where
  -- a point with a record has the state there
  pub found : (i p : ℕ) → i < used → point_at es i ≡ p → look (held es ss used) p ≡ slice_get ss i
  found i p b e = look_found es ss used i p ok.apart ok.fits fits b e

  -- a point with a record has a state
  pub not_none : (p i : ℕ) → i < used → look (held es ss used) p ≡ slice_get ss i → look (held es ss used) p ≡ None → ⊥
  not_none p i b e n = nth_some ss i (omega arith) (sym e ∙ n)

  -- one record more
  pub look_added : (fs : List Entry) (ts : List S) (p : ℕ) (s : S) → used < length ss → Added es fs used p → Written ss ts used (Some s)
      → (q : ℕ) → look (held fs ts (used + 1)) q ≡ update eqb (look (held es ss used)) p (Some s) q
  look_added fs ts p s room added w q = ⊎_elim
      (λ h. new used q (omega arith) (added.last ∙ sym h) ∙ w.here ∙ sym (ap (update eqb old p (Some s)) h ∙ update_here old p (Some s)))
      (λ n. ⊎_elim
      (λ f. let b = f.1.0 in new f.0 q (omega arith) (added.others f.0 (omega arith) ∙ f.1.1)
      ∙ w.others f.0 (omega arith) ∙ sym (found f.0 q b f.1.1))
      (λ a. look_absent fs ts (used + 1) q
      (λ k b e. ⊎_elim (λ h. n (sym e ∙ ap (point_at fs) h ∙ added.last)) (λ m. a k (omega arith) (sym (added.others k m) ∙ e)) (cases_eq k used))
      ∙ sym (look_absent es ss used q a))
      (which es used q) ∙ sym (update_apart old p (Some s) q n))
      (cases_eq q p)
    where
      old : ℕ → Option S
      old = look (held es ss used)

      new : (i p : ℕ) → i < used + 1 → point_at fs i ≡ p → look (held fs ts (used + 1)) p ≡ slice_get ts i
      new i p b e = look_found fs ts (used + 1) i p added.index.apart added.index.fits (omega (arith, w.len)) b e

  -- one record less, with the last in its place
  pub look_dropped : (fs : List Entry) (ts : List S) (i : ℕ) → Dropped es fs used i → i < used → Written ss ts i (slice_get ss (used - 1))
      → (q : ℕ) → look (held fs ts (used - 1)) q ≡ update eqb (look (held es ss used)) (point_at es i) None q
  look_dropped fs ts i gone within w q = ⊎_elim
      (λ h. look_absent fs ts (used - 1) q
      (λ k b e. ⊎_elim
      (λ x. let y = ok.apart (used - 1) i (omega arith) within (sym (gone.moved (omega arith)) ∙ ap (point_at fs) (sym x) ∙ e ∙ h) in omega arith)
      (λ n. n (ok.apart k i (omega arith) within (sym (gone.others k b n) ∙ e ∙ h))) (cases_eq k i))
      ∙ sym (ap (update eqb old (point_at es i) None) h ∙ update_here old (point_at es i) None))
      (λ n. ⊎_elim
      (λ f. let k = f.0 in let b : k < used = f.1.0 in let e : point_at es k ≡ q = f.1.1 in
      let m : k ≡ i → ⊥ = λ x. n (sym e ∙ ap (point_at es) x) in
      ⊎_elim
      (λ x. new i q (omega arith) (gone.moved (omega arith) ∙ ap (point_at es) (sym x) ∙ e) ∙ w.here ∙ ap (slice_get ss) (sym x))
      (λ o. new k q (omega arith) (gone.others k (omega arith) m ∙ e) ∙ w.others k m)
      (cases_eq k (used - 1))
      ∙ sym (found k q b e))
      (λ a. look_absent fs ts (used - 1) q
      (λ k b e. ⊎_elim (λ x. a (used - 1) (omega arith) (sym (gone.moved (omega arith)) ∙ ap (point_at fs) (sym x) ∙ e))
      (λ m. a k (omega arith) (sym (gone.others k b m) ∙ e)) (cases_eq k i))
      ∙ sym (look_absent es ss used q a))
      (which es used q) ∙ sym (update_apart old (point_at es i) None q n))
      (cases_eq q (point_at es i))
    where
      old : ℕ → Option S
      old = look (held es ss used)

      new : (i p : ℕ) → i < used - 1 → point_at fs i ≡ p → look (held fs ts (used - 1)) p ≡ slice_get ts i
      new i p b e = look_found fs ts (used - 1) i p gone.index.apart gone.index.fits (omega (arith, w.len)) b e

  -- another state of one record
  pub look_written : (ts : List S) (i p : ℕ) (s : S) → Place es used p i → Written ss ts i (Some s)
      → (q : ℕ) → look (held es ts used) q ≡ update eqb (look (held es ss used)) p (Some s) q
  look_written ts i p s at w q = ⊎_elim
      (λ h. new i q at.0 (at.1 ∙ sym h) ∙ w.here ∙ sym (ap (update eqb old p (Some s)) h ∙ update_here old p (Some s)))
      (λ n. ⊎_elim
      (λ f. new f.0 q f.1.0 f.1.1 ∙ w.others f.0 (λ x. n (sym f.1.1 ∙ ap (point_at es) x ∙ at.1))
      ∙ sym (found f.0 q f.1.0 f.1.1))
      (λ a. look_absent es ts used q a ∙ sym (look_absent es ss used q a))
      (which es used q) ∙ sym (update_apart old p (Some s) q n))
      (cases_eq q p)
    where
      old : ℕ → Option S
      old = look (held es ss used)

      new : (i p : ℕ) → i < used → point_at es i ≡ p → look (held es ts used) p ≡ slice_get ts i
      new i p b e = look_found es ts used i p ok.apart ok.fits (omega (arith, w.len)) b e

-- other entries with the same points
pub held_alike : {S : Type 0} (es fs : List Entry) (ss : List S) (used : ℕ) → length fs ≡ length es → ((k : ℕ) → point_at fs k ≡ point_at es k)
    → held fs ss used ≡ held es ss used
unfolding held
held_alike es fs ss zero l h = refl
held_alike [] [] ss (suc n) l h = refl
held_alike [] (f ∷ fs) ss (suc n) l h = absurd (omega arith)
held_alike (e ∷ es) [] ss (suc n) l h = absurd (omega arith)
held_alike (e ∷ es) (f ∷ fs) [] (suc n) l h = refl
held_alike (e ∷ es) (f ∷ fs) (s ∷ ss) (suc n) l h =
    let r = held_alike es fs ss n (omega arith) (λ k. h (suc k)) in let x = h 0 in cc

-- the first entries beside the first records are the items
pub held_front : {S : Type 0} (es : List Entry) (ss : List S) (used : ℕ) → zip (map (λ e. e.point) (take used es)) (take used ss) ≡ held es ss used
unfolding held
held_front es ss zero = refl
held_front [] ss (suc n) = refl
held_front (e ∷ es) [] (suc n) = refl
held_front (e ∷ es) (s ∷ ss) (suc n) = ap (λ (xs : List (ℕ × _)). (e.point, s) ∷ xs) (held_front es ss n)
