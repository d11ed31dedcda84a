-- What a write of one part of an entry does.
use Rattle.std.proofs.Common.{◌≡◌, ◌≢◌, ℕ, ◌<◌, List, length, set, get_or, refl, sym, ap, ◌∙◌, ⊎_elim}
use Rattle.std.proofs.lemmas.Bool.{cases_eq}
use Rattle.std.proofs.lemmas.List.{length-set, get_or-set_same, get_or-set_other}
use Rattle.store.specs.Index.{blank, slot_at, point_at, home_at}
use Rattle.store.specs.declared.entry.Entry.{Entry}
use Rattle.store.specs.declared.entry.Slot.{Slot}

-- the slot j holds t, and all else is as before
pub record SlotSet (es fs : List Entry) (j : ℕ) (t : Slot) : Type 0 where
  pub len : length fs ≡ length es
  pub here : slot_at fs j ≡ t
  pub other : (k : ℕ) → (k ≢ j) → slot_at fs k ≡ slot_at es k
  pub points : (k : ℕ) → point_at fs k ≡ point_at es k
  pub homes : (k : ℕ) → home_at fs k ≡ home_at es k

-- record i has the point p and the home h, and all else is as before
pub record RecordSet (es fs : List Entry) (i p h : ℕ) : Type 0 where
  pub len : length fs ≡ length es
  pub slots : (k : ℕ) → slot_at fs k ≡ slot_at es k
  pub point_here : point_at fs i ≡ p
  pub home_here : home_at fs i ≡ h
  pub point_other : (k : ℕ) → (k ≢ i) → point_at fs k ≡ point_at es k
  pub home_other : (k : ℕ) → (k ≢ i) → home_at fs k ≡ home_at es k

-- the slot j holds t
abbrev pub with_slot : List Entry → ℕ → Slot → List Entry
with_slot es j t = set es j (record (get_or es j blank) { slot = t })

-- record i has the point p and the home h
abbrev pub with_record : List Entry → ℕ → ℕ → ℕ → List Entry
with_record es i p h = set es i (record (get_or es i blank) { point = p; home = h })

module _ (es : List Entry) (j : ℕ) (b : j < length es) where
  -- a part that the new entry has as before is everywhere as before
  kept : {A : Type 0} (f : Entry → A) (e : Entry) → f e ≡ f (get_or es j blank) → (k : ℕ) → f (get_or (set es j e) k blank) ≡ f (get_or es k blank)
  kept f e s k = ⊎_elim
      (λ x. ap (λ (i : ℕ). f (get_or (set es j e) i blank)) x ∙ ap f (get_or-set_same es j e blank b) ∙ s ∙ ap (λ (i : ℕ). f (get_or es i blank)) (sym x))
      (λ n. ap f (get_or-set_other es j k e blank n)) (cases_eq k j)

  other : (e : Entry) (k : ℕ) → (k ≡ j → ⊥) → get_or (set es j e) k blank ≡ get_or es k blank
  other e k n = get_or-set_other es j k e blank n

  -- another slot
  pub slot_set : (t : Slot) → SlotSet es (with_slot es j t) j t
  slot_set t =
      let e = record (get_or es j blank) { slot = t } in
      record {
        len = length-set es j e;
        here = ap (λ (x : Entry). x.slot) (get_or-set_same es j e blank b);
        other = λ k n. ap (λ (x : Entry). x.slot) (other e k n);
        points = kept (λ x. x.point) e refl;
        homes = kept (λ x. x.home) e refl;
      }

  -- another record
  pub record_set : (p h : ℕ) → RecordSet es (with_record es j p h) j p h
  record_set p h =
      let e = record (get_or es j blank) { point = p; home = h } in
      record {
        len = length-set es j e;
        slots = kept (λ x. x.slot) e refl;
        point_here = ap (λ (x : Entry). x.point) (get_or-set_same es j e blank b);
        home_here = ap (λ (x : Entry). x.home) (get_or-set_same es j e blank b);
        point_other = λ k n. ap (λ (x : Entry). x.point) (other e k n);
        home_other = λ k n. ap (λ (x : Entry). x.home) (other e k n);
      }
