-- How an index changes by one record more.
use Rattle.std.proofs.Common.{◌≡◌, ℕ, ◌+◌, ◌<◌, true, List, length, sym, refl, ap, ◌∙◌, subst, ⊎_elim, arith}
use Rattle.std.proofs.lemmas.Bool.{cases_eq}
use Rattle.store.specs.Index.{Index, Way, taken, slot_at, home_at, point_at, start_of, Absent, Free, Added}
use Rattle.store.specs.declared.entry.Entry.{Entry}
use Rattle.store.specs.declared.entry.Slot.{Slot}
use Rattle.store.specs.declared.entry.Slot.TheVariants.{Empty, At}
use Rattle.store.proofs.Ways.{way_kept}
use Rattle.store.proofs.Writes.{SlotSet, RecordSet, with_slot, with_record, slot_set, record_set}

-- what holds of the records before the last, and of the last
each : (used : ℕ) (P : ℕ → Type 0) → P used → ((i : ℕ) → i < used → P i) → (i : ℕ) → i < used + 1 → P i
each used P new old i b = ⊎_elim (λ e. subst P (sym e) new) (λ ne. old i (omega arith)) (cases_eq i used)

-- a slot that is taken is not empty
taken_not_empty : (t : Slot) → taken t ≡ true → t ≡ Empty → ⊥
taken_not_empty t h e = let z : ◌≡◌ {A = ℕ} 0 1 = cc in omega arith

-- one record more: its entry is written, and then a free slot leads to it
module _ (es ms fs : List Entry) (used p j : ℕ) (ok : Index es used) (room : used < length es) (absent : Absent es used p)
    (free : Free es (start_of p (length es)) j) (recorded : RecordSet es ms used p j) (slotted : SlotSet ms fs j (At used)) where
  len : length fs ≡ length es
  len = slotted.len ∙ recorded.len

  slot_other : (k : ℕ) → (k ≡ j → ⊥) → slot_at fs k ≡ slot_at es k
  slot_other k ne = slotted.other k ne ∙ recorded.slots k

  point_here : point_at fs used ≡ p
  point_here = slotted.points used ∙ recorded.point_here

  home_here : home_at fs used ≡ j
  home_here = slotted.homes used ∙ recorded.home_here

  point_old : (i : ℕ) → i < used → point_at fs i ≡ point_at es i
  point_old i b = slotted.points i ∙ recorded.point_other i (omega arith)

  home_old : (i : ℕ) → i < used → home_at fs i ≡ home_at es i
  home_old i b = slotted.homes i ∙ recorded.home_other i (omega arith)

  not_empty : (k : ℕ) → (slot_at es k ≡ Empty → ⊥) → slot_at fs k ≡ Empty → ⊥
  not_empty k was e = ⊎_elim (λ h. let t = slotted.here in let z : ◌≡◌ {A = ℕ} 0 1 = cc in omega arith) (λ ne. was (sym (slot_other k ne) ∙ e)) (cases_eq k j)

  added : Added es fs used p
  added = record {
    index = record {
      fits = omega (arith, len);
      inside = each used (λ i. home_at fs i < length fs) (omega (arith, len, home_here, free.inside)) (λ i b. omega (arith, len, home_old i b, ok.inside i b));
      there = each used (λ i. slot_at fs (home_at fs i) ≡ At i) (ap (slot_at fs) home_here ∙ slotted.here)
          (λ i b. ap (slot_at fs) (home_old i b) ∙ slot_other (home_at es i) (λ e. let t = ok.there i b in let v = free.vacant in let z : ◌≡◌ {A = ℕ} 0 1 = cc in omega arith) ∙ ok.there i b);
      back = λ k i e. ⊎_elim
          (λ h. let t = slotted.here in let u : i ≡ used = cc in (omega arith, ap (home_at fs) u ∙ home_here ∙ sym h))
          (λ ne. let b = ok.back k i (sym (slot_other k ne) ∙ e) in (omega arith, home_old i b.0 ∙ b.1)) (cases_eq k j);
      apart = λ i k b c. each used (λ i. (k : ℕ) → k < used + 1 → point_at fs i ≡ point_at fs k → i ≡ k)
          (each used (λ k. point_at fs used ≡ point_at fs k → used ≡ k) (λ _. refl) (λ k c e. absurd (absent k c (sym (point_old k c) ∙ sym e ∙ point_here))))
          (λ i b. each used (λ k. point_at fs i ≡ point_at fs k → i ≡ k) (λ e. absurd (absent i b (sym (point_old i b) ∙ e ∙ point_here)))
          (λ k c e. ok.apart i k b c (sym (point_old i b) ∙ e ∙ point_old k c))) i b k c;
      ways = each used (λ i. Way fs (start_of (point_at fs i) (length fs)) (home_at fs i))
          (way_kept es fs (start_of p (length es)) _ j _ len (cc (len, point_here)) (sym home_here) not_empty
          (record {
            up = λ k l m. taken_not_empty (slot_at es k) (free.up k l m);
            round = λ k n l m. taken_not_empty (slot_at es k) (free.round n k l m);
            low = λ k n l. taken_not_empty (slot_at es k) (free.low n k (omega arith) l);
          }))
          (λ i b. way_kept es fs (start_of (point_at es i) (length es)) _ (home_at es i) _ len (cc (len, point_old i b)) (sym (home_old i b)) not_empty (ok.ways i b));
    };
    len = len;
    last = point_here;
    others = λ i n. slotted.points i ∙ recorded.point_other i n;
  }

-- the two writes
pub pushed : (es : List Entry) (used p j : ℕ) → Index es used → used < length es → Absent es used p → Free es (start_of p (length es)) j
    → Added es (with_slot (with_record es used p j) j (At used)) used p
pushed es used p j ok room absent free =
    let w = record_set es used room p j in
    added es _ _ used p j ok room absent free w (slot_set (with_record es used p j) j (omega (arith, free.inside, w.len)) (At used))
