-- How an index changes by one record less.
use Rattle.std.proofs.Common.{◌≡◌, ℕ, ◌-◌, ◌<◌, List, length, sym, refl, ap, ◌∙◌, subst, ⊎_elim, arith}
use Rattle.std.proofs.lemmas.Bool.{cases_eq}
use Rattle.store.specs.Index.{Index, Way, slot_at, home_at, point_at, start_of, Dropped, Rehashed}
use Rattle.store.specs.declared.entry.Entry.{Entry}
use Rattle.store.specs.declared.entry.Slot.TheVariants.{Empty, Gone, At}
use Rattle.store.proofs.Ways.{way_kept}
use Rattle.store.proofs.Writes.{SlotSet, RecordSet, with_slot, with_record, slot_set, record_set}

-- two records have two homes
homes_apart : (es : List Entry) (used : ℕ) → Index es used → (m k : ℕ) → m < used → k < used → (m ≡ k → ⊥) → home_at es m ≡ home_at es k → ⊥
homes_apart es used ok m k b c ne e = ne (let t = ok.there m b in let u = ok.there k c in let v = ap (slot_at es) e in cc)

-- one record less: the last record's slot leads to i, the last record is written there, and the slot that led to i is gone
module _ (es ts bs fs : List Entry) (used i : ℕ) (ok : Index es used) (within : i < used)
    (first : SlotSet es ts (home_at es (used - 1)) (At i)) (recorded : RecordSet ts bs i (point_at es (used - 1)) (home_at es (used - 1)))
    (last : SlotSet bs fs (home_at es i) Gone) where
  len : length fs ≡ length es
  len = last.len ∙ recorded.len ∙ first.len

  slot_other : (k : ℕ) → (k ≡ home_at es i → ⊥) → (k ≡ home_at es (used - 1) → ⊥) → slot_at fs k ≡ slot_at es k
  slot_other k n m = last.other k n ∙ recorded.slots k ∙ first.other k m

  slot_last : (home_at es (used - 1) ≡ home_at es i → ⊥) → slot_at fs (home_at es (used - 1)) ≡ At i
  slot_last n = last.other (home_at es (used - 1)) n ∙ recorded.slots (home_at es (used - 1)) ∙ first.here

  point_moved : point_at fs i ≡ point_at es (used - 1)
  point_moved = last.points i ∙ recorded.point_here

  home_moved : home_at fs i ≡ home_at es (used - 1)
  home_moved = last.homes i ∙ recorded.home_here

  point_other : (k : ℕ) → (k ≡ i → ⊥) → point_at fs k ≡ point_at es k
  point_other k n = last.points k ∙ recorded.point_other k n ∙ first.points k

  home_other : (k : ℕ) → (k ≡ i → ⊥) → home_at fs k ≡ home_at es k
  home_other k n = last.homes k ∙ recorded.home_other k n ∙ first.homes k

  -- each record is the moved one or an old one
  each : (P : ℕ → Type 0) → (i < used - 1 → P i) → ((k : ℕ) → k < used - 1 → (k ≡ i → ⊥) → P k) → (k : ℕ) → k < used - 1 → P k
  each P new old k b = ⊎_elim (λ e. subst P (sym e) (new (omega arith))) (λ ne. old k b ne) (cases_eq k i)

  not_empty : (k : ℕ) → (slot_at es k ≡ Empty → ⊥) → slot_at fs k ≡ Empty → ⊥
  not_empty k was e =
      ⊎_elim (λ h. let t = last.here in let z : ◌≡◌ {A = ℕ} 0 1 = cc in omega arith)
      (λ n. ⊎_elim (λ h. let t = slot_last (λ g. n (h ∙ g)) in let z : ◌≡◌ {A = ℕ} 0 1 = cc in omega arith) (λ m. was (sym (slot_other k n m) ∙ e)) (cases_eq k (home_at es (used - 1))))
      (cases_eq k (home_at es i))

  dropped : Dropped es fs used i
  dropped = record {
    index = record {
      fits = omega (arith, len, ok.fits);
      inside = each (λ k. home_at fs k < length fs) (λ b. omega (arith, len, home_moved, ok.inside (used - 1) (omega arith)))
          (λ k b n. omega (arith, len, home_other k n, ok.inside k (omega arith)));
      there = each (λ k. slot_at fs (home_at fs k) ≡ At k)
          (λ b. ap (slot_at fs) home_moved ∙ slot_last (homes_apart es used ok (used - 1) i (omega arith) within (omega arith)))
          (λ k b n. ap (slot_at fs) (home_other k n) ∙ slot_other (home_at es k) (homes_apart es used ok k i (omega arith) within n) (homes_apart es used ok k (used - 1) (omega arith) (omega arith) (omega arith)) ∙ ok.there k (omega arith));
      back = λ k m e. ⊎_elim (λ h. let t = last.here in let z : ◌≡◌ {A = ℕ} 0 1 = cc in absurd (omega arith))
          (λ n. ⊎_elim
          (λ h. let t = slot_last (λ g. n (h ∙ g)) in let u : m ≡ i = cc in
          let ne : i ≡ used - 1 → ⊥ = λ x. n (h ∙ ap (home_at es) (sym x)) in (omega arith, ap (home_at fs) u ∙ home_moved ∙ sym h))
          (λ o. let b = ok.back k m (sym (slot_other k n o) ∙ e) in
          let ni : m ≡ i → ⊥ = λ x. n (sym b.1 ∙ ap (home_at es) x) in
          let nl : m ≡ used - 1 → ⊥ = λ x. o (sym b.1 ∙ ap (home_at es) x) in (omega arith, home_other m ni ∙ b.1))
          (cases_eq k (home_at es (used - 1)))) (cases_eq k (home_at es i));
      apart = λ k m b c. each (λ k. (m : ℕ) → m < used - 1 → point_at fs k ≡ point_at fs m → k ≡ m)
          (λ b. each (λ m. point_at fs i ≡ point_at fs m → i ≡ m) (λ _ _. refl)
          (λ m c n e. let x = ok.apart (used - 1) m (omega arith) (omega arith) (sym point_moved ∙ e ∙ point_other m n) in omega arith))
          (λ k b n. each (λ m. point_at fs k ≡ point_at fs m → k ≡ m)
          (λ c e. let x = ok.apart k (used - 1) (omega arith) (omega arith) (sym (point_other k n) ∙ e ∙ point_moved) in omega arith)
          (λ m c o e. ok.apart k m (omega arith) (omega arith) (sym (point_other k n) ∙ e ∙ point_other m o))) k b m c;
      ways = each (λ k. Way fs (start_of (point_at fs k) (length fs)) (home_at fs k))
          (λ b. way_kept es fs (start_of (point_at es (used - 1)) (length es)) _ (home_at es (used - 1)) _ len (cc (len, point_moved)) (sym home_moved) not_empty (ok.ways (used - 1) (omega arith)))
          (λ k b n. way_kept es fs (start_of (point_at es k) (length es)) _ (home_at es k) _ len (cc (len, point_other k n)) (sym (home_other k n)) not_empty (ok.ways k (omega arith)));
    };
    len = len;
    moved = λ _. point_moved;
    others = λ k b n. point_other k n;
  }

-- the three writes
pub removed : (es : List Entry) (used i : ℕ) → Index es used → i < used
    → Dropped es (with_slot (with_record (with_slot es (home_at es (used - 1)) (At i)) i (point_at es (used - 1)) (home_at es (used - 1))) (home_at es i) Gone) used i
removed es used i ok b =
    let last = used - 1 in
    let w = slot_set es (home_at es last) (ok.inside last (omega arith)) (At i) in
    let ts = with_slot es (home_at es last) (At i) in
    let r = record_set ts i (omega (arith, w.len, ok.fits)) (point_at es last) (home_at es last) in
    dropped es _ _ _ used i ok b w r
    (slot_set (with_record ts i (point_at es last) (home_at es last)) (home_at es i) (omega (arith, w.len, r.len, ok.inside i b)) Gone)

-- and then a hash table made anew
pub dropped_anew : (es fs gs : List Entry) (used i : ℕ) → Dropped es fs used i → Rehashed fs gs (used - 1) → Dropped es gs used i
dropped_anew es fs gs used i d r = record {
  index = r.index;
  len = r.len ∙ d.len;
  moved = λ b. r.points i ∙ d.moved b;
  others = λ k b n. r.points k ∙ d.others k b n;
}
