-- How an index is made anew: no records, and then one after the other.
use Rattle.std.proofs.Common.{◌≡◌, ℕ, ◌+◌, ◌<◌, List, length, sym, ap, ◌∙◌, ⊎_elim, arith}
use Rattle.std.proofs.lemmas.List.{get_or_past}
use Rattle.std.proofs.lemmas.Bool.{cases_lt, cases_eq}
use Rattle.store.specs.Index.{blank, Index, slot_at, point_at, Absent, Added, Rehashed}
use Rattle.store.specs.declared.entry.Entry.{Entry}
use Rattle.store.specs.declared.entry.Slot.TheVariants.{Empty}

-- a hash table with nothing in it serves no records
pub wiped : (es : List Entry) → ((k : ℕ) → k < length es → slot_at es k ≡ Empty) → Index es 0
wiped es empty = record {
  fits = omega arith;
  inside = λ i b. absurd (omega arith);
  there = λ i b. absurd (omega arith);
  back = λ k i e. ⊎_elim (λ b. let t = empty k b in let z : ◌≡◌ {A = ℕ} 0 1 = cc in absurd (omega arith)) (λ b. let t = ap (λ (x : Entry). x.slot) (get_or_past es k blank b) in let z : ◌≡◌ {A = ℕ} 0 1 = cc in absurd (omega arith)) (cases_lt k (length es));
  apart = λ i k b c e. absurd (omega arith);
  ways = λ i b. absurd (omega arith);
}

-- the records before i in a new hash table, with the same points
pub relinked : (es fs gs : List Entry) (i : ℕ) → Rehashed es fs i → Added fs gs i (point_at fs i) → Rehashed es gs (i + 1)
relinked es fs gs i so new = record {
  index = new.index;
  len = new.len ∙ so.len;
  points = λ k. ⊎_elim (λ h. ap (point_at gs) h ∙ new.last ∙ so.points i ∙ ap (point_at es) (sym h)) (λ n. new.others k n ∙ so.points k) (cases_eq k i);
}

-- none of them has the point of record i
pub next_absent : (es fs : List Entry) (used i : ℕ) → Index es used → i < used → Rehashed es fs i → Absent fs i (point_at fs i)
next_absent es fs used i ok b so k l h =
    let x = ok.apart k i (omega arith) b (sym (so.points k) ∙ h ∙ so.points i) in omega arith
