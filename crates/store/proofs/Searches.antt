-- The search for the record of a point.
use Rattle.std.proofs.Common.{◌≡◌, ℕ, ◌+◌, ◌-◌, ◌<◌, ◌≤◌, List, length, get_or, drop, take, sym, ap, ◌∙◌, subst, ⊎_elim, arith}
use Rattle.std.proofs.lemmas.Bool.{cases_eq}
use Rattle.std.proofs.lemmas.List.{get_or-drop, get_or-take, get_or_default, length-drop, length-take-le}
use Rattle.store.specs.Index.{blank, Clear, slot_at, point_at}
use Rattle.store.specs.declared.entry.Entry.{Entry}
use Rattle.store.specs.declared.entry.Slot.{Slot}
use Rattle.store.specs.declared.entry.Slot.TheVariants.{Gone, At}

-- the slot of an entry of a part, in the whole
pub slot_in : (es : List Entry) (a b k : ℕ) (d : Entry) (t : Slot) → b ≤ length es → k < length (take (b - a) (drop a es)) → (get_or (take (b - a) (drop a es)) k d).slot ≡ t
    → slot_at es (a + k) ≡ t
slot_in es a b k d t l m e =
    let short : b - a ≤ length (drop a es) = omega (arith, length-drop a es) in
    let n : k < b - a = omega (arith, length-take-le (b - a) (drop a es) short) in
    ap (λ (x : Entry). x.slot) (sym (get_or-take (b - a) (drop a es) k d n ∙ get_or-drop a es k d ∙ get_or_default es (a + k) d blank (omega arith))) ∙ e

-- the slots from a to a + n lead to no record with the point p, nor does the next
module _ (es : List Entry) (p a n : ℕ) (all : Clear es p a (a + n)) where
  clear_more : ((i : ℕ) → slot_at es (a + n) ≡ At i → point_at es i ≡ p → ⊥) → Clear es p a (a + (n + 1))
  clear_more new k i l m = ⊎_elim (λ e. subst (λ (j : ℕ). slot_at es j ≡ At i → point_at es i ≡ p → ⊥) (sym e) (new i)) (λ ne. all k i l (omega arith)) (cases_eq k (a + n))

  -- since that is gone
  pub clear_gone : slot_at es (a + n) ≡ Gone → Clear es p a (a + (n + 1))
  clear_gone g = clear_more (λ i t e. let z : ◌≡◌ {A = ℕ} 0 1 = cc in omega arith)

  -- since that leads to a record with another point
  pub clear_at : (m : ℕ) → slot_at es (a + n) ≡ At m → (point_at es m ≡ p → ⊥) → Clear es p a (a + (n + 1))
  clear_at m t differs = clear_more (λ i s e. let z : i ≡ m = cc in differs (subst (λ (j : ℕ). point_at es j ≡ p) z e))
