-- Counting: a hash table with fewer records than slots has a slot that is not taken.
use Rattle.std.proofs.Common.{◌≡◌, ℕ, zero, suc, ◌<◌, ◌≤◌, true, cond, eqb, List, length, refl, ⊎_elim, arith}
use Rattle.std.proofs.lemmas.Bool.{cases_lt}
use Rattle.store.specs.Index.{Index, Taken, taken, slot_at, home_at}
use Rattle.store.specs.declared.entry.Entry.{Entry}
use Rattle.store.specs.declared.entry.Slot.{Slot}
use Rattle.store.specs.declared.entry.Slot.TheVariants.{Empty, Gone, At}
use Rattle.std.proofs.lemmas.Bool.Decides.{nat_tests}

-- n numbers that f sends below m, each to another, are at most m
pigeon : (n m : ℕ) (f g : ℕ → ℕ) → ((k : ℕ) → k < n → f k < m) → ((k : ℕ) → k < n → g (f k) ≡ k) → n ≤ m
pigeon zero m f g below back = omega arith
pigeon (suc n) zero f g below back = let b = below zero (omega arith) in omega arith
pigeon (suc n) (suc m) f g below back =
    let top = below n (omega arith) in
    let topback = back n (omega arith) in
    let r : n ≤ m = pigeon n m (λ k. cond (eqb (f k) m) (f n) (f k)) (λ x. cond (eqb x (f n)) (g m) (g x))
    (λ k h. let b = below k (omega arith) in let e = back k (omega arith) in grind (arith, nat_tests))
    (λ k h. let b = below k (omega arith) in let e = back k (omega arith) in grind (arith, nat_tests)) in
    omega arith

-- the record that a slot leads to
abbrev number : Slot → ℕ
number Empty = 0
number Gone = 0
number (At i) = i

-- a slot that is taken leads to a record
taken_at : (t : Slot) → taken t ≡ true → t ≡ At (number t)
taken_at Empty h = cc
taken_at Gone h = cc
taken_at (At i) h = refl

-- a hash table that is taken all over has as many records as slots
pub full : (es : List Entry) (used h : ℕ) → Index es used → Taken es h (length es) → Taken es 0 h → length es ≤ used
full es used h ok high low =
    pigeon (length es) used (λ k. number (slot_at es k)) (home_at es)
    (λ k b. (ok.back k (number (slot_at es k)) (at k b)).0)
    (λ k b. (ok.back k (number (slot_at es k)) (at k b)).1)
  where
    at : (k : ℕ) → k < length es → slot_at es k ≡ At (number (slot_at es k))
    at k b = taken_at (slot_at es k) (⊎_elim (λ l. low k (omega arith) l) (λ l. high k l b) (cases_lt k h))
