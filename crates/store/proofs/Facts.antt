-- The items of a store are a finite map.
use Rattle.std.proofs.Common.{◌≡◌, ℕ, Some, sym, ap, ◌∙◌, ⊎_elim, arith}
use Rattle.store.specs.Contents.{items, capacity, Holds}
use Rattle.store.specs.declared.Store.{Store}
use Rattle.store.proofs.States.{found, length_held, look_absent, nth_held, record_of, which}

-- every store is one
pub holds : {S : Type 0} (m : Store S) → Holds m
unfolding items capacity
holds {S} m =
    let t = m.table in
    let ok = t.sound in
    let es = t.entries.now in
    let ss = m.records.now in
    let n = length_held es ss t.used (omega arith) (omega arith) in
    record {
      fits = omega arith;
      apart = λ i j p s u a b.
          let x = record_of es ss t.used i p s a in
          let y = record_of es ss t.used j p u b in
          ok.apart i j x.0.0 y.0.0 (x.0.1 ∙ sym y.0.1);
      each = λ i p s a.
          let x = record_of es ss t.used i p s a in
          found es ss t.used ok (omega arith) i p x.0.0 x.0.1 ∙ x.1;
      all = λ p s e. ⊎_elim
          (λ x. (
            x.0,
            nth_held es ss t.used x.0 s x.1.0 (omega arith) (sym (found es ss t.used ok (omega arith) x.0 p x.1.0 x.1.1) ∙ e)
                ∙ ap (λ (q : ℕ). Some (q, s)) x.1.1,
          ))
          (λ a. let n = look_absent es ss t.used p a in let z : ◌≡◌ {A = ℕ} 0 1 = cc in absurd (omega arith))
          (which es t.used p);
    }
