-- How a removal of what is picked goes on and ends.
use Rattle.std.proofs.Common.{◌≡◌, ℕ, ◌+◌, ◌-◌, ◌<◌, ◌≤◌, Bool, true, false, eqb, length, Some, None, sym, refl, ap, ◌∙◌, ⊎_elim, arith}
use Rattle.std.specs.List.{slice_get}
use Rattle.std.specs.Map.{update}
use Rattle.std.proofs.lemmas.Map.{update_here, update_apart}
use Rattle.std.proofs.lemmas.Bool.{cases_eq, cond-true, cond-false}
use Rattle.store.specs.Index.{point_at}
use Rattle.store.specs.Items.{look, Removed, Weeded, is_picked, unpicked}
use Rattle.store.specs.Layout.{Written}
use Rattle.store.specs.Contents.{items}
use Rattle.store.specs.declared.Store.{Store}
use Rattle.store.proofs.Known.{unknown, state_of}
use Rattle.store.proofs.States.{which}

-- from the store t to the store u with n points removed: no record from i on is picked
pub record Weeding {S : Type 0} (t u : Store S) (f : S → Bool) (n i : ℕ) : Type 0 where
  pub room : u.room ≡ t.room
  pub below : i ≤ u.table.used
  pub states : (q : ℕ) → unpicked f (look (items u) q) ≡ unpicked f (look (items t) q)
  pub done : (k : ℕ) → i ≤ k → k < u.table.used → is_picked f (slice_get u.records.now k) ≡ false
  pub used : u.table.used + n ≡ t.table.used
  pub count : length (items u) + n ≡ length (items t)

module _ {S : Type 0} (t u : Store S) (f : S → Bool) (n i : ℕ) (w : Weeding t u f n i) where
  -- a record in use is the state of its point
  state_at : (k p : ℕ) → k < u.table.used → point_at u.table.entries.now k ≡ p → look (items u) p ≡ slice_get u.records.now k
  state_at k p b e = state_of u p k (b, e)

  -- at the end no state is picked
  pub weeding_ends : i ≤ 0 → Weeded (items t) (items u) f n
  weeding_ends z = record {
    states = λ q. sym (cond-false (is_picked f (look (items u) q)) None (look (items u) q) (not_picked q)) ∙ w.states q;
    count = w.count;
  }
    where
      not_picked : (q : ℕ) → is_picked f (look (items u) q) ≡ false
      not_picked q = ⊎_elim
          (λ x. ap (is_picked f) (state_at x.0 q x.1.0 x.1.1) ∙ w.done x.0 (omega arith) x.1.0)
          (λ a. ap (is_picked f) (unknown u q a))
          (which u.table.entries.now u.table.used q)

  -- past one that is
  pub weeding_drops : 0 < i → (s : S) → slice_get u.records.now (i - 1) ≡ Some s → true ≡ f s → (v : Store S) → v.room ≡ u.room → v.table.used + 1 ≡ u.table.used
      → Written u.records.now v.records.now (i - 1) (slice_get u.records.now (u.table.used - 1))
      → Removed (items u) (items v) (point_at u.table.entries.now (i - 1)) → Weeding t v f (n + 1) (i - 1)
  weeding_drops b s here e v room used moved gone =
      let p = point_at u.table.entries.now (i - 1) in
      let le = w.below in
      let was : look (items u) p ≡ slice_get u.records.now (i - 1) = state_at (i - 1) p (omega arith) refl in
      record {
        room = room ∙ w.room;
        below = omega arith;
        states = λ q. ap (unpicked f) (gone.states q) ∙ ⊎_elim
            (λ x. ap (λ (r : ℕ). unpicked f (update eqb (look (items u)) p None r)) x ∙ ap (unpicked f) (update_here (look (items u)) p None)
            ∙ sym (cond-true (is_picked f (look (items u) p)) None (look (items u) p) (ap (is_picked f) (was ∙ here) ∙ sym e)) ∙ ap (λ (r : ℕ). unpicked f (look (items u) r)) (sym x))
            (λ x. ap (unpicked f) (update_apart (look (items u)) p None q x)) (cases_eq q p) ∙ w.states q;
        done = λ j l m. ⊎_elim
            (λ x. ap (λ (r : ℕ). is_picked f (slice_get v.records.now r)) x ∙ ap (is_picked f) moved.here ∙ w.done (u.table.used - 1) (omega arith) (omega arith))
            (λ x. ap (is_picked f) (moved.others j x) ∙ w.done j (omega arith) (omega arith)) (cases_eq j (i - 1));
        used = omega (arith, w.used);
        count = omega (arith, w.count, gone.count);
      }
