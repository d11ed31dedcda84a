-- What a filter keeps, and how many elements of a list pass a test.
use Rattle.std.proofs.Common.{◌≡◌, ◌≤◌, Bool, true, List, [], ◌∷◌, length, count_by, filter, sym, ap, ◌∙◌, inl, inr, arith}
use Rattle.std.proofs.lemmas.List.Sums.{length-filter}
use Rattle.std.proofs.lemmas.Bool.{cond_both}
use Rattle.basis.specs.Lists.{IsIn, AllDistinct}
use Rattle.basis.proofs.Sets.{shorter}

module _ {X : Type 0} (f : X → Bool) where
  pub kept_only : (xs : List X) (x : X) → IsIn x (filter f xs) → IsIn x xs × (f x ≡ true)
  kept_only [] x h = absurd h
  kept_only (y ∷ xs) x h =
      let later : IsIn x (filter f xs) → IsIn x (y ∷ xs) × (f x ≡ true) = λ m. let w = kept_only xs x m in (inr w.0, w.1) in
      cond_both (f y) (y ∷ filter f xs) (filter f xs) (λ zs. IsIn x zs → IsIn x (y ∷ xs) × (f x ≡ true))
      (λ t m. elim m [ inl q ↦ (inl q, ap f q ∙ t) | inr k ↦ later k ]) (λ t. later) h

  pub kept_all : (xs : List X) (x : X) → IsIn x xs → f x ≡ true → IsIn x (filter f xs)
  kept_all [] x h e = absurd h
  kept_all (y ∷ xs) x (inl q) e = rw (ap f (sym q) ∙ e) (inl q)
  kept_all (y ∷ xs) x (inr h) e =
      let k = kept_all xs x h e in
      cond_both (f y) (y ∷ filter f xs) (filter f xs) (IsIn x) (λ t. inr k) (λ t. k)

  pub kept_distinct : (xs : List X) → AllDistinct xs → AllDistinct (filter f xs)
  kept_distinct [] d = tt
  kept_distinct (y ∷ xs) d =
      let k = kept_distinct xs d.1 in
      cond_both (f y) (y ∷ filter f xs) (filter f xs) AllDistinct (λ t. ((λ h. d.0 (kept_only xs y h).0), k)) (λ t. k)

  -- no more elements of a list pass the test than are listed
  pub count_at_most : (xs ys : List X) → AllDistinct xs → ((x : X) → IsIn x xs → f x ≡ true → IsIn x ys) → count_by f xs ≤ length ys
  count_at_most xs ys d h =
      omega (arith, length-filter f xs, shorter (filter f xs) ys (kept_distinct xs d) (λ x m. let w = kept_only xs x m in h x w.0 w.1))
