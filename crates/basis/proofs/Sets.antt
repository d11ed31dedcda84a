-- Lists without repeats: their lengths and sums depend on their elements alone.
use Rattle.std.proofs.Common.{◌≡◌, suc, ◌≤◌, List, [], ◌∷◌, length, sym, refl, ap, ◌∙◌, subst, inl, inr, arith}
use Rattle.kinds.specs.Group.{Group, Laws}
use Rattle.basis.specs.Lists.{IsIn, AllDistinct, SameSet}
use Rattle.basis.specs.Sums.{sum_over}
use Rattle.basis.proofs.Algebra.{left_comm}

module _ {X : Type 0} where
  -- the list without one of its elements
  without : (x : X) (ys : List X) → IsIn x ys → List X
  without x [] h = absurd h
  without x (y ∷ ys) (inl e) = ys
  without x (y ∷ ys) (inr h) = y ∷ without x ys h

  -- what else stands in it
  without_only : (x z : X) (ys : List X) (h : IsIn x ys) → IsIn z (without x ys h) → IsIn z ys
  unfolding without
  without_only x z [] h m = absurd h
  without_only x z (y ∷ ys) (inl e) m = inr m
  without_only x z (y ∷ ys) (inr h) (inl e) = inl e
  without_only x z (y ∷ ys) (inr h) (inr m) = inr (without_only x z ys h m)

  without_all : (x z : X) (ys : List X) (h : IsIn x ys) → IsIn z ys → (z ≡ x → ⊥) → IsIn z (without x ys h)
  unfolding without
  without_all x z [] h m n = absurd h
  without_all x z (y ∷ ys) (inl e) (inl q) n = absurd (n (q ∙ sym e))
  without_all x z (y ∷ ys) (inl e) (inr m) n = m
  without_all x z (y ∷ ys) (inr h) (inl q) n = inl q
  without_all x z (y ∷ ys) (inr h) (inr m) n = inr (without_all x z ys h m n)

  without_distinct : (x : X) (ys : List X) (h : IsIn x ys) → AllDistinct ys → AllDistinct (without x ys h)
  unfolding without
  without_distinct x [] h d = absurd h
  without_distinct x (y ∷ ys) (inl e) d = d.1
  without_distinct x (y ∷ ys) (inr h) d = ((λ m. d.0 (without_only x y ys h m)), without_distinct x ys h d.1)

  without_it : (x : X) (ys : List X) (h : IsIn x ys) → AllDistinct ys → IsIn x (without x ys h) → ⊥
  unfolding without
  without_it x [] h d m = absurd h
  without_it x (y ∷ ys) (inl e) d m = d.0 (subst (λ z. IsIn z ys) e m)
  without_it x (y ∷ ys) (inr h) d (inl e) = d.0 (subst (λ z. IsIn z ys) e h)
  without_it x (y ∷ ys) (inr h) d (inr m) = without_it x ys h d.1 m

  without_length : (x : X) (ys : List X) (h : IsIn x ys) → length ys ≡ suc (length (without x ys h))
  unfolding without
  without_length x [] h = absurd h
  without_length x (y ∷ ys) (inl e) = refl
  without_length x (y ∷ ys) (inr h) = ap suc (without_length x ys h)

  -- a list without repeats is no longer than one that has its elements
  pub shorter : (xs ys : List X) → AllDistinct xs → ((x : X) → IsIn x xs → IsIn x ys) → length xs ≤ length ys
  shorter [] ys d h = omega arith
  shorter (x ∷ xs) ys d h =
      let m = h x (inl refl) in
      let rest = shorter xs (without x ys m) d.1 (λ z k. without_all x z ys m (h z (inr k)) (λ e. d.0 (subst (λ w. IsIn w xs) e k))) in
      omega (arith, without_length x ys m, rest)

  pub same_length : (xs ys : List X) → AllDistinct xs → AllDistinct ys → SameSet xs ys → length xs ≡ length ys
  same_length xs ys dx dy s = omega (arith, shorter xs ys dx s.there, shorter ys xs dy s.back)

module _ (G : Group) (L : Laws G) {X : Type 0} (f : X → G.Member) where
  sum_without : (x : X) (ys : List X) (h : IsIn x ys) → sum_over G ys f ≡ G.plus (f x) (sum_over G (without x ys h) f)
  unfolding sum_over without
  sum_without x [] h = absurd h
  sum_without x (y ∷ ys) (inl e) = ap (λ z. G.plus (f z) (sum_over G ys f)) (sym e)
  sum_without x (y ∷ ys) (inr h) = cc (sum_without x ys h, left_comm G L (f y) (f x) (sum_over G (without x ys h) f))

  pub same_sum : (xs ys : List X) → AllDistinct xs → AllDistinct ys → SameSet xs ys → sum_over G xs f ≡ sum_over G ys f
  unfolding sum_over
  same_sum [] [] dx dy s = refl
  same_sum [] (y ∷ ys) dx dy s = absurd (s.back y (inl refl))
  same_sum (x ∷ xs) ys dx dy s =
      let h = s.there x (inl refl) in
      let rest : SameSet xs (without x ys h) = record {
        there = λ z m. without_all x z ys h (s.there z (inr m)) (λ e. dx.0 (subst (λ w. IsIn w xs) e m));
        back = λ z m. elim (s.back z (without_only x z ys h m)) [ inl e ↦ absurd (without_it x ys h dy (subst (λ w. IsIn w (without x ys h)) e m)) | inr k ↦ k ];
      } in
      ap (G.plus (f x)) (same_sum xs (without x ys h) dx.1 (without_distinct x ys h dy) rest) ∙ sym (sum_without x ys h)
