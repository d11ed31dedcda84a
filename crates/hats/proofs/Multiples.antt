-- Halves and multiples, as the code finds them.
use Rattle.std.proofs.Common.{◌≡◌, ℕ, suc, ◌+◌, ◌-◌, ◌*◌, ◌/◌, ◌%◌, ◌^◌, ◌<◌, ◌≤◌, true, is_some, Some, None, Option, sym, refl, ap, ◌∙◌, subst, lt_of_lt_of_le, mul-le-mul_right, suc-mul, add-mul, arith}
use Rattle.kinds.specs.Group.{Group, Laws, twice, doubled}
use Rattle.kinds.specs.Halving.{Halving}
use Rattle.kinds.specs.Operations.{Sum}
use Rattle.basis.specs.Sums.{taken, halved}
use Rattle.basis.proofs.Algebra.{taken_one, taken_add, taken_doubled, doubled_add, doubled_two, doubled_inj, halved_doubled}
use Rattle.hats.specs.Multiples.{HalfOf, Taken, Term, Proper}
use Rattle.hats.proofs.Sizes.{size_taken, size_share}

module _ (G : Group) (L : Laws G) where
  open G use {Member, plus as ◌⊕◌, size}

  infixl 60 ◌⊕◌
  pub half_of : (n : ℕ) (x z : Member) → doubled G n z ≡ x → HalfOf G n x z
  half_of n x z e = record { root = e; half = λ H. sym (halved_doubled G L H n z) ∙ ap (halved G H n) e }

  pub doubled_none : (x : Member) → doubled G 0 x ≡ x
  unfolding doubled
  doubled_none x = refl

  -- doubled once before the others
  pub doubled_first : (n : ℕ) (z : Member) → doubled G (n + 1) z ≡ doubled G n (twice G z)
  unfolding doubled
  doubled_first n z = doubled_add G L n 1 z

  module _ (H : Halving G) where
    -- what cannot be halved once more cannot be halved more often
    pub no_half : (i n : ℕ) (x z : Member) → i < n → doubled G i z ≡ x → ((y : Member) → twice G y ≡ z → ⊥) → (y : Member) → doubled G n y ≡ x → ⊥
    no_half i n x z h e none y f =
        let m = n - suc i in
        let s : i + suc m ≡ n = omega arith in
        none (doubled G m y)
        (sym (doubled_two G L m y) ∙ doubled_inj G L H i _ z (sym (doubled_add G L i (suc m) y) ∙ ap (λ k. doubled G k y) s ∙ f ∙ sym e))

  -- n times x from half as many, doubled
  pub taken_even : (n : ℕ) (x y z : Member) → y ≡ taken G (n / 2) x → z ≡ y ⊕ y → n % 2 ≡ 0 → z ≡ taken G n x
  taken_even n x y z e f h = let s : n / 2 + n / 2 ≡ n = omega arith in cc (taken_add G L (n / 2) (n / 2) x)

  -- and one more
  taken_odd : (n : ℕ) (x y : Member) → y ≡ taken G (n / 2) x → (n % 2 ≡ 0 → ⊥) → (y ⊕ y) ⊕ x ≡ taken G n x
  taken_odd n x y e h = let s : n / 2 + n / 2 + 1 ≡ n = omega arith in cc (taken_add G L (n / 2) (n / 2) x, taken_one G L x, taken_add G L (n / 2 + n / 2) 1 x)

  -- fewer times is no larger
  larger : (k n : ℕ) (x : Member) → k ≤ n → 2 ^ 60 < k * size x → 2 ^ 60 < n * size x
  larger k n x h l = lt_of_lt_of_le l (mul-le-mul_right (size x) h)

  -- the size of the double of half as many
  double_size : (n : ℕ) (x y : Member) → y ≡ taken G (n / 2) x → size y + size y ≤ (n / 2 + n / 2) * size x
  double_size n x y e = omega (arith, size_taken G L (n / 2) x, ap size e, add-mul (n / 2) (n / 2) (size x))

  pub double_large : (n : ℕ) (x y : Member) → y ≡ taken G (n / 2) x → 2 ^ 60 < size y + size y → 2 ^ 60 < n * size x
  double_large n x y e l = larger (n / 2 + n / 2) n x (omega arith) (lt_of_lt_of_le l (double_size n x y e))

  -- the last sum at an odd number
  pub odd_sum : {X : Type 0} (m : X → Member) (n : ℕ) (x half even : X) (r : Option X) → m half ≡ taken G (n / 2) (m x) → m even ≡ m half ⊕ m half → (n % 2 ≡ 0 → ⊥)
      → Sum G m even x r → Taken G m n x r
  odd_sum m n x half even None e f h l =
      let both = L.size_plus (m half) (m half) in
      let whole : 2 ^ 60 < suc (n / 2 + n / 2) * size (m x) = omega (arith, l, ap size f, both, double_size n (m x) (m half) e, suc-mul (n / 2 + n / 2) (size (m x))) in
      larger (suc (n / 2 + n / 2)) n (m x) (omega arith) whole
  odd_sum m n x half even (Some z) e f h s = s.1 ∙ ap (λ t. t ⊕ m x) f ∙ taken_odd n (m x) (m half) e h

  -- a multiple of a half is the half of the multiple
  term_of : (H : Halving G) {X : Type 0} (m : X → Member) (n s : ℕ) (x part : X) (r : Option X) → HalfOf G s (m x) (m part) → Taken G m n part r → Term G m n s x r
  term_of H m n s x part None h l = λ y e. subst (λ z. 2 ^ 60 < n * size z) (doubled_inj G L H s (m part) y (h.root ∙ sym e)) l
  term_of H m n s x part (Some z) h e = λ K. cc (e, halved_doubled G L K s (taken G n (m part)), taken_doubled G L n s (m part), h.root)

  -- and a proper one has an answer
  term_answers : (H : Halving G) {X : Type 0} (m : X → Member) (n s : ℕ) (x : X) (r : Option X) → Term G m n s x r → Proper G n s (m x) → is_some r ≡ true
  term_answers H m n s x None t p = absurd (omega (arith, t p.root p.rooted, size_share G L H n s (m x) p.root p.share p.rooted, p.small))
  term_answers H m n s x (Some z) t p = refl

  pub term_is : (H : Halving G) {X : Type 0} (m : X → Member) (n s : ℕ) (x part : X) (r : Option X) → HalfOf G s (m x) (m part) → Taken G m n part r
      → Term G m n s x r × (Proper G n s (m x) → is_some r ≡ true)
  term_is H m n s x part r h t = let w = term_of H m n s x part r h t in (w, term_answers H m n s x r w)
