-- Sums, multiples and halves in a commutative group.
use Rattle.std.proofs.Common.{◌≡◌, ℕ, zero, suc, ◌+◌, ◌*◌, ◌^◌, List, [], ◌∷◌, ◌++◌, map, sum_by, sym, refl, ap, ◌∙◌, subst, ap₂, inl, inr, suc-mul, add_comm, suc-add, pow-suc, zero-add, zero-mul, arith}
use Rattle.std.proofs.lemmas.Bool.Decides.{nat_tests}
use Rattle.std.proofs.lemmas.List.Sums.{sum_by-cons}
use Rattle.kinds.specs.Group.{Group, Laws, doubled}
use Rattle.kinds.specs.Halving.{Halving}
use Rattle.basis.specs.Lists.{IsIn, AllDistinct}
use Rattle.basis.specs.Sums.{sum_over, taken, halved, signed}

module _ (G : Group) (L : Laws G) where
  open G use {Member, plus as ◌⊕◌, minus as ⊖, zero as 𝟎}
  open L use {plus_assoc as assoc, plus_comm as comm, plus_zero as right-neutral, plus_minus as inverse}

  infixl 60 ◌⊕◌
  pub neutral : (x : Member) → 𝟎 ⊕ x ≡ x
  neutral x = cc (comm 𝟎 x, right-neutral x)

  pub left_comm : (x y z : Member) → x ⊕ (y ⊕ z) ≡ y ⊕ (x ⊕ z)
  left_comm x y z = cc (assoc x y z, comm x y, assoc y x z)

  pub middle : (a b c d : Member) → (a ⊕ b) ⊕ (c ⊕ d) ≡ (a ⊕ c) ⊕ (b ⊕ d)
  middle a b c d = cc (assoc a b (c ⊕ d), left_comm b c d, assoc a c (b ⊕ d))

  undo : (x y : Member) → ⊖ x ⊕ (x ⊕ y) ≡ y
  undo x y = cc (assoc (⊖ x) x y, comm (⊖ x) x, inverse x, neutral y)

  pub cancel : (x y z : Member) → x ⊕ y ≡ x ⊕ z → y ≡ z
  cancel x y z e = cc (undo x y, undo x z)

  -- what adds to zero is the negative
  minus_is : (x y : Member) → x ⊕ y ≡ 𝟎 → y ≡ ⊖ x
  minus_is x y e = cancel x y (⊖ x) (cc (inverse x))

  pub minus_minus : (x : Member) → ⊖ (⊖ x) ≡ x
  minus_minus x = sym (minus_is (⊖ x) x (cc (comm (⊖ x) x, inverse x)))

  -- a map that keeps sums
  abbrev pub Hom : (Member → Member) → Type 0
  Hom φ = (x y : Member) → φ (x ⊕ y) ≡ φ x ⊕ φ y

  pub hom_zero : (φ : Member → Member) → Hom φ → φ 𝟎 ≡ 𝟎
  hom_zero φ h = cancel (φ 𝟎) (φ 𝟎) 𝟎 (cc (h 𝟎 𝟎, neutral 𝟎, right-neutral (φ 𝟎)))

  pub hom_minus : (φ : Member → Member) → Hom φ → (x : Member) → φ (⊖ x) ≡ ⊖ (φ x)
  hom_minus φ h x = minus_is (φ x) (φ (⊖ x)) (cc (h x (⊖ x), inverse x, hom_zero φ h))

  pub minus_hom : Hom ⊖
  minus_hom x y = sym (minus_is (x ⊕ y) (⊖ x ⊕ ⊖ y) (cc (middle x y (⊖ x) (⊖ y), inverse x, inverse y, neutral 𝟎)))

  pub minus_zero : ⊖ 𝟎 ≡ 𝟎
  minus_zero = hom_zero ⊖ minus_hom

  pub taken_hom : (n : ℕ) → Hom (taken G n)
  unfolding taken
  taken_hom zero x y = sym (neutral 𝟎)
  taken_hom (suc n) x y = cc (taken_hom n x y, middle x y (taken G n x) (taken G n y))

  pub doubled_hom : (n : ℕ) → Hom (doubled G n)
  unfolding doubled
  doubled_hom zero x y = refl
  doubled_hom (suc n) x y = cc (doubled_hom n x y, middle (doubled G n x) (doubled G n y) (doubled G n x) (doubled G n y))

  pub taken_none : (x : Member) → taken G 0 x ≡ 𝟎
  unfolding taken
  taken_none x = refl

  pub taken_one : (x : Member) → taken G 1 x ≡ x
  unfolding taken
  taken_one x = right-neutral x

  pub taken_add : (n m : ℕ) (x : Member) → taken G (n + m) x ≡ taken G n x ⊕ taken G m x
  unfolding taken
  taken_add zero m x = cc (zero-add m, neutral (taken G m x))
  taken_add (suc n) m x = cc (suc-add n m, taken_add n m x, assoc x (taken G n x) (taken G m x))

  pub taken_mul : (n m : ℕ) (x : Member) → taken G (n * m) x ≡ taken G n (taken G m x)
  unfolding taken
  taken_mul zero m x = ap (λ k. taken G k x) (zero-mul m)
  taken_mul (suc n) m x = cc (suc-mul n m, add_comm (n * m) m, taken_add m (n * m) x, taken_mul n m x)

  pub doubled_taken : (n : ℕ) (x : Member) → doubled G n x ≡ taken G (2 ^ n) x
  unfolding doubled
  doubled_taken zero x = sym (taken_one x)
  doubled_taken (suc n) x = ap₂ ◌⊕◌ (doubled_taken n x) (doubled_taken n x) ∙ sym (taken_add (2 ^ n) (2 ^ n) x) ∙ ap (λ k. taken G k x) (omega (arith, pow-suc 2 n))

  pub doubled_add : (n m : ℕ) (x : Member) → doubled G (n + m) x ≡ doubled G n (doubled G m x)
  unfolding doubled
  doubled_add zero m x = ap (λ k. doubled G k x) (zero-add m)
  doubled_add (suc n) m x = cc (suc-add n m, doubled_add n m x)

  pub doubled_two : (n : ℕ) (x : Member) → doubled G (suc n) x ≡ doubled G n x ⊕ doubled G n x
  unfolding doubled
  doubled_two n x = refl

  pub hom_doubled : (φ : Member → Member) → Hom φ → (n : ℕ) (x : Member) → φ (doubled G n x) ≡ doubled G n (φ x)
  unfolding doubled
  hom_doubled φ h zero x = refl
  hom_doubled φ h (suc n) x = cc (h (doubled G n x) (doubled G n x), hom_doubled φ h n x)

  pub doubled_comm : (m n : ℕ) (x : Member) → doubled G m (doubled G n x) ≡ doubled G n (doubled G m x)
  doubled_comm m n x = hom_doubled (doubled G m) (doubled_hom m) n x

  pub taken_doubled : (n r : ℕ) (x : Member) → taken G n (doubled G r x) ≡ doubled G r (taken G n x)
  taken_doubled n r x = hom_doubled (taken G n) (taken_hom n) r x

  pub signed_zero : (x : Member) → signed G 0 x ≡ x
  unfolding signed
  signed_zero x = refl

  pub signed_suc : (n : ℕ) (x : Member) → signed G (suc n) x ≡ ⊖ (signed G n x)
  unfolding signed
  signed_suc n x = grind (arith, nat_tests, minus_minus x)

  pub signed_hom : (n : ℕ) → Hom (signed G n)
  signed_hom zero x y = cc (signed_zero (x ⊕ y), signed_zero x, signed_zero y)
  signed_hom (suc n) x y = cc (signed_suc n (x ⊕ y), signed_hom n x y, minus_hom (signed G n x) (signed G n y), signed_suc n x, signed_suc n y)

  -- sums over lists
  pub sum_ext : {X : Type 0} (xs : List X) (f g : X → Member) → ((x : X) → IsIn x xs → f x ≡ g x) → sum_over G xs f ≡ sum_over G xs g
  unfolding sum_over
  sum_ext [] f g h = refl
  sum_ext (x ∷ xs) f g h = ap₂ ◌⊕◌ (h x (inl refl)) (sum_ext xs f g (λ y m. h y (inr m)))

  pub sum_append : {X : Type 0} (xs ys : List X) (f : X → Member) → sum_over G (xs ++ ys) f ≡ sum_over G xs f ⊕ sum_over G ys f
  unfolding sum_over
  sum_append [] ys f = sym (neutral (sum_over G ys f))
  sum_append (x ∷ xs) ys f = cc (sum_append xs ys f, assoc (f x) (sum_over G xs f) (sum_over G ys f))

  pub sum_map : {X Y : Type 0} (g : X → Y) (xs : List X) (f : Y → Member) → sum_over G (map g xs) f ≡ sum_over G xs (λ x. f (g x))
  unfolding sum_over
  sum_map g [] f = refl
  sum_map g (x ∷ xs) f = ap (λ t. f (g x) ⊕ t) (sum_map g xs f)

  pub sum_plus : {X : Type 0} (xs : List X) (f g : X → Member) → sum_over G xs (λ x. f x ⊕ g x) ≡ sum_over G xs f ⊕ sum_over G xs g
  unfolding sum_over
  sum_plus [] f g = sym (neutral 𝟎)
  sum_plus (x ∷ xs) f g = cc (sum_plus xs f g, middle (f x) (g x) (sum_over G xs f) (sum_over G xs g))

  pub sum_zero : {X : Type 0} (xs : List X) → sum_over G xs (λ x. 𝟎) ≡ 𝟎
  unfolding sum_over
  sum_zero [] = refl
  sum_zero (x ∷ xs) = neutral (sum_over G xs (λ y. 𝟎)) ∙ sum_zero xs

  pub sum_hom : (φ : Member → Member) → Hom φ → {X : Type 0} (xs : List X) (f : X → Member) → φ (sum_over G xs f) ≡ sum_over G xs (λ x. φ (f x))
  unfolding sum_over
  sum_hom φ h [] f = hom_zero φ h
  sum_hom φ h (x ∷ xs) f = cc (h (f x) (sum_over G xs f), sum_hom φ h xs f)

  pub sum_swap : {X Y : Type 0} (xs : List X) (ys : List Y) (f : X → Y → Member) → sum_over G xs (λ x. sum_over G ys (f x)) ≡ sum_over G ys (λ y. sum_over G xs (λ x. f x y))
  unfolding sum_over
  sum_swap [] ys f = sym (sum_zero ys)
  sum_swap (x ∷ xs) ys f = cc (sum_swap xs ys f, sum_plus ys (f x) (λ y. sum_over G xs (λ z. f z y)))

  pub sum_taken : {X : Type 0} (xs : List X) (n : X → ℕ) (z : Member) → sum_over G xs (λ x. taken G (n x) z) ≡ taken G (sum_by n xs) z
  unfolding sum_over
  sum_taken [] n z = sym (taken_none z)
  sum_taken (x ∷ xs) n z = cc (sum_taken xs n z, sum_by-cons n x xs, taken_add (n x) (sum_by n xs) z)

  -- all terms but one are zero
  pub sum_pick : {X : Type 0} (xs : List X) (f : X → Member) (x : X) → AllDistinct xs → IsIn x xs → ((y : X) → IsIn y xs → (y ≡ x → ⊥) → f y ≡ 𝟎) → sum_over G xs f ≡ f x
  unfolding sum_over
  sum_pick [] f x d m h = absurd m
  sum_pick (y ∷ ys) f x d (inl e) h =
      ap₂ ◌⊕◌ (ap f (sym e)) (sum_ext ys f (λ z. 𝟎) (λ z hz. h z (inr hz) (λ q. d.0 (subst (λ w. IsIn w ys) (q ∙ e) hz))) ∙ sum_zero ys) ∙ right-neutral (f x)
  sum_pick (y ∷ ys) f x d (inr m) h =
      ap₂ ◌⊕◌ (h y (inl refl) (λ q. d.0 (subst (λ w. IsIn w ys) (sym q) m))) (sum_pick ys f x d.1 m (λ z hz. h z (inr hz))) ∙ neutral (f x)

  -- halves
  module _ (H : Halving G) where
    pub halved_doubled : (n : ℕ) (x : Member) → halved G H n (doubled G n x) ≡ x
    unfolding halved doubled
    halved_doubled zero x = refl
    halved_doubled (suc n) x = cc (H.halve_twice (doubled G n x), halved_doubled n x)

    pub doubled_inj : (n : ℕ) (x y : Member) → doubled G n x ≡ doubled G n y → x ≡ y
    doubled_inj n x y e = cc (halved_doubled n x, halved_doubled n y)

    -- what is some member doubled n times is its half doubled
    pub halved_exact : (n : ℕ) (x y : Member) → doubled G n y ≡ x → doubled G n (halved G H n x) ≡ x
    halved_exact n x y e = cc (halved_doubled n y)

  -- any halving gives the same where it is exact
  pub halved_same : (H H' : Halving G) (n : ℕ) (x y : Member) → doubled G n y ≡ x → halved G H n x ≡ halved G H' n x
  halved_same H H' n x y e = cc (halved_doubled H n y, halved_doubled H' n y)
