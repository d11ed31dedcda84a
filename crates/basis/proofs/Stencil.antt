-- The stencil of a point: in each direction twice the middle, less both neighbours.
use Rattle.std.proofs.Common.{◌≡◌, ℕ, List, [], ◌∷◌, length, Some, None, Option, sym, refl, ap, ◌∙◌, ap₂, inl, inr}
use Rattle.kinds.specs.Group.{Group, Laws, doubled}
use Rattle.basis.specs.Axis.{Axis}
use Rattle.basis.specs.Grid.{Inside}
use Rattle.basis.specs.Sums.{sum_over}
use Rattle.basis.specs.Recursion.{there}
use Rattle.basis.proofs.AxisLaws.{Neighbour}
use Rattle.basis.proofs.Algebra.{neutral, middle, minus_hom, minus_zero, Hom, hom_zero, hom_minus}

-- P at each place of the stencil of p
abbrev pub Near : List Axis → (List ℕ → Type 0) → List ℕ → Type 0
Near [] P [] = P []
Near [] P (k ∷ ks) = Unit {0}
Near (a ∷ ax) P [] = Unit {0}
Near (a ∷ ax) P (k ∷ ks) = Near ax (λ q. P (k ∷ q)) ks × ((j : ℕ) → Neighbour a k j → Near ax (λ q. P (j ∷ q)) ks)

-- the same without p itself
abbrev pub Around : List Axis → (List ℕ → Type 0) → List ℕ → Type 0
Around [] P p = Unit {0}
Around (a ∷ ax) P [] = Unit {0}
Around (a ∷ ax) P (k ∷ ks) = Around ax (λ q. P (k ∷ q)) ks × ((j : ℕ) → Neighbour a k j → Near ax (λ q. P (j ∷ q)) ks)

pub near_map : (ax : List Axis) (P Q : List ℕ → Type 0) (p : List ℕ) → ((q : List ℕ) → P q → Q q) → Near ax P p → Near ax Q p
near_map [] P Q [] f n = f [] n
near_map [] P Q (k ∷ ks) f n = tt
near_map (a ∷ ax) P Q [] f n = tt
near_map (a ∷ ax) P Q (k ∷ ks) f n = (
  near_map ax (λ q. P (k ∷ q)) (λ q. Q (k ∷ q)) ks (λ q. f (k ∷ q)) n.0,
  λ j t. near_map ax (λ q. P (j ∷ q)) (λ q. Q (j ∷ q)) ks (λ q. f (j ∷ q)) (n.1 j t),
)

near_both : (ax : List Axis) (P Q : List ℕ → Type 0) (p : List ℕ) → Near ax P p → Near ax Q p → Near ax (λ q. P q × Q q) p
near_both [] P Q [] m n = (m, n)
near_both [] P Q (k ∷ ks) m n = tt
near_both (a ∷ ax) P Q [] m n = tt
near_both (a ∷ ax) P Q (k ∷ ks) m n = (
  near_both ax (λ q. P (k ∷ q)) (λ q. Q (k ∷ q)) ks m.0 n.0,
  λ j t. near_both ax (λ q. P (j ∷ q)) (λ q. Q (j ∷ q)) ks (m.1 j t) (n.1 j t),
)

pub around_map : (ax : List Axis) (P Q : List ℕ → Type 0) (p : List ℕ) → ((q : List ℕ) → P q → Q q) → Around ax P p → Around ax Q p
around_map [] P Q p f n = tt
around_map (a ∷ ax) P Q [] f n = tt
around_map (a ∷ ax) P Q (k ∷ ks) f n = (
  around_map ax (λ q. P (k ∷ q)) (λ q. Q (k ∷ q)) ks (λ q. f (k ∷ q)) n.0,
  λ j t. near_map ax (λ q. P (j ∷ q)) (λ q. Q (j ∷ q)) ks (λ q. f (j ∷ q)) (n.1 j t),
)

pub around_both : (ax : List Axis) (P Q : List ℕ → Type 0) (p : List ℕ) → Around ax P p → Near ax Q p → Around ax (λ q. P q × Q q) p
around_both [] P Q p m n = tt
around_both (a ∷ ax) P Q [] m n = tt
around_both (a ∷ ax) P Q (k ∷ ks) m n = (
  around_both ax (λ q. P (k ∷ q)) (λ q. Q (k ∷ q)) ks m.0 n.0,
  λ j t. near_both ax (λ q. P (j ∷ q)) (λ q. Q (j ∷ q)) ks (m.1 j t) (n.1 j t),
)

module _ (G : Group) (L : Laws G) where
  open G use {Member, plus as ◌⊕◌, minus as ⊖, zero as 𝟎}
  open L use {plus_zero as right-neutral}

  infixl 60 ◌⊕◌
  -- twice the middle, less both sides
  abbrev pub mix : Member → Member → Member → Member
  mix x l r = (x ⊕ x) ⊕ ⊖ (l ⊕ r)

  pub mix_3 : {x y l m r s : Member} → x ≡ y → l ≡ m → r ≡ s → mix x l r ≡ mix y m s
  mix_3 p q r = ap₂ (λ t v. (t ⊕ t) ⊕ ⊖ v) p (ap₂ ◌⊕◌ q r)

  mix_plus : (x l r y m s : Member) → mix (x ⊕ y) (l ⊕ m) (r ⊕ s) ≡ mix x l r ⊕ mix y m s
  mix_plus x l r y m s = cc (middle G L x y x y, middle G L l m r s, minus_hom G L (l ⊕ r) (m ⊕ s), middle G L (x ⊕ x) (y ⊕ y) (⊖ (l ⊕ r)) (⊖ (m ⊕ s)))

  pub mix_hom : (φ : Member → Member) → Hom G L φ → (x l r : Member) → mix (φ x) (φ l) (φ r) ≡ φ (mix x l r)
  mix_hom φ h x l r = cc (h (x ⊕ x) (⊖ (l ⊕ r)), h x x, hom_minus G L φ h (l ⊕ r), h l r)

  mix_none : (x : Member) → mix x 𝟎 𝟎 ≡ x ⊕ x
  mix_none x = cc (neutral G L 𝟎, minus_zero G L, right-neutral (x ⊕ x))

  -- what stands at a neighbour, if there is one
  pub there_ext : (o : Option ℕ) (f g : ℕ → Member) → ((j : ℕ) → o ≡ Some j → f j ≡ g j) → there G o f ≡ there G o g
  there_ext None f g e = refl
  there_ext (Some j) f g e = e j refl

  pub there_hom : (φ : Member → Member) → Hom G L φ → (o : Option ℕ) (f : ℕ → Member) → there G o (λ j. φ (f j)) ≡ φ (there G o f)
  there_hom φ h None f = sym (hom_zero G L φ h)
  there_hom φ h (Some j) f = refl

  there_plus : (o : Option ℕ) (f g : ℕ → Member) → there G o (λ j. f j ⊕ g j) ≡ there G o f ⊕ there G o g
  there_plus None f g = sym (neutral G L 𝟎)
  there_plus (Some j) f g = refl

  there_zero : (o : Option ℕ) (f : ℕ → Member) → ((j : ℕ) → o ≡ Some j → f j ≡ 𝟎) → there G o f ≡ 𝟎
  there_zero None f e = refl
  there_zero (Some j) f e = e j refl

  unfoldable pub stencil : List Axis → (List ℕ → Member) → List ℕ → Member
  stencil [] f [] = f []
  stencil [] f (k ∷ ks) = 𝟎
  stencil (a ∷ ax) f [] = 𝟎
  stencil (a ∷ ax) f (k ∷ ks) =
      mix (stencil ax (λ q. f (k ∷ q)) ks)
      (there G (a.left k) (λ j. stencil ax (λ q. f (j ∷ q)) ks))
      (there G (a.right k) (λ j. stencil ax (λ q. f (j ∷ q)) ks))

  pub stencil_hom : (φ : Member → Member) → Hom G L φ → (ax : List Axis) (f : List ℕ → Member) (p : List ℕ) → stencil ax (λ q. φ (f q)) p ≡ φ (stencil ax f p)
  unfolding stencil
  stencil_hom φ h [] f [] = refl
  stencil_hom φ h [] f (k ∷ ks) = sym (hom_zero G L φ h)
  stencil_hom φ h (a ∷ ax) f [] = sym (hom_zero G L φ h)
  stencil_hom φ h (a ∷ ax) f (k ∷ ks) =
      let side : (o : Option ℕ) → there G o (λ j. stencil ax (λ q. φ (f (j ∷ q))) ks) ≡ φ (there G o (λ j. stencil ax (λ q. f (j ∷ q)) ks)) =
      λ o. there_ext o _ _ (λ j e. stencil_hom φ h ax (λ q. f (j ∷ q)) ks) ∙ there_hom φ h o (λ j. stencil ax (λ q. f (j ∷ q)) ks) in
      mix_3 (stencil_hom φ h ax (λ q. f (k ∷ q)) ks) (side (a.left k)) (side (a.right k)) ∙ mix_hom φ h _ _ _

  pub stencil_plus : (ax : List Axis) (f g : List ℕ → Member) (p : List ℕ) → stencil ax (λ q. f q ⊕ g q) p ≡ stencil ax f p ⊕ stencil ax g p
  unfolding stencil
  stencil_plus [] f g [] = refl
  stencil_plus [] f g (k ∷ ks) = sym (neutral G L 𝟎)
  stencil_plus (a ∷ ax) f g [] = sym (neutral G L 𝟎)
  stencil_plus (a ∷ ax) f g (k ∷ ks) =
      let side : (o : Option ℕ) → there G o (λ j. stencil ax (λ q. f (j ∷ q) ⊕ g (j ∷ q)) ks) ≡ there G o (λ j. stencil ax (λ q. f (j ∷ q)) ks) ⊕ there G o (λ j. stencil ax (λ q. g (j ∷ q)) ks) =
      λ o. there_ext o _ _ (λ j e. stencil_plus ax (λ q. f (j ∷ q)) (λ q. g (j ∷ q)) ks) ∙ there_plus o _ _ in
      mix_3 (stencil_plus ax (λ q. f (k ∷ q)) (λ q. g (k ∷ q)) ks) (side (a.left k)) (side (a.right k)) ∙ mix_plus _ _ _ _ _ _

  -- the stencil reads no other places
  pub stencil_near : (ax : List Axis) (f g : List ℕ → Member) (p : List ℕ) → Near ax (λ q. f q ≡ g q) p → stencil ax f p ≡ stencil ax g p
  unfolding stencil
  stencil_near [] f g [] n = n
  stencil_near [] f g (k ∷ ks) n = refl
  stencil_near (a ∷ ax) f g [] n = refl
  stencil_near (a ∷ ax) f g (k ∷ ks) n =
      mix_3 (stencil_near ax (λ q. f (k ∷ q)) (λ q. g (k ∷ q)) ks n.0)
      (there_ext (a.left k) _ _ (λ j e. stencil_near ax (λ q. f (j ∷ q)) (λ q. g (j ∷ q)) ks (n.1 j (inl e))))
      (there_ext (a.right k) _ _ (λ j e. stencil_near ax (λ q. f (j ∷ q)) (λ q. g (j ∷ q)) ks (n.1 j (inr e))))

  stencil_zero : (ax : List Axis) (p : List ℕ) → stencil ax (λ q. 𝟎) p ≡ 𝟎
  stencil_zero ax p = stencil_hom (λ x. 𝟎) (λ x y. sym (neutral G L 𝟎)) ax (λ q. 𝟎) p

  pub stencil_sum : {X : Type 0} (xs : List X) (ax : List Axis) (f : X → List ℕ → Member) (p : List ℕ) → stencil ax (λ q. sum_over G xs (λ x. f x q)) p ≡ sum_over G xs (λ x. stencil ax (f x) p)
  unfolding sum_over
  stencil_sum [] ax f p = stencil_zero ax p
  stencil_sum (x ∷ xs) ax f p = stencil_plus ax (f x) (λ q. sum_over G xs (λ y. f y q)) p ∙ ap (λ t. stencil ax (f x) p ⊕ t) (stencil_sum xs ax f p)

  -- all places but the middle one hold zero
  pub stencil_lead : (ax : List Axis) (f : List ℕ → Member) (p : List ℕ) → Inside ax p → Around ax (λ q. f q ≡ 𝟎) p → stencil ax f p ≡ doubled G (length ax) (f p)
  unfolding stencil doubled
  stencil_lead [] f [] i n = refl
  stencil_lead [] f (k ∷ ks) i n = absurd i
  stencil_lead (a ∷ ax) f [] i n = absurd i
  stencil_lead (a ∷ ax) f (k ∷ ks) i n =
      let gone : (j : ℕ) → Neighbour a k j → stencil ax (λ q. f (j ∷ q)) ks ≡ 𝟎 = λ j t. stencil_near ax (λ q. f (j ∷ q)) (λ q. 𝟎) ks (n.1 j t) ∙ stencil_zero ax ks in
      mix_3 (stencil_lead ax (λ q. f (k ∷ q)) ks i.1 n.0)
      (there_zero (a.left k) _ (λ j e. gone j (inl e)))
      (there_zero (a.right k) _ (λ j e. gone j (inr e)))
      ∙ mix_none _
