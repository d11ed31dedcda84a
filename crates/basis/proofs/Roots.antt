-- The surplus of samples that are some member doubled often enough.
use Rattle.std.proofs.Common.{◌≡◌, ℕ, suc, ◌+◌, ◌-◌, ◌≤◌, List, [], ◌∷◌, length, Some, None, Option, sym, refl, ap, ◌∙◌, ap₂, inl, inr, arith}
use Rattle.kinds.specs.Group.{Group, Laws, doubled}
use Rattle.kinds.specs.Halving.{Halving}
use Rattle.basis.specs.Sums.{halved, signed}
use Rattle.basis.specs.Axis.{Axis}
use Rattle.basis.specs.Grid.{Inside, total}
use Rattle.basis.specs.Surplus.{surplus}
use Rattle.basis.specs.Recursion.{there, surplus_after}
use Rattle.basis.proofs.Algebra.{Hom, hom_zero, hom_doubled, minus_hom, signed_zero, signed_suc, signed_hom, doubled_two, doubled_hom, doubled_add, halved_doubled}
use Rattle.basis.proofs.AxisLaws.{Neighbour}
use Rattle.basis.proofs.Ways.{by_directions}
use Rattle.basis.proofs.Stencil.{Near, there_ext, there_hom, mix_hom, stencil, stencil_hom, stencil_near}

-- 1 if there is a neighbour
abbrev pub step : Option ℕ → Option ℕ → ℕ
step None None = 0
step None (Some j) = 1
step (Some i) o = 1

-- the directions in which there is a neighbour
abbrev pub steps : List Axis → List ℕ → ℕ
steps = total (λ a k. step (a.left k) (a.right k))

step_left : (l r : Option ℕ) (j : ℕ) → l ≡ Some j → step l r ≡ 1
step_left l r j e = ap (λ o. step o r) e

step_right : (l r : Option ℕ) (j : ℕ) → r ≡ Some j → step l r ≡ 1
step_right None r j e = ap (step None) e
step_right (Some i) r j e = refl

module _ (G : Group) (L : Laws G) (H : Halving G) where
  open G use {Member, plus as ◌⊕◌, minus as ⊖, zero as 𝟎}
  open L use {plus_zero as right-neutral}

  infixl 60 ◌⊕◌
  -- a root at a neighbour, or none on the border
  there_root : (r : ℕ) (o : Option ℕ) (f : ℕ → Member) → ((j : ℕ) → o ≡ Some j → (x : Member) × (doubled G r x ≡ f j)) → (x : Member) × (doubled G r x ≡ there G o f)
  there_root r None f h = (𝟎, hom_zero G L (doubled G r) (doubled_hom G L r))
  there_root r (Some j) f h = h j refl

  -- the ways of doubled samples are the stencil of the roots
  after_stencil : (ax : List Axis) (j r e : ℕ) (u m : List ℕ → Member) (p : List ℕ) → e ≡ r + (j + length ax) → Inside ax p → Near ax (λ q. u q ≡ doubled G e (m q)) p
      → surplus_after G H ax j u p ≡ signed G j (doubled G r (stencil G L ax m p))
  unfolding surplus_after stencil
  after_stencil [] j r e u m [] q i n =
      ap (signed G j) (ap (halved G H j) (n ∙ ap (λ k. doubled G k (m [])) (omega arith) ∙ doubled_add G L j r (m [])) ∙ halved_doubled G L H j (doubled G r (m [])))
  after_stencil [] j r e u m (k ∷ ks) q i n = absurd i
  after_stencil (a ∷ ax) j r e u m [] q i n = absurd i
  after_stencil (a ∷ ax) j r e u m (k ∷ ks) q i n =
      let φ : Member → Member = λ x. signed G j (doubled G r x) in
      let φ_hom : Hom G L φ = λ x y. ap (signed G j) (doubled_hom G L r x y) ∙ signed_hom G L j (doubled G r x) (doubled G r y) in
      let here : ℕ → Member = λ b. stencil G L ax (λ y. m (b ∷ y)) ks in
      let side : (o : Option ℕ) → ((b : ℕ) → o ≡ Some b → Near ax (λ y. u (b ∷ y) ≡ doubled G e (m (b ∷ y))) ks) → there G o (λ b. surplus_after G H ax (suc j) (λ y. u (b ∷ y)) ks) ≡ ⊖ (φ (there G o here)) =
      λ o nb.
      there_ext G L o _ (λ b. ⊖ (φ (here b)))
      (λ b s. after_stencil ax (suc j) r e (λ y. u (b ∷ y)) (λ y. m (b ∷ y)) ks (omega arith) i.1 (nb b s) ∙ signed_suc G L j (doubled G r (here b)))
      ∙ there_hom G L ⊖ (minus_hom G L) o (λ b. φ (here b)) ∙ ap ⊖ (there_hom G L φ φ_hom o here) in
      ap₂ ◌⊕◌
      (after_stencil ax j (suc r) e (λ y. u (k ∷ y)) (λ y. m (k ∷ y)) ks (omega arith) i.1 n.0
      ∙ ap (signed G j) (doubled_two G L r (here k)) ∙ signed_hom G L j (doubled G r (here k)) (doubled G r (here k)))
      (ap₂ ◌⊕◌ (side (a.left k) (λ b s. n.1 b (inl s))) (side (a.right k) (λ b s. n.1 b (inr s))) ∙ sym (minus_hom G L _ _))
      ∙ mix_hom G L φ φ_hom _ _ _

  -- so the surplus, doubled for each direction, is the stencil of the samples
  pub surplus_stencil : (ax : List Axis) (e : ℕ) (u m : List ℕ → Member) (p : List ℕ) → length ax ≤ e → Inside ax p → Near ax (λ q. u q ≡ doubled G e (m q)) p
      → doubled G (length ax) (surplus G H ax u p) ≡ stencil G L ax u p
  surplus_stencil ax e u m p l i n =
      let r = e - length ax in
      let z = stencil G L ax m p in
      let all : length ax + r ≡ e = omega arith in
      cc (
        by_directions G L H ax u p,
        after_stencil ax 0 r e u m p (omega arith) i n,
        signed_zero G L (doubled G r z),
        doubled_add G L (length ax) r z,
        stencil_hom G L (doubled G e) (doubled_hom G L e) ax m p,
        stencil_near G L ax u (λ q. doubled G e (m q)) p n,
      )

  -- The surplus is some member doubled once less for each direction in which there is a neighbour.
  after_root : (ax : List Axis) (j r e : ℕ) (u m : List ℕ → Member) (p : List ℕ) → e ≡ r + (j + steps ax p) → Near ax (λ q. u q ≡ doubled G e (m q)) p
      → (x : Member) × (doubled G r x ≡ surplus_after G H ax j u p)
  unfolding surplus_after total
  after_root [] j r e u m [] q n = (
    signed G j (m []),
    sym (hom_doubled G L (signed G j) (signed_hom G L j) r (m []))
        ∙ ap (signed G j) (sym (ap (halved G H j) (n ∙ ap (λ k. doubled G k (m [])) (omega arith) ∙ doubled_add G L j r (m [])) ∙ halved_doubled G L H j (doubled G r (m [])))),
  )
  after_root [] j r e u m (k ∷ ks) q n = (𝟎, hom_zero G L (doubled G r) (doubled_hom G L r))
  after_root (a ∷ ax) j r e u m [] q n = (𝟎, hom_zero G L (doubled G r) (doubled_hom G L r))
  after_root (a ∷ ax) j r e u m (k ∷ ks) q n =
      let f = step (a.left k) (a.right k) in
      let here = after_root ax j (r + f) e (λ y. u (k ∷ y)) (λ y. m (k ∷ y)) ks (omega arith) n.0 in
      let side : (o : Option ℕ) → ((b : ℕ) → o ≡ Some b → Neighbour a k b × (f ≡ 1)) → (x : Member) × (doubled G r x ≡ there G o (λ b. surplus_after G H ax (suc j) (λ y. u (b ∷ y)) ks)) =
      λ o nb. there_root r o _ (λ b s. let w = nb b s in after_root ax (suc j) r e (λ y. u (b ∷ y)) (λ y. m (b ∷ y)) ks (omega (arith, w.1)) (n.1 b w.0)) in
      let l = side (a.left k) (λ b s. (inl s, step_left (a.left k) (a.right k) b s)) in
      let t = side (a.right k) (λ b s. (inr s, step_right (a.left k) (a.right k) b s)) in (
        doubled G f here.0 ⊕ (l.0 ⊕ t.0),
        doubled_hom G L r _ _ ∙ ap₂ ◌⊕◌ (sym (doubled_add G L r f here.0) ∙ here.1) (doubled_hom G L r _ _ ∙ ap₂ ◌⊕◌ l.1 t.1),
      )

  pub surplus_root : (ax : List Axis) (r e : ℕ) (u m : List ℕ → Member) (p : List ℕ) → r + steps ax p ≤ e → Near ax (λ q. u q ≡ doubled G e (m q)) p
      → (x : Member) × (doubled G r x ≡ surplus G H ax u p)
  surplus_root ax r e u m p l n = go (e - steps ax p - r) (after_root ax 0 (r + (e - steps ax p - r)) e u m p (omega arith) n)
    where
      go : (s : ℕ) → (x : Member) × (doubled G (r + s) x ≡ surplus_after G H ax 0 u p) → (x : Member) × (doubled G r x ≡ surplus G H ax u p)
      go s w = (doubled G s w.0, sym (doubled_add G L r s w.0) ∙ w.1 ∙ sym (by_directions G L H ax u p))
