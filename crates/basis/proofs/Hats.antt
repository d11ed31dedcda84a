-- Products of hats in whole parts, and that the stencil of such a product is a spike.
use Rattle.std.proofs.Common.{◌≡◌, ℕ, suc, ◌+◌, ◌-◌, ◌*◌, ◌^◌, ◌≤◌, eqb, List, [], ◌∷◌, length, Some, None, Option, sym, refl, ap, ◌∙◌, ap₂, mul_assoc, mul-zero, zero-mul, mul_left_comm, arith, pow-add}
use mathlib.Core.Path.{fun_ext}
use Rattle.std.proofs.lemmas.Bool.{eqb-true, eq-eqb, cond_both}
use Rattle.kinds.specs.Group.{Group, Laws}
use Rattle.basis.specs.Axis.{Axis}
use Rattle.basis.specs.Grid.{Inside, total, exponents, numerators}
use Rattle.basis.specs.Recursion.{there}
use Rattle.basis.specs.Sums.{taken}
use Rattle.basis.proofs.Algebra.{taken_hom, taken_none, taken_add, taken_mul}
use Rattle.basis.proofs.AxisLaws.{at, fine, spike, AllLawful}
use Rattle.basis.proofs.Stencil.{mix, mix_3, there_ext, stencil, stencil_hom}

-- the product of the hats of q at y, in parts of 2 ^ tops
unfoldable pub fines : (ax : List Axis) → AllLawful ax → List ℕ → List ℕ → ℕ
fines [] laws q y = 1
fines (a ∷ ax) laws [] y = 0
fines (a ∷ ax) laws (k ∷ ks) [] = 0
fines (a ∷ ax) laws (k ∷ ks) (j ∷ js) = fine a laws.0.top k j * fines ax laws.1 ks js

-- the product of the spikes of p at q
unfoldable pub spikes : (ax : List Axis) → AllLawful ax → List ℕ → List ℕ → ℕ
spikes [] laws p q = 1
spikes (a ∷ ax) laws [] q = 0
spikes (a ∷ ax) laws (k ∷ ks) [] = 0
spikes (a ∷ ax) laws (k ∷ ks) (j ∷ js) = spike laws.0.top k j * spikes ax laws.1 ks js

-- the product of the greatest widths is 2 ^ tops
unfoldable pub tops : (ax : List Axis) → AllLawful ax → ℕ
tops [] laws = 0
tops (a ∷ ax) laws = laws.0.top + tops ax laws.1

-- and of their doubles 2 ^ depth
unfoldable pub depth : (ax : List Axis) → AllLawful ax → ℕ
depth [] laws = 0
depth (a ∷ ax) laws = suc laws.0.top + depth ax laws.1

pub depth_is : (ax : List Axis) (laws : AllLawful ax) → depth ax laws ≡ tops ax laws + length ax
unfolding tops depth
depth_is [] laws = refl
depth_is (a ∷ ax) laws = omega (arith, depth_is ax laws.1)

pub exponents_tops : (ax : List Axis) (laws : AllLawful ax) (q : List ℕ) → Inside ax q → exponents ax q ≤ tops ax laws
unfolding total tops
exponents_tops [] laws q i = omega arith
exponents_tops (a ∷ ax) laws [] i = absurd i
exponents_tops (a ∷ ax) laws (k ∷ ks) i = omega (arith, laws.0.narrow k i.0, exponents_tops ax laws.1 ks i.1)

pub spikes_same : (ax : List Axis) (laws : AllLawful ax) (p : List ℕ) → Inside ax p → spikes ax laws p p ≡ 2 ^ depth ax laws
unfolding spikes spike depth
spikes_same [] laws p i = refl
spikes_same (a ∷ ax) laws [] i = absurd i
spikes_same (a ∷ ax) laws (k ∷ ks) i = cc (eq-eqb k k refl, spikes_same ax laws.1 ks i.1, pow-add 2 (suc laws.0.top) (depth ax laws.1))

pub spikes_apart : (ax : List Axis) (laws : AllLawful ax) (p q : List ℕ) → Inside ax p → Inside ax q → (q ≡ p → ⊥) → spikes ax laws p q ≡ 0
unfolding spikes spike
spikes_apart [] laws [] [] i j n = absurd (n refl)
spikes_apart [] laws [] (l ∷ ls) i j n = absurd j
spikes_apart [] laws (k ∷ ks) q i j n = absurd i
spikes_apart (a ∷ ax) laws [] q i j n = absurd i
spikes_apart (a ∷ ax) laws (k ∷ ks) [] i j n = absurd j
spikes_apart (a ∷ ax) laws (k ∷ ks) (l ∷ ls) i j n =
    let w = 2 ^ suc laws.0.top in
    cond_both (eqb k l) w 0 (λ z. z * spikes ax laws.1 ks ls ≡ 0)
    (λ t. ap (λ z. w * z) (spikes_apart ax laws.1 ks ls i.1 j.1 (λ e. n (ap₂ ◌∷◌ (sym (eqb-true k l t)) e))) ∙ mul-zero w)
    (λ t. zero-mul (spikes ax laws.1 ks ls))

-- the same hats over the product of the point's own widths
pub fines_numerators : (ax : List Axis) (laws : AllLawful ax) (q y : List ℕ) → Inside ax q → fines ax laws q y * 2 ^ exponents ax q ≡ numerators ax q y * 2 ^ tops ax laws
unfolding fines numerators total tops fine
fines_numerators [] laws q y i = refl
fines_numerators (a ∷ ax) laws [] y i = absurd i
fines_numerators (a ∷ ax) laws (k ∷ ks) [] i = zero-mul (2 ^ exponents (a ∷ ax) (k ∷ ks)) ∙ sym (zero-mul (2 ^ tops (a ∷ ax) laws))
fines_numerators (a ∷ ax) laws (k ∷ ks) (j ∷ js) i =
    let t = laws.0.top in
    ap (λ v. (a.numerator k j * 2 ^ (t - a.exponent k)) * fines ax laws.1 ks js * v) (pow-add 2 (a.exponent k) (exponents ax ks))
    ∙ shuffle (a.numerator k j) (2 ^ (t - a.exponent k)) (fines ax laws.1 ks js) (2 ^ a.exponent k) (2 ^ exponents ax ks)
    ∙ ap₂ (λ s v. a.numerator k j * s * v)
    (sym (pow-add 2 (t - a.exponent k) (a.exponent k)) ∙ ap (λ e. 2 ^ e) (omega (arith, laws.0.narrow k i.0)))
    (fines_numerators ax laws.1 ks js i.1)
    ∙ gather (a.numerator k j) (2 ^ t) (numerators ax ks js) (2 ^ tops ax laws.1)
    ∙ ap (λ v. a.numerator k j * numerators ax ks js * v) (sym (pow-add 2 t (tops ax laws.1)))
  where
    shuffle : (h s f w v : ℕ) → (h * s) * f * (w * v) ≡ h * (s * w) * (f * v)
    shuffle h s f w v = simp (mul_assoc, mul_left_comm)

    gather : (h s f w : ℕ) → h * s * (f * w) ≡ h * f * (s * w)
    gather h s f w = simp (mul_assoc, mul_left_comm)

module _ (G : Group) (L : Laws G) where
  open G use {Member, plus as ◌⊕◌, minus as ⊖, zero as 𝟎}
  open L use {plus_assoc as assoc, plus_zero as right-neutral, plus_minus as inverse}

  infixl 60 ◌⊕◌
  there_taken : (o : Option ℕ) (f : ℕ → ℕ) (x : Member) → there G o (λ j. taken G (f j) x) ≡ taken G (at o f) x
  there_taken None f x = sym (taken_none G L x)
  there_taken (Some j) f x = refl

  mix_taken : (m l r s : ℕ) (x : Member) → 2 * m ≡ l + r + s → mix G L (taken G m x) (taken G l x) (taken G r x) ≡ taken G s x
  mix_taken m l r s x e =
      let c = taken G l x ⊕ taken G r x in
      let i : m + m ≡ s + (l + r) = omega arith in
      cc (taken_add G L m m x, taken_add G L s (l + r) x, taken_add G L l r x, assoc (taken G s x) c (⊖ c), inverse c, right-neutral (taken G s x))

  -- the stencil of a hat is one spike
  pub stencil_dual : (ax : List Axis) (laws : AllLawful ax) (p q : List ℕ) → Inside ax p → Inside ax q → (x : Member)
      → stencil G L ax (λ y. taken G (fines ax laws q y) x) p ≡ taken G (spikes ax laws p q) x
  unfolding stencil fines spikes
  stencil_dual [] laws [] q i j x = refl
  stencil_dual [] laws (k ∷ ks) q i j x = absurd i
  stencil_dual (a ∷ ax) laws [] q i j x = absurd i
  stencil_dual (a ∷ ax) laws (k ∷ ks) [] i j x = absurd j
  stencil_dual (a ∷ ax) laws (k ∷ ks) (l ∷ ls) i j x =
      let f = fine a laws.0.top l in
      let z = taken G (spikes ax laws.1 ks ls) x in
      let piece : (b : ℕ) → stencil G L ax (λ y. taken G (f b * fines ax laws.1 ls y) x) ks ≡ taken G (f b) z =
      λ b. ap (λ g. stencil G L ax g ks) (fun_ext (λ y. taken_mul G L (f b) (fines ax laws.1 ls y) x))
      ∙ stencil_hom G L (taken G (f b)) (taken_hom G L (f b)) ax (λ y. taken G (fines ax laws.1 ls y) x) ks
      ∙ ap (taken G (f b)) (stencil_dual ax laws.1 ks ls i.1 j.1 x) in
      let side : (o : Option ℕ) → there G o (λ b. stencil G L ax (λ y. taken G (f b * fines ax laws.1 ls y) x) ks) ≡ taken G (at o f) z =
      λ o. there_ext G L o _ (λ b. taken G (f b) z) (λ b e. piece b) ∙ there_taken o f z in
      mix_3 G L (piece k) (side (a.left k)) (side (a.right k))
      ∙ mix_taken (f k) (at (a.left k) f) (at (a.right k) f) (spike laws.0.top k l) z (laws.0.dual k l i.0 j.0)
      ∙ sym (taken_mul G L (spike laws.0.top k l) (spikes ax laws.1 ks ls) x)
