-- Sizes of multiples, sums and halves in a group, and of a surplus.
use Rattle.std.proofs.Common.{◌≡◌, ℕ, zero, suc, ◌+◌, ◌-◌, ◌*◌, ◌%◌, ◌^◌, ◌≤◌, eqb, List, [], ◌∷◌, length, Some, None, Option, sym, refl, ap, ◌∙◌, subst, inl, inr, le_trans, mul-le-mul_right, mul_assoc, suc-mul, mul-le-mul_left, mul-zero, mul-add, arith, pow_pos}
use native.Mathlib.Nat.{pow-succ'}
use Rattle.std.proofs.lemmas.Bool.{cond_both}
use Rattle.kinds.specs.Group.{Group, Laws, doubled}
use Rattle.kinds.specs.Halving.{Halving}
use Rattle.basis.specs.Lists.{IsIn}
use Rattle.basis.specs.Sums.{sum_over, taken, halved, signed}
use Rattle.basis.specs.Axis.{Axis}
use Rattle.basis.specs.Recursion.{there, surplus_after}
use Rattle.basis.proofs.Algebra.{doubled_add, halved_exact}
use Rattle.basis.proofs.AxisLaws.{Neighbour}
use Rattle.basis.proofs.Stencil.{Near}

-- powers of two, and multiples of nothing
times_two : (n k : ℕ) → 2 ^ suc n * k ≡ 2 * (2 ^ n * k)
times_two n k = ap (λ m. m * k) (pow-succ' 2 n) ∙ mul_assoc 2 (2 ^ n) k

module _ (G : Group) (L : Laws G) where
  open G use {Member, plus as ◌⊕◌, minus as ⊖, zero as 𝟎, size}
  open L use {size_zero, size_minus, size_plus}

  infixl 60 ◌⊕◌
  times_none : (k : ℕ) → k * size 𝟎 ≡ 0
  times_none k = ap (λ s. k * s) size_zero ∙ mul-zero k

  pub size_taken : (n : ℕ) (x : Member) → size (taken G n x) ≤ n * size x
  unfolding taken
  size_taken zero x = omega (arith, size_zero)
  size_taken (suc n) x = omega (arith, size_plus x (taken G n x), size_taken n x, suc-mul n (size x))

  pub size_sum : {X : Type 0} (b : ℕ) (xs : List X) (f : X → Member) → ((x : X) → IsIn x xs → size (f x) ≤ b) → size (sum_over G xs f) ≤ length xs * b
  unfolding sum_over
  size_sum b [] f h = omega (arith, size_zero)
  size_sum b (x ∷ xs) f h = omega (arith, size_plus (f x) (sum_over G xs f), h x (inl refl), size_sum b xs f (λ y m. h y (inr m)), suc-mul (length xs) b)

  pub size_signed : (n : ℕ) (x : Member) → size (signed G n x) ≡ size x
  unfolding signed
  size_signed n x = cond_both (eqb (n % 2) 1) (⊖ x) x (λ z. size z ≡ size x) (λ e. size_minus x) (λ e. refl)

  module _ (H : Halving G) where
    -- doubling loses no size
    pub size_doubled : (n : ℕ) (x : Member) → 2 ^ n * size x ≤ size (doubled G n x)
    unfolding doubled
    size_doubled zero x = omega arith
    size_doubled (suc n) x = omega (arith, size_doubled n x, H.size_twice (doubled G n x), times_two n (size x))

    -- so up to 2^n times what is doubled n times is no larger than the double
    pub size_share : (k n : ℕ) (x y : Member) → k ≤ 2 ^ n → doubled G n y ≡ x → k * size y ≤ size x
    size_share k n x y h e = le_trans (mul-le-mul_right (size y) h) (subst (λ z. 2 ^ n * size y ≤ size z) e (size_doubled n y))

    pub size_root : (n : ℕ) (x y : Member) → doubled G n y ≡ x → size y ≤ size x
    size_root n x y e = let h : 1 ≤ 2 ^ n = pow_pos n in omega (arith, size_share 1 n x y h e)

    -- a neighbour's part, or nothing on the border
    there_size : (k b : ℕ) (o : Option ℕ) (f : ℕ → Member) → ((i : ℕ) → o ≡ Some i → k * size (f i) ≤ b) → k * size (there G o f) ≤ b
    there_size k b None f h = omega (arith, times_none k)
    there_size k b (Some i) f h = h i refl

    -- After j moves, the ways in l directions more add up to 2^j times less than 2^l samples of size b, if samples can be halved so often.
    pub size_after : (b e : ℕ) (ax : List Axis) (j : ℕ) (u : List ℕ → Member) (p : List ℕ) → j + length ax ≤ e
        → Near ax (λ q. (size (u q) ≤ b) × (doubled G e (halved G H e (u q)) ≡ u q)) p → 2 ^ j * size (surplus_after G H ax j u p) ≤ 2 ^ length ax * b
    unfolding surplus_after
    size_after b e [] j u [] h n =
        let root = doubled G (e - j) (halved G H e (u [])) in
        let all : j + (e - j) ≡ e = omega arith in
        let rooted = sym (doubled_add G L j (e - j) (halved G H e (u []))) ∙ ap (λ k. doubled G k (halved G H e (u []))) all ∙ n.1 in
        let exact = halved_exact G L H j (u []) root rooted in
        omega (arith, ap (λ s. 2 ^ j * s) (size_signed j (halved G H j (u []))), size_doubled j (halved G H j (u [])), ap size exact, n.0)
    size_after b e [] j u (k ∷ ks) h n = omega (arith, times_none (2 ^ j))
    size_after b e (a ∷ ax) j u [] h n = omega (arith, times_none (2 ^ j))
    size_after b e (a ∷ ax) j u (k ∷ ks) h n =
        let stays = surplus_after G H ax j (λ q. u (k ∷ q)) ks in
        let goes : ℕ → Member = λ i. surplus_after G H ax (suc j) (λ q. u (i ∷ q)) ks in
        let l = there G (a.left k) goes in
        let r = there G (a.right k) goes in
        let side : (o : Option ℕ) → ((i : ℕ) → o ≡ Some i → Neighbour a k i) → 2 ^ suc j * size (there G o goes) ≤ 2 ^ length ax * b = λ o near.
        there_size (2 ^ suc j) (2 ^ length ax * b) o goes (λ i m. size_after b e ax (suc j) (λ q. u (i ∷ q)) ks (omega arith) (n.1 i (near i m))) in
        let here = size_after b e ax j (λ q. u (k ∷ q)) ks (omega arith) n.0 in
        let parts : 2 ^ j * size (stays ⊕ (l ⊕ r)) ≤ 2 ^ j * (size stays + (size l + size r)) = mul-le-mul_left (2 ^ j) (omega (arith, size_plus stays (l ⊕ r), size_plus l r)) in
        omega (
          arith,
          parts,
          mul-add (2 ^ j) (size stays) (size l + size r),
          mul-add (2 ^ j) (size l) (size r),
          here,
          side (a.left k) (λ i m. inl m),
          side (a.right k) (λ i m. inr m),
          times_two j (size l),
          times_two j (size r),
          times_two (length ax) b,
        )
