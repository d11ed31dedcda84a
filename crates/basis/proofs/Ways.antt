-- The sum over all ways is the sum direction by direction.
use Rattle.std.proofs.Common.{◌≡◌, ℕ, suc, ◌+◌, List, [], ◌∷◌, ◌++◌, map, Some, None, Option, sym, refl, ap, ◌∙◌, ap₂, add-zero, zero-add, arith}
use Rattle.std.specs.Option.{option_map, option_zip}
use Rattle.kinds.specs.Group.{Group, Laws}
use Rattle.kinds.specs.Halving.{Halving}
use Rattle.basis.specs.Lists.{before, choices}
use Rattle.basis.specs.Sums.{sum_over, halved, signed}
use Rattle.basis.specs.Axis.{Axis}
use Rattle.basis.specs.Surplus.{Move, stay, go_left, go_right, ways, moves, reached, added, surplus}
use Rattle.basis.specs.Recursion.{there, surplus_after}
use Rattle.basis.proofs.Algebra.{neutral, sum_ext, sum_append, sum_map, sum_zero}

module _ (G : Group) (L : Laws G) (H : Halving G) where
  open G use {Member, plus as ◌⊕◌, minus as ⊖, zero as 𝟎}
  open L use {plus_zero as right-neutral}

  infixl 60 ◌⊕◌
  -- what a way adds after a first step to j
  added_first : (u : List ℕ → Member) (n j : ℕ) (r : Option (List ℕ)) → added G H u n (option_map (λ c. c.0 ∷ c.1) (option_zip (Some j) r)) ≡ added G H (λ q. u (j ∷ q)) n r
  unfolding added
  added_first u n j None = refl
  added_first u n j (Some q) = refl

  -- all ways that go on from one step
  ways_from : (u : List ℕ → Member) (ax : List Axis) (ks : List ℕ) (n m : ℕ) (c : List Move → ℕ) → ((w : List Move) → n + c w ≡ m + moves w)
      → ((j : ℕ) → sum_over G (ways ax) (λ w. added G H (λ q. u (j ∷ q)) (m + moves w) (reached ax ks w)) ≡ surplus_after G H ax m (λ q. u (j ∷ q)) ks)
      → (o : Option ℕ) → sum_over G (ways ax) (λ w. added G H u (n + c w) (option_map (λ c. c.0 ∷ c.1) (option_zip o (reached ax ks w)))) ≡ there G o (λ j. surplus_after G H ax m (λ q. u (j ∷ q)) ks)
  ways_from u ax ks n m c e ih None = unfold added in sum_zero G L (ways ax)
  ways_from u ax ks n m c e ih (Some j) =
      sum_ext G L (ways ax) _ _ (λ w hw. added_first u (n + c w) j (reached ax ks w) ∙ ap (λ i. added G H (λ q. u (j ∷ q)) i (reached ax ks w)) (e w)) ∙ ih j

  ways_after : (ax : List Axis) (n : ℕ) (u : List ℕ → Member) (p : List ℕ) → sum_over G (ways ax) (λ w. added G H u (n + moves w) (reached ax p w)) ≡ surplus_after G H ax n u p
  unfolding ways choices before sum_over moves reached added surplus_after
  ways_after [] n u [] = right-neutral _ ∙ ap (λ i. signed G i (halved G H i (u []))) (add-zero n)
  ways_after [] n u (k ∷ ks) = neutral G L 𝟎
  ways_after (a ∷ ax) n u [] = sum_zero G L (ways (a ∷ ax))
  ways_after (a ∷ ax) n u (k ∷ ks) =
      let f : List Move → Member = λ w. added G H u (n + moves w) (reached (a ∷ ax) (k ∷ ks) w) in
      let part : (m : Move) → List (List Move) = λ m. map (λ w. m ∷ w) (ways ax) in
      sum_append G L (part stay) (part go_left ++ (part go_right ++ [])) f
      ∙ ap₂ ◌⊕◌ (sum_map G L (λ w. stay ∷ w) (ways ax) f ∙ ways_from u ax ks n n moves (λ w. refl) (λ j. ways_after ax n (λ q. u (j ∷ q)) ks) (Some k))
      (sum_append G L (part go_left) (part go_right ++ []) f
      ∙ ap₂ ◌⊕◌
      (sum_map G L (λ w. go_left ∷ w) (ways ax) f ∙ ways_from u ax ks n (suc n) (λ w. suc (moves w)) (λ w. omega arith) (λ j. ways_after ax (suc n) (λ q. u (j ∷ q)) ks) (a.left k))
      (sum_append G L (part go_right) [] f
      ∙ right-neutral _
      ∙ sum_map G L (λ w. go_right ∷ w) (ways ax) f ∙ ways_from u ax ks n (suc n) (λ w. suc (moves w)) (λ w. omega arith) (λ j. ways_after ax (suc n) (λ q. u (j ∷ q)) ks) (a.right k)))

  pub by_directions : (ax : List Axis) (u : List ℕ → Member) (p : List ℕ) → surplus G H ax u p ≡ surplus_after G H ax 0 u p
  unfolding surplus
  by_directions ax u p = sum_ext G L (ways ax) _ _ (λ w hw. ap (λ n. added G H u n (reached ax p w)) (sym (zero-add (moves w)))) ∙ ways_after ax 0 u p
