-- A surplus reads the places of its stencil alone, so order and other points do not matter.
use Rattle.std.proofs.Common.{◌≡◌, ℕ, List, [], ◌∷◌, Some, None, Option, refl, ap, ◌∙◌, subst, inl, inr}
use Rattle.std.specs.Option.{option_map, option_zip}
use Rattle.kinds.specs.Group.{Group, Laws}
use Rattle.kinds.specs.Halving.{Halving}
use Rattle.basis.specs.Lists.{IsIn}
use Rattle.basis.specs.Sums.{taken, halved, signed}
use Rattle.basis.specs.Axis.{Axis, directions}
use Rattle.basis.specs.Grid.{parents, exponents, scales, numerators, SparseGrid}
use Rattle.basis.specs.Surplus.{Move, stay, go_left, go_right, ways, moves, next, reached, added, surplus, Reads}
use Rattle.basis.specs.Interpolant.{value, integral}
use Rattle.basis.specs.Laws.{Locality, OrderFree}
use Rattle.basis.proofs.Algebra.{sum_ext}
use Rattle.basis.proofs.AxisLaws.{AllLawful}
use Rattle.basis.proofs.Stencil.{Near, near_map}
use Rattle.basis.proofs.Closure.{closed_near, grid_near}
use Rattle.basis.proofs.Sets.{same_sum}
use Rattle.basis.proofs.Directions.{lawful}

-- the first step of a way that stays near
near_next : (a : Axis) (ax : List Axis) (P : List ℕ → Type 0) (k : ℕ) (ks : List ℕ) → Near (a ∷ ax) P (k ∷ ks) → (m : Move) (j : ℕ) → next a k m ≡ Some j → Near ax (λ q. P (j ∷ q)) ks
near_next a ax P k ks n stay j e = let i : k ≡ j = cc in subst (λ b. Near ax (λ q. P (b ∷ q)) ks) i n.0
near_next a ax P k ks n go_left j e = n.1 j (inl e)
near_next a ax P k ks n go_right j e = n.1 j (inr e)

-- what holds near p holds wherever a way from p leads
near_reached : (ax : List Axis) (P : List ℕ → Type 0) (p : List ℕ) → Near ax P p → (w : List Move) (y : List ℕ) → reached ax p w ≡ Some y → P y
unfolding reached
near_reached [] P [] n [] y e = let i : [] ≡ y = cc in subst P i n
near_reached [] P [] n (m ∷ w) y e = cc
near_reached [] P (k ∷ ks) n w y e = cc
near_reached (a ∷ ax) P [] n w y e = cc
near_reached (a ∷ ax) P (k ∷ ks) n [] y e = cc
near_reached (a ∷ ax) P (k ∷ ks) n (m ∷ w) y e =
    go (next a k m) (reached ax ks w) (λ j q s t. near_reached ax (λ r. P (j ∷ r)) ks (near_next a ax P k ks n m j s) w q t) refl refl e
  where
    go : (o : Option ℕ) (r : Option (List ℕ)) → ((j : ℕ) (q : List ℕ) → next a k m ≡ Some j → reached ax ks w ≡ Some q → P (j ∷ q))
        → next a k m ≡ o → reached ax ks w ≡ r → option_map (λ c. c.0 ∷ c.1) (option_zip o r) ≡ Some y → P y
    go None r f s t v = cc
    go (Some j) None f s t v = cc
    go (Some j) (Some q) f s t v = let i : j ∷ q ≡ y = cc in subst P i (f j q s t)

module _ (G : Group) (L : Laws G) where
  -- equal samples wherever a way leads
  reads_only : (H : Halving G) (ax : List Axis) (u v : List ℕ → G.Member) (p : List ℕ) → ((y : List ℕ) → Reads ax p y → u y ≡ v y) → surplus G H ax u p ≡ surplus G H ax v p
  unfolding surplus added
  reads_only H ax u v p h = sum_ext G L (ways ax) _ _ (λ w hw. go (moves w) (reached ax p w) (λ y e. h y (record { way = w; among = hw; leads = e })))
    where
      go : (n : ℕ) (o : Option (List ℕ)) → ((y : List ℕ) → o ≡ Some y → u y ≡ v y) → added G H u n o ≡ added G H v n o
      go n None f = refl
      go n (Some y) f = ap (λ x. signed G n (halved G H n x)) (f y refl)

  -- equal samples near p
  surplus_near : (H : Halving G) (ax : List Axis) (u v : List ℕ → G.Member) (p : List ℕ) → Near ax (λ q. u q ≡ v q) p → surplus G H ax u p ≡ surplus G H ax v p
  surplus_near H ax u v p n = reads_only H ax u v p (λ y r. near_reached ax (λ q. u q ≡ v q) p n r.way y r.leads)

  -- the other points are a set with all parents too
  others_stay : (H : Halving G) (ax : List Axis) → AllLawful ax → (points : List (List ℕ)) → SparseGrid ax points → (u v : List ℕ → G.Member) (p : List ℕ)
      → ((q : List ℕ) → IsIn q points → IsIn p (parents ax q) → ⊥) → ((y : List ℕ) → (y ≡ p → ⊥) → u y ≡ v y)
      → (q : List ℕ) → IsIn q points → (q ≡ p → ⊥) → surplus G H ax u q ≡ surplus G H ax v q
  others_stay H ax laws points grid u v p childless same q hq ne =
      let Other : List ℕ → Type 0 = λ r. IsIn r points × (r ≡ p → ⊥) in
      let near = closed_near ax laws Other (λ r i. grid.inside r i.0)
      (λ r s i h. (grid.closed r s i.0 h, λ e. childless r i.0 (subst (λ t. IsIn t (parents ax r)) e h))) q (hq, ne) in
      surplus_near H ax u v q (near_map ax Other _ q (λ r i. same r i.1) near)

  pub locality : Locality G
  locality = record {
    reads_only = λ H d n. reads_only H (directions d n);
    holds_these = λ d n points grid p y hp r.
        near_reached (directions d n) (λ q. IsIn q points) p (grid_near (directions d n) (lawful d n) points grid p hp) r.way y r.leads;
    unread_stays = λ H d n u v p q unread same.
        reads_only H (directions d n) u v q (λ y r. same y (λ e. unread (subst (Reads (directions d n) q) e r)));
    others_stay = λ H d n. others_stay H (directions d n) (lawful d n);
  }

  pub order_free : OrderFree G
  unfolding value integral
  order_free H d n points others u v grid distinct set equal = record {
    surpluses = same;
    values = λ y.
        sum_ext G L points _ _ (λ q hq. ap (λ c. halved G H (exponents (directions d n) q) (taken G (numerators (directions d n) q y) c)) (same q hq))
        ∙ same_sum G L _ points others grid.distinct distinct set;
    integrals =
        sum_ext G L points _ _ (λ q hq. ap (halved G H (scales (directions d n) q)) (same q hq))
        ∙ same_sum G L _ points others grid.distinct distinct set;
  }
    where
      same : (p : List ℕ) → IsIn p points → surplus G H (directions d n) u p ≡ surplus G H (directions d n) v p
      same p hp =
          surplus_near H (directions d n) u v p
          (near_map (directions d n) (λ q. IsIn q points) _ p equal (grid_near (directions d n) (lawful d n) points grid p hp))
