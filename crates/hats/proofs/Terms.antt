-- The sizes of surpluses, terms and sums at a grid.
use Rattle.std.proofs.Common.{◌≡◌, ℕ, ◌+◌, ◌^◌, ◌≤◌, List, [], ◌∷◌, length, Some, None, Option, sym, refl, ap, subst, inl, inr, le_trans, arith, pow_mono}
use Rattle.kinds.specs.Group.{Group, Laws, doubled}
use Rattle.kinds.specs.Halving.{Halving}
use Rattle.basis.specs.Lists.{IsIn}
use Rattle.basis.specs.Sums.{halved}
use Rattle.basis.specs.Axis.{directions}
use Rattle.basis.specs.Grid.{exponents, scales, numerators}
use Rattle.basis.specs.Surplus.{Move, stay, go_left, go_right, ways, moves, reached, added, surplus}
use Rattle.basis.specs.Interpolant.{value, integral}
use Rattle.basis.specs.Laws.{Sampled, Shallow, Exact}
use Rattle.basis.proofs.Counts.{all_ways}
use Rattle.basis.proofs.Closure.{grid_near}
use Rattle.basis.proofs.Directions.{lawful, length_of, scales_levels}
use Rattle.basis.proofs.Local.{locality}
use Rattle.basis.proofs.Stencil.{near_map}
use Rattle.basis.proofs.Theorems.{exact_halves}
use Rattle.basis.proofs.Ways.{by_directions}
use Rattle.hats.specs.Multiples.{Proper}
use Rattle.hats.specs.Bounds.{way_term, value_term, integral_term, Summable, Bounded}
use Rattle.hats.proofs.Hats.{hats_at_most_one}
use Rattle.hats.proofs.Sizes.{size_taken, size_sum, size_signed, size_share, size_root, size_after}

-- a way moves at most once for each direction
moves_length : (w : List Move) → moves w ≤ length w
unfolding moves
moves_length [] = omega arith
moves_length (stay ∷ w) = omega (arith, moves_length w)
moves_length (go_left ∷ w) = omega (arith, moves_length w)
moves_length (go_right ∷ w) = omega (arith, moves_length w)

module _ (G : Group) (L : Laws G) where
  open G use {Member, size}

  -- terms of size at most 2^48 can be summed
  summable : {X : Type 0} (xs : List X) (f : X → Member) → ((x : X) → IsIn x xs → size (f x) ≤ 2 ^ 48) → Summable G xs f
  summable xs f h before next in-xs few =
      let parts = size_sum G L (2 ^ 48) before f (λ x m. h x (in-xs x (inr m))) in
      omega (arith, parts, h next (in-xs next (inl refl)))

  module _ (H : Halving G) {d n : ℕ} {points : List (List ℕ)} {u : List ℕ → Member} (s : Sampled G d n points u) where
    exact : Exact G H d n points u
    exact = exact_halves G L H d n points u s

    -- what a way adds that leads to a point
    added_small : (m : ℕ) (o : Option (List ℕ)) → m ≤ 28 → ((y : List ℕ) → o ≡ Some y → IsIn y points) → size (added G H u m o) ≤ 2 ^ 44
    unfolding added
    added_small m None h f = omega (arith, L.size_zero)
    added_small m (Some y) h f =
        let hy = f y refl in
        let z = halved G H m (u y) in
        omega (arith, size_signed G L m z, size_root G L H m (u y) z (exact.samples y hy m h), (s.fit y hy).small)

    way_small : (p : List ℕ) → IsIn p points → (w : List Move) → IsIn w (ways (directions d n)) → size (way_term G H (directions d n) u p w) ≤ 2 ^ 44
    way_small p hp w hw =
        added_small (moves w) (reached (directions d n) p w) (omega (arith, moves_length w, (all_ways d n).only w hw, s.most))
        (λ y e. (locality G L).holds_these d n points s.grid p y hp (record { way = w; among = hw; leads = e }))

    -- a direction at most doubles the size
    surplus_small : (p : List ℕ) → IsIn p points → size (surplus G H (directions d n) u p) ≤ 2 ^ 48
    surplus_small p hp =
        let ax = directions d n in
        let most : length ax ≤ 4 = omega (arith, length_of d n, s.most) in
        let samples = near_map ax (λ q. IsIn q points) (λ q. (size (u q) ≤ 2 ^ 44) × (doubled G 28 (halved G H 28 (u q)) ≡ u q)) p
        (λ q hq. ((s.fit q hq).small, exact.samples q hq 28 (omega arith))) (grid_near ax (lawful d n) points s.grid p hp) in
        let few : 2 ^ length ax ≤ 2 ^ 4 = pow_mono most in
        omega (arith, ap size (by_directions G L H ax u p), size_after G L H (2 ^ 44) 28 ax 0 u p (omega arith) samples)

    value_proper : (p y : List ℕ) → IsIn p points → Proper G (numerators (directions d n) p y) (exponents (directions d n) p) (surplus G H (directions d n) u p)
    value_proper p y hp =
        let ax = directions d n in
        let m = exponents ax p in
        record {
          root = halved G H m (surplus G H ax u p);
          rooted = exact.surpluses p hp m (exact.narrow p hp);
          small = surplus_small p hp;
          share = hats_at_most_one d n p y;
        }

    value_small : (p y : List ℕ) → IsIn p points → size (value_term G H (directions d n) u y p) ≤ 2 ^ 48
    unfolding value_proper
    value_small p y hp =
        let ax = directions d n in
        let k = numerators ax p y in
        let proper = value_proper p y hp in
        subst (λ z. size z ≤ 2 ^ 48) (sym (exact.halves_first p y hp))
        (le_trans (size_taken G L k proper.root) (le_trans (size_share G L H k (exponents ax p) (surplus G H ax u p) proper.root proper.share proper.rooted) proper.small))

    integral_small : Shallow d n points → (p : List ℕ) → IsIn p points → size (integral_term G H (directions d n) u p) ≤ 2 ^ 48
    integral_small shallow p hp =
        let m = scales (directions d n) p in
        let rise = surplus G H (directions d n) u p in
        let low : m + d ≤ 28 = omega (arith, shallow p hp, scales_levels d n p, s.most) in
        le_trans (size_root G L H m rise (halved G H m rise) (exact.surpluses p hp m low)) (surplus_small p hp)

  pub bounded : Bounded G
  unfolding surplus value integral
  bounded H d n points u s shallow =
      let ax = directions d n in
      let rise = surplus G H ax u in
      record {
        surplus_is = λ p. refl;
        value_is = λ y. refl;
        integral_is = refl;
        way_small = way_small H s;
        ways_summable = λ p hp. summable (ways ax) (way_term G H ax u p) (λ w hw. omega (arith, way_small H s p hp w hw));
        surplus_small = surplus_small H s;
        surplus_rooted = λ p hp. (halved G H 24 (rise p), (exact H s).surpluses p hp 24 (omega (arith, s.most)));
        value_proper = value_proper H s;
        value_small = value_small H s;
        value_summable = λ y. summable points (value_term G H ax u y) (λ p hp. value_small H s p y hp);
        integral_small = integral_small H s shallow;
        integral_summable = summable points (integral_term G H ax u) (integral_small H s shallow);
      }
