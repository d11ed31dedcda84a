-- The laws at the directions of a grid.
use Rattle.std.proofs.Common.{◌≡◌, ℕ, ◌+◌, ◌-◌, ◌*◌, ◌≤◌, List, sym, ap, ◌∙◌, arith}
use Rattle.kinds.specs.Group.{Group, Laws, doubled}
use Rattle.basis.specs.Lists.{IsIn}
use Rattle.basis.specs.Sums.{taken, halved}
use Rattle.basis.specs.Axis.{directions}
use Rattle.basis.specs.Grid.{places, exponents, scales, numerators}
use Rattle.basis.specs.Surplus.{surplus}
use Rattle.basis.specs.Interpolant.{value, integral}
use Rattle.basis.specs.Laws.{Sampled, Shallow, Reconstruction, Existence, Uniqueness, Integration, HalvingFree, ExactHalves}
use Rattle.basis.proofs.Algebra.{sum_ext, taken_one, doubled_add, halved_exact, halved_same}
use Rattle.basis.proofs.Hats.{tops, exponents_tops}
use Rattle.basis.proofs.Interpolation.{Rooted, surplus_exact, halves_first, term_exact, reconstruct, meet, unique, integrate}
use Rattle.basis.proofs.Roots.{steps}
use Rattle.basis.proofs.Directions.{lawful, tops_of, units_of, length_of, shares_one, scales_levels, steps_used}

wide : (d n : ℕ) → tops (directions d n) (lawful d n) ≤ 7 * d
wide d n = omega (arith, tops_of d n)

module _ (G : Group) (L : Laws G) where
  open G use {Member}

  -- at a sampled grid
  module _ {d n : ℕ} {points : List (List ℕ)} {u : List ℕ → Member} (s : Sampled G d n points u) where
    -- samples that fit are doubled 28 times
    rooted : Rooted G (directions d n) (lawful d n) points u 28
    rooted = record {
      grid = s.grid;
      root = λ p hp. let f = s.fit p hp in (f.root, f.rooted);
      enough = omega (arith, length_of d n, s.most);
    }

    -- which is enough for the widths
    narrow : (q : List ℕ) → IsIn q points → exponents (directions d n) q + d ≤ 28
    narrow q hq = omega (arith, exponents_tops (directions d n) (lawful d n) q (s.grid.inside q hq), tops_of d n, s.most)

    roomy : (q : List ℕ) → IsIn q points → exponents (directions d n) q + steps (directions d n) q ≤ 28
    roomy q hq = omega (arith, narrow q hq, steps_used d n q)

    -- and for level sums of at most 16
    low : Shallow d n points → (q : List ℕ) → IsIn q points → scales (directions d n) q + steps (directions d n) q ≤ 28
    low shallow q hq = omega (arith, shallow q hq, scales_levels d n q, steps_used d n q, s.most)

  pub reconstruction : Reconstruction G
  reconstruction H d n points u s = reconstruct G L H (rooted s) (roomy s)

  pub existence : Existence G
  existence H d n points u s = meet G L H (rooted s) (roomy s) (7 * d) (wide d n)

  pub uniqueness : Uniqueness G
  uniqueness H d n points u s = unique G L H (rooted s) (7 * d) (wide d n)

  pub integration : Integration G
  integration H d n points u s shallow =
      let f : List ℕ → Member = value G H (directions d n) points u in
      ap (λ m. doubled G m (integral G H (directions d n) points u)) (sym (units_of d n))
      ∙ integrate G L H (rooted s) (roomy s) (low s shallow)
      ∙ sum_ext G L (places (directions d n)) _ f (λ y hy. ap (λ m. taken G m (f y)) (shares_one d n y) ∙ taken_one G L (f y))

  pub exact_halves : ExactHalves G
  exact_halves H d n points u s = record {
    samples = λ p hp m h.
        let f = s.fit p hp in
        halved_exact G L H m (u p) (doubled G (28 - m) f.root) (sym (doubled_add G L m (28 - m) f.root) ∙ ap (λ k. doubled G k f.root) (omega arith) ∙ f.rooted);
    surpluses = λ p hp m h. surplus_exact G L H (rooted s) m p hp (omega (arith, steps_used d n p));
    narrow = narrow s;
    halves_first = λ p y hp. halves_first G L H (rooted s) (exponents (directions d n) p) (numerators (directions d n) p y) p hp (roomy s p hp);
  }

  -- the surpluses by another halving meet the samples too, so they are the same; and so is a half wherever it is exact
  pub halving_free : HalvingFree G
  unfolding value integral
  halving_free H H' d n points u s shallow = record {
    surpluses = same;
    values = λ y. sum_ext G L points _ _ (λ q hq.
        halved_same G L H H' (exponents (directions d n) q) _ _ (term_exact G L H (rooted s) (roomy s) y q hq)
        ∙ ap (λ c. halved G H' (exponents (directions d n) q) (taken G (numerators (directions d n) q y) c)) (same q hq));
    integrals = sum_ext G L points _ _ (λ q hq.
        halved_same G L H H' (scales (directions d n) q) _ _ (surplus_exact G L H (rooted s) (scales (directions d n) q) q hq (low s shallow q hq))
        ∙ ap (halved G H' (scales (directions d n) q)) (same q hq));
  }
    where
      same : (p : List ℕ) → IsIn p points → surplus G H (directions d n) u p ≡ surplus G H' (directions d n) u p
      same = uniqueness H' d n points u s (surplus G H (directions d n) u) (existence H d n points u s)
