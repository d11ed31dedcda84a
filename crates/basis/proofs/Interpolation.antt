-- The laws over any lawful axes, for samples that are some member doubled e times.
use Rattle.std.proofs.Common.{◌≡◌, ℕ, ◌+◌, ◌-◌, ◌^◌, ◌≤◌, List, length, sym, ap, ◌∙◌, mul_comm, add_comm, arith, sum_by}
use Rattle.kinds.specs.Group.{Group, Laws, doubled}
use Rattle.kinds.specs.Halving.{Halving}
use Rattle.basis.specs.Lists.{IsIn}
use Rattle.basis.specs.Sums.{sum_over, taken, halved}
use Rattle.basis.specs.Axis.{Axis}
use Rattle.basis.specs.Grid.{places, exponents, scales, numerators, SparseGrid}
use Rattle.basis.specs.Surplus.{surplus}
use Rattle.basis.specs.Interpolant.{value, integral, Meets}
use Rattle.basis.proofs.Algebra.{taken_hom, taken_mul, taken_doubled, doubled_taken, doubled_hom, doubled_add, doubled_comm, doubled_inj, halved_doubled, halved_exact, sum_ext, sum_hom, sum_swap, sum_taken}
use Rattle.basis.proofs.AxisLaws.{AllLawful}
use Rattle.basis.proofs.Stencil.{Near, near_map, stencil}
use Rattle.basis.proofs.Hats.{fines, tops, depth_is, exponents_tops, fines_numerators}
use Rattle.basis.proofs.Closure.{grid_near}
use Rattle.basis.proofs.Core.{spread, rebuild, only}
use Rattle.basis.proofs.Roots.{steps, surplus_stencil, surplus_root}
use Rattle.basis.proofs.Masses.{shares, units, weigh, places_sum}

-- samples u at the points of a grid of lawful axes, each of them some member doubled e times: at least once for each direction
pub record Rooted (G : Group) (ax : List Axis) (laws : AllLawful ax) (points : List (List ℕ)) (u : List ℕ → G.Member) (e : ℕ) : Type 0 where
  pub grid : SparseGrid ax points
  pub root : (p : List ℕ) → IsIn p points → (x : G.Member) × (doubled G e x ≡ u p)
  pub enough : length ax ≤ e

module _ (G : Group) (L : Laws G) (H : Halving G) {ax : List Axis} {laws : AllLawful ax} {points : List (List ℕ)} {u : List ℕ → G.Member} {e : ℕ} (given : Rooted G ax laws points u e) where
  open G use {Member}

  -- the surpluses
  abbrev rise : List ℕ → Member
  rise = surplus G H ax u

  -- each surplus of a point q can be halved f ax q times
  abbrev pub Roomy : (List Axis → List ℕ → ℕ) → Type 0
  Roomy f = (q : List ℕ) → IsIn q points → f ax q + steps ax q ≤ e

  -- the samples around a point have roots
  near_root : (p : List ℕ) → IsIn p points → Near ax (λ q. u q ≡ doubled G e (halved G H e (u q))) p
  near_root p hp =
      near_map ax (λ q. IsIn q points) _ p (λ q hq. let w = given.root q hq in sym (halved_exact G L H e (u q) w.0 w.1))
      (grid_near ax laws points given.grid p hp)

  -- doubled for each direction, a surplus is the stencil of the samples
  surplus_doubled : (p : List ℕ) → IsIn p points → doubled G (length ax) (rise p) ≡ stencil G L ax u p
  surplus_doubled p hp = surplus_stencil G L H ax e u (λ q. halved G H e (u q)) p given.enough (given.grid.inside p hp) (near_root p hp)

  pub surplus_exact : (m : ℕ) (p : List ℕ) → IsIn p points → m + steps ax p ≤ e → doubled G m (halved G H m (rise p)) ≡ rise p
  surplus_exact m p hp le =
      let w = surplus_root G L H ax m e u (λ q. halved G H e (u q)) p le (near_root p hp) in
      halved_exact G L H m (rise p) w.0 w.1

  -- one may halve first and take multiples then
  pub halves_first : (m k : ℕ) (p : List ℕ) → IsIn p points → m + steps ax p ≤ e → halved G H m (taken G k (rise p)) ≡ taken G k (halved G H m (rise p))
  halves_first m k p hp le = let z = halved G H m (rise p) in cc (surplus_exact m p hp le, taken_doubled G L k m z, halved_doubled G L H m (taken G k z))

  pub term_exact : Roomy exponents → (y q : List ℕ) → IsIn q points
      → doubled G (exponents ax q) (halved G H (exponents ax q) (taken G (numerators ax q y) (rise q))) ≡ taken G (numerators ax q y) (rise q)
  term_exact room y q hq =
      let s = exponents ax q in
      let k = numerators ax q y in
      cc (halves_first s k q hq (room q hq), taken_doubled G L k s (halved G H s (rise q)), surplus_exact s q hq (room q hq))

  -- the numerators over 2^s and those over 2^tops
  scaled : (y q : List ℕ) → IsIn q points → (x : Member) → doubled G (tops ax laws) (taken G (numerators ax q y) x) ≡ doubled G (exponents ax q) (taken G (fines ax laws q y) x)
  scaled y q hq x =
      let t = tops ax laws in
      let s = exponents ax q in
      let n = numerators ax q y in
      let m = fines ax laws q y in
      cc (
        doubled_taken G L t (taken G n x),
        taken_mul G L (2 ^ t) n x,
        mul_comm (2 ^ t) n,
        fines_numerators ax laws q y (given.grid.inside q hq),
        mul_comm m (2 ^ s),
        taken_mul G L (2 ^ s) m x,
        doubled_taken G L s (taken G m x),
      )

  -- the value at a place is the sum of the hats
  value_is : Roomy exponents → (y : List ℕ) → doubled G (tops ax laws) (value G H ax points u y) ≡ spread G L H ax laws points rise y
  unfolding value spread
  value_is room y =
      let t = tops ax laws in
      sum_hom G L (doubled G t) (doubled_hom G L t) points _
      ∙ sum_ext G L points _ _ (λ q hq.
      let s = exponents ax q in
      doubled_inj G L H s _ _ (doubled_comm G L s t _ ∙ ap (doubled G t) (term_exact room y q hq) ∙ scaled y q hq (rise q)))

  pub reconstruct : Roomy exponents → (p : List ℕ) → IsIn p points → value G H ax points u p ≡ u p
  unfolding spread
  reconstruct room p hp =
      let n = length ax in
      let t = tops ax laws in
      doubled_inj G L H (n + t) _ _
      (doubled_add G L n t _
      ∙ ap (doubled G n) (value_is room p)
      ∙ sum_hom G L (doubled G n) (doubled_hom G L n) points _
      ∙ sum_ext G L points _ _ (λ q hq. sym (taken_doubled G L (fines ax laws q p) n (rise q)) ∙ ap (taken G (fines ax laws q p)) (surplus_doubled q hq))
      ∙ rebuild G L H ax laws points given.grid u p hp
      ∙ ap (λ k. doubled G k (u p)) (depth_is ax laws ∙ add_comm t n))

  -- one term of the sum that coefficients meet
  met_term : (d : ℕ) → tops ax laws ≤ d → (c : List ℕ → Member) (y q : List ℕ) → IsIn q points
      → doubled G d (taken G (fines ax laws q y) (c q)) ≡ doubled G (tops ax laws) (doubled G (d - exponents ax q) (taken G (numerators ax q y) (c q)))
  met_term d wd c y q hq =
      let s = exponents ax q in
      let w = exponents_tops ax laws q (given.grid.inside q hq) in
      let i : d ≡ (d - s) + s = omega arith in
      cc (doubled_add G L (d - s) s (taken G (fines ax laws q y) (c q)), scaled y q hq (c q), doubled_comm G L (d - s) (tops ax laws) (taken G (numerators ax q y) (c q)))

  pub meet : Roomy exponents → (d : ℕ) → tops ax laws ≤ d → Meets G ax d points u rise
  unfolding spread
  meet room d wd p hp =
      let t = tops ax laws in
      doubled_inj G L H t _ _
      (sum_hom G L (doubled G t) (doubled_hom G L t) points _
      ∙ sum_ext G L points _ _ (λ q hq. sym (met_term d wd rise p q hq))
      ∙ sym (sum_hom G L (doubled G d) (doubled_hom G L d) points _)
      ∙ ap (doubled G d) (sym (value_is room p) ∙ ap (doubled G t) (reconstruct room p hp))
      ∙ doubled_comm G L d t (u p))

  -- coefficients that meet the samples give them as the sum of the hats
  met_spread : (d : ℕ) → tops ax laws ≤ d → (c : List ℕ → Member) → Meets G ax d points u c
      → (y : List ℕ) → IsIn y points → spread G L H ax laws points c y ≡ doubled G (tops ax laws) (u y)
  unfolding spread
  met_spread d wd c h y hy =
      let t = tops ax laws in
      doubled_inj G L H d _ _
      (sum_hom G L (doubled G d) (doubled_hom G L d) points (λ q. taken G (fines ax laws q y) (c q))
      ∙ sum_ext G L points _ _ (met_term d wd c y)
      ∙ sym (sum_hom G L (doubled G t) (doubled_hom G L t) points _)
      ∙ ap (doubled G t) (h y hy)
      ∙ doubled_comm G L t d (u y))

  pub unique : (d : ℕ) → tops ax laws ≤ d → (c : List ℕ → Member) → Meets G ax d points u c → (p : List ℕ) → IsIn p points → c p ≡ rise p
  unique d wd c h p hp =
      doubled_inj G L H (length ax) (c p) (rise p) (only G L H ax laws points given.grid c u (met_spread d wd c h) p hp ∙ sym (surplus_doubled p hp))

  -- what the point q brings to the integral
  mass : (q : List ℕ) → IsIn q points → scales ax q + steps ax q ≤ e
      → doubled G (tops ax laws) (doubled G (units ax laws) (halved G H (scales ax q) (rise q))) ≡ taken G (sum_by (weigh ax laws q) (places ax)) (rise q)
  mass q hq le =
      let w = sum_by (weigh ax laws q) (places ax) in
      let s = scales ax q in
      let t = tops ax laws in
      let n = units ax laws in
      let x = halved G H s (rise q) in
      cc (doubled_add G L t n x, doubled_taken G L (t + n) x, places_sum ax laws q (given.grid.inside q hq), taken_mul G L w (2 ^ s) x, doubled_taken G L s x, surplus_exact s q hq le)

  -- the value at a place, as the hats of all points there
  weighed : Roomy exponents → (y : List ℕ)
      → sum_over G points (λ q. taken G (weigh ax laws q y) (rise q)) ≡ doubled G (tops ax laws) (taken G (shares ax laws y) (value G H ax points u y))
  unfolding spread weigh
  weighed room y =
      let n = shares ax laws y in
      sum_ext G L points _ _ (λ q hq. taken_mul G L n (fines ax laws q y) (rise q))
      ∙ sym (sum_hom G L (taken G n) (taken_hom G L n) points (λ q. taken G (fines ax laws q y) (rise q)))
      ∙ ap (taken G n) (sym (value_is room y))
      ∙ taken_doubled G L n (tops ax laws) (value G H ax points u y)

  pub integrate : Roomy exponents → Roomy scales
      → doubled G (units ax laws) (integral G H ax points u) ≡ sum_over G (places ax) (λ y. taken G (shares ax laws y) (value G H ax points u y))
  unfolding integral
  integrate room low =
      let n = units ax laws in
      let t = tops ax laws in
      doubled_inj G L H t _ _
      (ap (doubled G t) (sum_hom G L (doubled G n) (doubled_hom G L n) points _)
      ∙ sum_hom G L (doubled G t) (doubled_hom G L t) points _
      ∙ sum_ext G L points _ _ (λ q hq. mass q hq (low q hq) ∙ sym (sum_taken G L (places ax) (weigh ax laws q) (rise q)))
      ∙ sum_swap G L points (places ax) (λ q y. taken G (weigh ax laws q y) (rise q))
      ∙ sum_ext G L (places ax) _ _ (λ y hy. weighed room y)
      ∙ sym (sum_hom G L (doubled G t) (doubled_hom G L t) (places ax) _))
