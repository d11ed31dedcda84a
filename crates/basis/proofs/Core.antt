-- Reconstruction and uniqueness with doublings only.
use Rattle.std.proofs.Common.{◌≡◌, ℕ, zero, suc, ◌<◌, List, length, sym, ap, ◌∙◌, ap₂, not-suc-le-zero, arith}
use Rattle.kinds.specs.Group.{Group, Laws, doubled}
use Rattle.kinds.specs.Halving.{Halving}
use Rattle.basis.specs.Lists.{IsIn}
use Rattle.basis.specs.Sums.{sum_over, taken}
use Rattle.basis.specs.Axis.{Axis}
use Rattle.basis.specs.Grid.{Inside, level_sum, SparseGrid}
use Rattle.basis.proofs.Algebra.{minus_hom, cancel, hom_zero, taken_none, doubled_taken, doubled_hom, doubled_add, doubled_inj, sum_ext, sum_pick}
use Rattle.basis.proofs.AxisLaws.{AllLawful}
use Rattle.basis.proofs.Stencil.{Near, near_map, around_map, around_both, stencil, stencil_hom, stencil_plus, stencil_near, stencil_sum, stencil_lead}
use Rattle.basis.proofs.Hats.{fines, spikes, tops, depth, depth_is, spikes_same, spikes_apart, stencil_dual}
use Rattle.basis.proofs.Closure.{grid_near, lower_around}

module _ (G : Group) (L : Laws G) (H : Halving G) (ax : List Axis) (laws : AllLawful ax) where
  open G use {Member, plus as ◌⊕◌, minus as ⊖, zero as 𝟎}
  open L use {plus_comm as comm, plus_minus as inverse}

  infixl 60 ◌⊕◌
  -- the sum of the hats with the coefficients c, in parts of 2 ^ tops
  unfoldable pub spread : List (List ℕ) → (List ℕ → Member) → List ℕ → Member
  spread points c y = sum_over G points (λ q. taken G (fines ax laws q y) (c q))

  -- a function whose stencils vanish on a set is zero there, by the level sum
  stencil_inj : (In : List ℕ → Type 0) → ((p : List ℕ) → In p → Inside ax p) → ((p : List ℕ) → In p → Near ax In p)
      → (h : List ℕ → Member) → ((p : List ℕ) → In p → stencil G L ax h p ≡ 𝟎) → (n : ℕ) (p : List ℕ) → In p → level_sum ax p < n → h p ≡ 𝟎
  stencil_inj In ins near h z zero p ip l = absurd (not-suc-le-zero l)
  stencil_inj In ins near h z (suc n) p ip l =
      let lower = around_both ax (λ q. level_sum ax q < level_sum ax p) In p (lower_around ax laws p (ins p ip)) (near p ip) in
      let gone = around_map ax _ (λ q. h q ≡ 𝟎) p (λ q w. stencil_inj In ins near h z n q w.1 (omega (arith, w.0))) lower in
      doubled_inj G L H (length ax) (h p) 𝟎
      (cc (stencil_lead G L ax h p (ins p ip) gone, z p ip, hom_zero G L (doubled G (length ax)) (doubled_hom G L (length ax))))

  module _ (points : List (List ℕ)) (grid : SparseGrid ax points) where
    -- the stencil gives the coefficients back
    stencil_spread : (c : List ℕ → Member) (p : List ℕ) → IsIn p points → stencil G L ax (spread points c) p ≡ doubled G (depth ax laws) (c p)
    unfolding spread
    stencil_spread c p hp =
        let ip = grid.inside p hp in
        stencil_sum G L points ax (λ q y. taken G (fines ax laws q y) (c q)) p
        ∙ sum_ext G L points _ (λ q. taken G (spikes ax laws p q) (c q)) (λ q hq. stencil_dual G L ax laws p q ip (grid.inside q hq) (c q))
        ∙ sum_pick G L points (λ q. taken G (spikes ax laws p q) (c q)) p grid.distinct hp
        (λ q hq n. ap (λ k. taken G k (c q)) (spikes_apart ax laws p q ip (grid.inside q hq) n) ∙ taken_none G L (c q))
        ∙ ap (λ k. taken G k (c p)) (spikes_same ax laws p ip)
        ∙ sym (doubled_taken G L (depth ax laws) (c p))

    -- stencils as coefficients give the function back
    pub rebuild : (m : List ℕ → Member) (p : List ℕ) → IsIn p points → spread points (stencil G L ax m) p ≡ doubled G (depth ax laws) (m p)
    rebuild m p hp =
        let n = depth ax laws in
        let f = spread points (stencil G L ax m) in
        let g : List ℕ → Member = λ q. doubled G n (m q) in
        let h : List ℕ → Member = λ q. f q ⊕ ⊖ (g q) in
        let flat : (q : List ℕ) → IsIn q points → stencil G L ax h q ≡ 𝟎 = λ q hq.
        stencil_plus G L ax f (λ y. ⊖ (g y)) q
        ∙ ap₂ ◌⊕◌ (stencil_spread (stencil G L ax m) q hq)
        (stencil_hom G L ⊖ (minus_hom G L) ax g q ∙ ap ⊖ (stencil_hom G L (doubled G n) (doubled_hom G L n) ax m q))
        ∙ inverse (doubled G n (stencil G L ax m q)) in
        let none = stencil_inj (λ q. IsIn q points) grid.inside (grid_near ax laws points grid) h flat (suc (level_sum ax p)) p hp (omega arith) in
        cancel G L (⊖ (g p)) (f p) (g p) (cc (comm (⊖ (g p)) (f p), none, inverse (g p), comm (g p) (⊖ (g p))))

    -- no other coefficients do
    pub only : (c u : List ℕ → Member) → ((p : List ℕ) → IsIn p points → spread points c p ≡ doubled G (tops ax laws) (u p))
        → (p : List ℕ) → IsIn p points → doubled G (length ax) (c p) ≡ stencil G L ax u p
    only c u e p hp =
        let t = tops ax laws in
        let near = near_map ax (λ q. IsIn q points) _ p e (grid_near ax laws points grid p hp) in
        doubled_inj G L H t _ _ (cc (
          doubled_add G L t (length ax) (c p),
          depth_is ax laws,
          stencil_spread c p hp,
          stencil_near G L ax (spread points c) (λ q. doubled G t (u q)) p near,
          stencil_hom G L (doubled G t) (doubled_hom G L t) ax u p,
        ))
