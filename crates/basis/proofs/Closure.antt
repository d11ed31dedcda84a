-- A set that has each point's parents has each place of a point's stencil, and these are of lower levels.
use Rattle.std.proofs.Common.{ℕ, zero, suc, ◌+◌, ◌<◌, ◌≤◌, List, [], ◌∷◌, map, sym, subst, inl, inr, not-suc-le-zero, arith}
use Rattle.basis.specs.Lists.{IsIn}
use Rattle.basis.specs.Axis.{Axis}
use Rattle.basis.specs.Grid.{Inside, total, level_sum, parents, Closed, SparseGrid}
use Rattle.basis.proofs.Lists.{listed_left, listed_right, listed_map}
use Rattle.basis.proofs.AxisLaws.{Lawful, AllLawful}
use Rattle.basis.proofs.Stencil.{Near, Around, near_map, around_map}

-- in one direction, a set that has parents has each coordinate whose hat is not zero at one of its own
ancestor : (a : Axis) → Lawful a → (In : ℕ → Type 0) → ((k j : ℕ) → In k → IsIn j (a.parents k) → In j) → (j : ℕ) → IsIn j a.coords
    → (n k : ℕ) → a.level k < n → IsIn k a.coords → In k → 0 < a.numerator j k → In j
ancestor a laws In up j hj zero k l hk ik h = absurd (not-suc-le-zero l)
ancestor a laws In up j hj (suc n) k l hk ik h = elim (laws.climb j k hj hk h) [
  | inl e ↦ subst In (sym e) ik
  | inr w ↦ ancestor a laws In up j hj n w.up (omega (arith, w.higher)) w.listed (up k w.up ik w.is_parent) w.under
]

pub closed_near : (ax : List Axis) → AllLawful ax → (In : List ℕ → Type 0) → ((p : List ℕ) → In p → Inside ax p) → Closed ax In → (p : List ℕ) → In p → Near ax In p
unfolding parents
closed_near [] laws In ins up [] ip = ip
closed_near [] laws In ins up (k ∷ ks) ip = tt
closed_near (a ∷ ax) laws In ins up [] ip = tt
closed_near (a ∷ ax) laws In ins up (k ∷ ks) ip =
    let first : (c j : ℕ) → In (c ∷ ks) → IsIn j (a.parents c) → In (j ∷ ks) =
    λ c j i h. up (c ∷ ks) (j ∷ ks) i (listed_left (j ∷ ks) (map (λ b. b ∷ ks) (a.parents c)) _ (listed_map (λ b. b ∷ ks) j (a.parents c) h)) in
    let rest : (b : ℕ) → In (b ∷ ks) → Near ax (λ q. In (b ∷ q)) ks =
    λ b ib. closed_near ax laws.1 (λ q. In (b ∷ q)) (λ q i. (ins (b ∷ q) i).1)
    (λ p q i h. up (b ∷ p) (b ∷ q) i (listed_right (b ∷ q) (map (λ c. c ∷ p) (a.parents b)) _ (listed_map (λ r. b ∷ r) q (parents ax p) h))) ks ib in
    let hk = (ins (k ∷ ks) ip).0 in (
      rest k ip,
      λ j t. let w = laws.0.near k j hk t in
          rest j (ancestor a laws.0 (λ c. In (c ∷ ks)) first j w.0 (suc (a.level k)) k (omega arith) hk ip w.1),
    )

-- so a grid has each place of a point's stencil
pub grid_near : (ax : List Axis) → AllLawful ax → (points : List (List ℕ)) → SparseGrid ax points → (p : List ℕ) → IsIn p points → Near ax (λ q. IsIn q points) p
grid_near ax laws points grid p hp = closed_near ax laws (λ q. IsIn q points) grid.inside grid.closed p hp

-- the places of a stencil are of lower levels than its middle
lower_near : (ax : List Axis) → AllLawful ax → (p : List ℕ) → Inside ax p → Near ax (λ q. level_sum ax q ≤ level_sum ax p) p
unfolding total
lower_near [] laws [] i = omega arith
lower_near [] laws (k ∷ ks) i = absurd i
lower_near (a ∷ ax) laws [] i = absurd i
lower_near (a ∷ ax) laws (k ∷ ks) i =
    let here = lower_near ax laws.1 ks i.1 in
    let by : (j : ℕ) → a.level j ≤ a.level k → Near ax (λ q. a.level j + level_sum ax q ≤ a.level k + level_sum ax ks) ks =
    λ j l. near_map ax (λ q. level_sum ax q ≤ level_sum ax ks) _ ks (λ q h. omega arith) here in
    (by k (omega arith), λ j t. by j (omega (arith, laws.0.lower k j i.0 t)))

pub lower_around : (ax : List Axis) → AllLawful ax → (p : List ℕ) → Inside ax p → Around ax (λ q. level_sum ax q < level_sum ax p) p
unfolding total
lower_around [] laws p i = tt
lower_around (a ∷ ax) laws [] i = tt
lower_around (a ∷ ax) laws (k ∷ ks) i =
    let by : (j : ℕ) → a.level j < a.level k → Near ax (λ q. a.level j + level_sum ax q < a.level k + level_sum ax ks) ks =
    λ j l. near_map ax (λ q. level_sum ax q ≤ level_sum ax ks) _ ks (λ q h. omega arith) (lower_near ax laws.1 ks i.1) in (
      around_map ax (λ q. level_sum ax q < level_sum ax ks) _ ks (λ q h. omega arith) (lower_around ax laws.1 ks i.1),
      λ j t. by j (laws.0.lower k j i.0 t),
    )
