-- The directions of a grid: d that are used, and n that are not.
use Rattle.std.proofs.Common.{◌≡◌, ℕ, zero, suc, ◌+◌, ◌*◌, ◌≤◌, List, [], ◌∷◌, length, Some, None, Option, refl, ap, ap₂, arith, length-append}
use Rattle.std.proofs.lemmas.List.{length-replicate}
use Rattle.basis.specs.Axis.{zero_border, trivial, directions}
use Rattle.basis.specs.Grid.{total, level_sum, scales}
use Rattle.basis.proofs.AxisLaws.{AllLawful}
use Rattle.basis.proofs.Coordinates.{zero_border_lawful, zero_border_figures, trivial_lawful, trivial_figures}
use Rattle.basis.proofs.Hats.{tops}
use Rattle.basis.proofs.Roots.{step, steps}
use Rattle.basis.proofs.Masses.{shares, units}

pub lawful : (d n : ℕ) → AllLawful (directions d n)
unfolding directions
lawful zero zero = tt
lawful zero (suc n) = (trivial_lawful, lawful zero n)
lawful (suc d) n = (zero_border_lawful, lawful d n)

pub tops_of : (d n : ℕ) → tops (directions d n) (lawful d n) ≡ 6 * d
unfolding directions tops lawful
tops_of zero zero = refl
tops_of zero (suc n) = omega (arith, tops_of zero n, trivial_figures.0)
tops_of (suc d) n = omega (arith, tops_of d n, zero_border_figures.0)

pub units_of : (d n : ℕ) → units (directions d n) (lawful d n) ≡ 7 * d
unfolding directions units lawful
units_of zero zero = refl
units_of zero (suc n) = omega (arith, units_of zero n, trivial_figures.1)
units_of (suc d) n = omega (arith, units_of d n, zero_border_figures.1)

pub length_of : (d n : ℕ) → length (directions d n) ≡ d + n
unfolding directions
length_of d n = simp (length-append, length-replicate)

pub shares_one : (d n : ℕ) (y : List ℕ) → shares (directions d n) (lawful d n) y ≡ 1
unfolding directions shares lawful
shares_one zero zero y = refl
shares_one zero (suc n) [] = refl
shares_one zero (suc n) (k ∷ ks) = ap₂ ◌*◌ (trivial_figures.2 k) (shares_one zero n ks)
shares_one (suc d) n [] = refl
shares_one (suc d) n (k ∷ ks) = ap₂ ◌*◌ (zero_border_figures.2 k) (shares_one d n ks)

pub scales_levels : (d n : ℕ) (q : List ℕ) → scales (directions d n) q ≡ level_sum (directions d n) q
unfolding directions total zero_border trivial
scales_levels zero zero q = refl
scales_levels zero (suc n) [] = refl
scales_levels zero (suc n) (k ∷ ks) = ap (λ m. 0 + m) (scales_levels zero n ks)
scales_levels (suc d) n [] = refl
scales_levels (suc d) n (k ∷ ks) = ap (λ m. zero_border.level k + m) (scales_levels d n ks)

-- a direction in use has a neighbour at most, and its width is at most 2^6
step_one : (l r : Option ℕ) → step l r ≤ 1
step_one None None = omega arith
step_one None (Some j) = omega arith
step_one (Some i) r = omega arith

pub steps_used : (d n : ℕ) (q : List ℕ) → steps (directions d n) q ≤ d
unfolding directions total trivial
steps_used zero zero q = omega arith
steps_used zero (suc n) [] = omega arith
steps_used zero (suc n) (k ∷ ks) = omega (arith, steps_used zero n ks)
steps_used (suc d) n [] = omega arith
steps_used (suc d) n (k ∷ ks) = omega (arith, step_one (zero_border.left k) (zero_border.right k), steps_used d n ks)
