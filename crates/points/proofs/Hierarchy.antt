-- Levels, parents and children, by tests at the 127 coordinates.
use Rattle.std.proofs.Common.{◌≡◌, ℕ, zero, suc, ◌+◌, ◌^◌, ◌<◌, ◌≤◌, true, false, cond, not, eqb, leb, Some, None, Option, sym, refl, ap, ◌∙◌, subst, inl, inr, pow_pos, arith}
use lib.Count.{count_trailing_zeros}
use Rattle.std.specs.Bool.{then_some}
use Rattle.std.proofs.lemmas.Bool.{not-true, le-leb, lt-leb, and_from, and_right, cases_Bool, ne_eqb, not_from_false}
use Rattle.std.proofs.lemmas.Bool.Decides.{nat_tests}
use Rattle.points.specs.Axis.{zeros, width, level, left, right, inner, above, parent, children}
use Rattle.points.specs.Hierarchy.{OneLevelUp, Among, ChildByParent}
use Rattle.points.proofs.Claims.{Claim, fails, same, at_most, differ, holds, given, also, either, some, any, Means, test, tests, below}

pub inner_bounds : (k : ℕ) → inner k ≡ true → (1 ≤ k) × (k ≤ 127)
inner_bounds k e = grind (arith, nat_tests)

pub bounds_inner : (k : ℕ) → (1 ≤ k) × (k ≤ 127) → inner k ≡ true
bounds_inner k b = grind (arith, nat_tests)

-- no level is above 7
pub level_le : (k : ℕ) → level k ≤ 7
unfolding level
level_le k = omega arith

-- a claim that holds of each inner coordinate
module _ (f : ℕ → Claim) (t : tests 128 (λ k. given (inner k) (f k)) ≡ true) where
  inside : (k : ℕ) → inner k ≡ true → Means (f k)
  inside k e = let b = inner_bounds k e in below 128 (λ j. given (inner j) (f j)) t k (omega (arith, b.1)) e

-- the neighbours are places
abbrev neighbours_fit : ℕ → Claim
neighbours_fit k = also (at_most (zeros k) 6) (also (at_most (width k) k) (at_most (k + width k) 128))

fits : (k : ℕ) → inner k ≡ true → Means (neighbours_fit k)
unfolding test zeros width count_trailing_zeros
fits = inside neighbours_fit refl

pub few_zeros : (k : ℕ) → 1 ≤ k → k ≤ 127 → zeros k ≤ 6
few_zeros k l m = (fits k (bounds_inner k (l, m))).0

pub reach : (k : ℕ) → 1 ≤ k → k ≤ 127 → (width k ≤ k) × (k + width k ≤ 128)
reach k l m = (fits k (bounds_inner k (l, m))).1

-- and only the neighbours of an inner coordinate are
pub right_inside : (k : ℕ) → right k ≤ 128 → inner k ≡ true
unfolding zeros width right count_trailing_zeros
right_inside zero h = absurd (omega arith)
right_inside (suc k) h = let w : 1 ≤ 2 ^ zeros (suc k) = pow_pos (zeros (suc k)) in bounds_inner (suc k) (omega arith, omega arith)

-- a coordinate that is not inner has no inner neighbour
abbrev lone_claim : ℕ → Claim
lone_claim k = given (not (inner k)) (also (holds (not (inner (left k)))) (holds (not (inner (right k)))))

pub lone : (k : ℕ) → k < 256 → inner k ≡ false → (inner (left k) ≡ false) × (inner (right k) ≡ false)
unfolding test zeros width left right count_trailing_zeros
lone k h e = let w = below 256 lone_claim refl k h (ap not e) in (not-true (inner (left k)) w.0, not-true (inner (right k)) w.1)

abbrev deep_claim : ℕ → Claim
deep_claim k = given (not (eqb k 64)) (at_most 2 (level k))

abbrev sole_claim : ℕ → Claim
sole_claim k =
    given (leb 2 (level k)) (some (parent k) (λ q.
    also (holds (inner q)) (also (same (level q + 1) (level k))
    (either (also (same q (left k)) (differ (level (right k) + 1) (level k))) (also (same q (right k)) (differ (level (left k) + 1) (level k)))))))

sole_inside : (k : ℕ) → inner k ≡ true → Means (sole_claim k)
unfolding test zeros width level left right parent count_trailing_zeros
sole_inside = inside sole_claim refl

deep_inside : (k : ℕ) → inner k ≡ true → Means (deep_claim k)
unfolding test zeros width level count_trailing_zeros
deep_inside = inside deep_claim refl

pub one_level_up : OneLevelUp
unfolding zeros width level left right parent count_trailing_zeros
one_level_up =
    record {
      deep = λ k e ne. deep_inside k e (not_from_false (eqb k 64) (ne_eqb k 64 ne));
      sole = λ k e h. let w = sole_inside k e (le-leb 2 (level k) h) in (w.0, w.1, record { inside = w.2.0; higher = w.2.1.0; side = w.2.1.1 });
      top = refl;
    }

-- q is one of the two
abbrev among : ℕ → Option (ℕ × ℕ) → Claim
among q None = fails
among q (Some c) = either (same q c.0) (same q c.1)

among_means : (q : ℕ) (o : Option (ℕ × ℕ)) → Means (among q o) → Among q o
among_means q None w = w
among_means q (Some c) w = w

abbrev only_claim : ℕ → Claim
only_claim q = any (parent q) (λ k. among q (children k))

only_inside : (q : ℕ) → inner q ≡ true → Means (only_claim q)
unfolding test zeros width level left right parent children count_trailing_zeros
only_inside = inside only_claim refl

-- k is the parent of both
abbrev both : ℕ → Option (ℕ × ℕ) → Claim
both k None = same 0 0
both k (Some c) = also (some (parent c.0) (λ p. same p k)) (some (parent c.1) (λ p. same p k))

both_means : (k q : ℕ) (o : Option (ℕ × ℕ)) → Means (both k o) → Among q o → parent q ≡ Some k
both_means k q None w a = absurd a
both_means k q (Some c) w (inl e) = ap parent e ∙ w.0.1 ∙ ap Some w.0.2
both_means k q (Some c) w (inr e) = ap parent e ∙ w.1.1 ∙ ap Some w.1.2

all_inside : (k : ℕ) → inner k ≡ true → Means (both k (children k))
unfolding test zeros width level left right parent children count_trailing_zeros
all_inside = inside (λ k. both k (children k)) refl

-- the border has no parent and no children
pub no_parent : (k : ℕ) → inner k ≡ false → parent k ≡ None
unfolding parent
no_parent k e = rw e

pub no_children : (k : ℕ) → inner k ≡ false → children k ≡ None
unfolding children
no_children k e = rw e

pub child_by_parent : ChildByParent
child_by_parent = record {
  only = λ k q e. elim (cases_Bool (inner q)) [ inl i ↦ among_means q (children k) (only_inside q i k e) | inr i ↦ cc (no_parent q i) ];
  all = λ k q a. elim (cases_Bool (inner k)) [ inl i ↦ both_means k q (children k) (all_inside k i) a | inr i ↦ absurd (subst (Among q) (no_children k i) a) ];
}

-- what the code finds: the parent by the two neighbours, and the children by half the width
pub none_above : (k : ℕ) → level k < 2 → None ≡ parent k
unfolding parent
none_above k h = rw (and_right (inner k) (leb 2 (level k)) (lt-leb 2 (level k) h))

deep_parent : (k : ℕ) → inner k ≡ true → 2 ≤ level k → parent k ≡ Some (cond (above (left k) k) (left k) (right k))
unfolding parent
deep_parent k i h = rw (and_from (inner k) (leb 2 (level k)) i (le-leb 2 (level k) h))

pub found_above : (k x : ℕ) → inner k ≡ true → 2 ≤ level k → x ≡ cond (above (left k) k) (left k) (right k) → then_some (inner x) x ≡ parent k
found_above k x i h e =
    let w = one_level_up.sole k i h in
    let s : x ≡ w.0 = cc (deep_parent k i h, w.1, e) in
    ap (λ b. then_some b x) (ap inner s ∙ w.2.inside) ∙ ap Some s ∙ sym w.1
