-- The two axes are lawful, by tests at all their coordinates.
use Rattle.std.proofs.Common.{◌≡◌, ℕ, zero, suc, ◌+◌, ◌*◌, ◌^◌, ◌<◌, ◌≤◌, true, leb, ◌⊎◌, List, Some, Option, sym, refl, ◌∙◌, subst, inl, inr, arith, sum_by}
use lib.Count.{count_trailing_zeros}
use Rattle.std.proofs.lemmas.Bool.{cases_lt, le-leb}
use Rattle.std.specs.List.{list_all}
use Rattle.std.specs.Option.{option_to_list}
use Rattle.points.specs.Axis as coordinate
use Rattle.points.proofs.Claims.{Claim, same, at_most, holds, given, also, either, some, any, Means, test, sound}
use Rattle.points.proofs.Hierarchy.{inner_bounds, bounds_inner}
use Rattle.basis.proofs.Lists.{every_listed}
use Rattle.basis.specs.Lists.{IsIn, AllDistinct}
use Rattle.basis.specs.Axis.{down_from, zero_border, trivial}
use Rattle.basis.proofs.AxisLaws.{Neighbour, at, fine, spike, Above, Lawful}

-- the numbers from n down to 1, each once
down_only : (n k : ℕ) → IsIn k (down_from n) → (1 ≤ k) × (k ≤ n)
unfolding down_from
down_only zero k h = absurd h
down_only (suc n) k (inl e) = (omega arith, omega arith)
down_only (suc n) k (inr h) = let w = down_only n k h in (w.0, omega (arith, w.1))

down_all : (n k : ℕ) → 1 ≤ k → k ≤ n → IsIn k (down_from n)
unfolding down_from
down_all zero k l h = absurd (omega arith)
down_all (suc n) k l h = elim (cases_lt n k) [ inl e ↦ inl (omega arith) | inr e ↦ inr (down_all n k l e) ]

down_once : (n : ℕ) → AllDistinct (down_from n)
unfolding down_from
down_once zero = tt
down_once (suc n) = ((λ h. let w = (down_only n (suc n) h).1 in omega arith), down_once n)

-- the coordinates of the axis are the inner ones
pub listed_inner : (k : ℕ) → IsIn k zero_border.coords → coordinate.inner k ≡ true
unfolding zero_border
listed_inner k h = let w = down_only 127 k h in bounds_inner k (w.0, w.1)

pub inner_listed : (k : ℕ) → coordinate.inner k ≡ true → IsIn k zero_border.coords
unfolding zero_border
inner_listed k e = let w = inner_bounds k e in down_all 127 k w.0 w.1

-- a claim whose test passes at each number of a list holds there
each : (ks : List ℕ) (f : ℕ → Claim) → list_all (λ k. test (f k)) ks ≡ true → (k : ℕ) → IsIn k ks → Means (f k)
each ks f t k h = sound (f k) (every_listed (λ j. test (f j)) ks t k h)

each_two : (ks : List ℕ) (f : ℕ → ℕ → Claim) → list_all (λ j. list_all (λ k. test (f j k)) ks) ks ≡ true → (j k : ℕ) → IsIn j ks → IsIn k ks → Means (f j k)
each_two ks f t j k hj hk = each ks (f j) (every_listed (λ i. list_all (λ l. test (f i l)) ks) ks t j hj) k hk

-- q is a coordinate of a lower level than k, and n is not 0
abbrev above_claim : ℕ → ℕ → ℕ → Claim
above_claim k q n = also (holds (coordinate.inner q)) (also (at_most 1 n) (at_most (suc (coordinate.level q)) (coordinate.level k)))

-- the hat of a neighbour reaches here
abbrev neighbour_claim : ℕ → ℕ → Claim
neighbour_claim k j = above_claim k j (zero_border.numerator j k)

-- the width is at most 2^6, and both neighbours are above
abbrev one_claim : ℕ → Claim
one_claim k = also (at_most (coordinate.zeros k) 6) (also (any (zero_border.left k) (neighbour_claim k)) (any (zero_border.right k) (neighbour_claim k)))

-- the second difference of a hat is a spike
abbrev dual_claim : ℕ → ℕ → Claim
dual_claim j k = same (2 * fine zero_border 6 j k) (at (zero_border.left k) (fine zero_border 6 j) + at (zero_border.right k) (fine zero_border 6 j) + spike 6 k j)

-- the hat of j is that of k, or reaches the parent of k too
abbrev parent_claim : ℕ → ℕ → Claim
parent_claim j k = either (same j k) (some (coordinate.parent k) (λ q. above_claim k q (zero_border.numerator j q)))

-- the same where the hat of j reaches k
abbrev climb_claim : ℕ → ℕ → Claim
climb_claim j k = given (leb 1 (zero_border.numerator j k)) (parent_claim j k)

-- the sum of a hat over all coordinates
abbrev whole_claim : ℕ → Claim
whole_claim k = same (sum_by (λ y. 1 * fine zero_border 6 k y) zero_border.coords * 2 ^ coordinate.level k) (2 ^ 13)

-- the claims hold, by computation
one_holds : (k : ℕ) → IsIn k zero_border.coords → Means (one_claim k)
unfolding zero_border down_from test coordinate.zeros coordinate.width coordinate.level coordinate.left coordinate.right count_trailing_zeros
one_holds = each zero_border.coords one_claim refl

dual_holds : (j k : ℕ) → IsIn j zero_border.coords → IsIn k zero_border.coords → Means (dual_claim j k)
unfolding zero_border down_from test fine spike coordinate.zeros coordinate.width coordinate.left coordinate.right count_trailing_zeros
dual_holds = each_two zero_border.coords dual_claim refl

climb_holds : (j k : ℕ) → IsIn j zero_border.coords → IsIn k zero_border.coords → Means (climb_claim j k)
unfolding zero_border down_from test coordinate.zeros coordinate.width coordinate.level coordinate.left coordinate.right coordinate.parent count_trailing_zeros
climb_holds = each_two zero_border.coords climb_claim refl

whole_holds : (k : ℕ) → IsIn k zero_border.coords → Means (whole_claim k)
unfolding zero_border down_from test fine coordinate.zeros coordinate.width coordinate.level count_trailing_zeros
whole_holds = each zero_border.coords whole_claim refl

-- what a test says of one neighbour
neighbour_at : (k j : ℕ) → IsIn k zero_border.coords → Neighbour zero_border k j → Means (neighbour_claim k j)
neighbour_at k j h (inl e) = (one_holds k h).1.0 j e
neighbour_at k j h (inr e) = (one_holds k h).1.1 j e

listed_parent : (o : Option ℕ) (q : ℕ) → o ≡ Some q → IsIn q (option_to_list o)
listed_parent o q e = subst (λ p. IsIn q (option_to_list p)) (sym e) (inl refl)

climb_at : (j k : ℕ) → IsIn j zero_border.coords → IsIn k zero_border.coords → 0 < zero_border.numerator j k → (j ≡ k) ⊎ Above zero_border j k
unfolding zero_border
climb_at j k hj hk h = elim (climb_holds j k hj hk (le-leb 1 (zero_border.numerator j k) h)) [
  | inl e ↦ inl e
  | inr w ↦ inr (record { up = w.0; is_parent = listed_parent (coordinate.parent k) w.0 w.1; listed = inner_listed w.0 w.2.0; under = w.2.1.0; higher = w.2.1.1 })
]

pub zero_border_lawful : Lawful zero_border
unfolding zero_border
zero_border_lawful = record {
  distinct = down_once 127;
  top = 6;
  narrow = λ k h. (one_holds k h).0;
  dual = λ k j h g. dual_holds j k g h;
  lower = λ k j h n. (neighbour_at k j h n).1.1;
  near = λ k j h n. let w = neighbour_at k j h n in (inner_listed j w.0, w.1.0);
  climb = climb_at;
  share = λ y. 1;
  unit = 7;
  whole = whole_holds;
}

-- the figures of these laws
pub zero_border_figures : (zero_border_lawful.top ≡ 6) × (zero_border_lawful.unit ≡ 7) × ((y : ℕ) → zero_border_lawful.share y ≡ 1)
unfolding zero_border_lawful
zero_border_figures = (refl, refl, λ y. refl)

-- the only coordinate of the trivial axis
pub listed_zero : (k : ℕ) → IsIn k trivial.coords → k ≡ 0
unfolding trivial
listed_zero k (inl e) = e
listed_zero k (inr h) = absurd h

pub zero_listed : (k : ℕ) → k ≡ 0 → IsIn k trivial.coords
unfolding trivial
zero_listed k e = inl e

-- which has no neighbours
alone : (k j : ℕ) → Neighbour trivial k j → ⊥
unfolding trivial
alone k j (inl e) = cc
alone k j (inr e) = cc

trivial_dual : (k j : ℕ) → k ≡ 0 → j ≡ 0 → 2 * fine trivial 0 j k ≡ at (trivial.left k) (fine trivial 0 j) + at (trivial.right k) (fine trivial 0 j) + spike 0 k j
unfolding trivial fine spike
trivial_dual k j e f = rw (e, f)

trivial_whole : (k : ℕ) → k ≡ 0 → sum_by (λ y. 1 * fine trivial 0 k y) trivial.coords * 2 ^ trivial.scale k ≡ 1
unfolding trivial fine
trivial_whole k e = rw e

pub trivial_lawful : Lawful trivial
trivial_lawful = record {
  distinct = unfold trivial in ((λ h. h), tt);
  top = 0;
  narrow = λ k h. unfold trivial in omega arith;
  dual = λ k j h g. trivial_dual k j (listed_zero k h) (listed_zero j g);
  lower = λ k j h n. absurd (alone k j n);
  near = λ k j h n. absurd (alone k j n);
  climb = λ j k h g l. inl (listed_zero j h ∙ sym (listed_zero k g));
  share = λ y. 1;
  unit = 0;
  whole = λ k h. trivial_whole k (listed_zero k h);
}

pub trivial_figures : (trivial_lawful.top ≡ 0) × (trivial_lawful.unit ≡ 0) × ((y : ℕ) → trivial_lawful.share y ≡ 1)
unfolding trivial_lawful
trivial_figures = (refl, refl, λ y. refl)
