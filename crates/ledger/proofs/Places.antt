-- Points as numbers and as coordinates on four axes.
use Rattle.std.proofs.Common.{◌≡◌, ℕ, zero, suc, ◌-◌, ◌^◌, ◌<◌, ◌≤◌, true, List, [], ◌∷◌, map, take, Some, None, Option, sym, ap, ◌∙◌, subst, inl, inr, arith}
use Rattle.std.proofs.lemmas.List.Elements.{All-weaker}
use Rattle.std.proofs.lemmas.List.Sums.{AllPass-from_list_all, list_all-from_AllPass}
use Rattle.std.proofs.lemmas.Bool.Decides.{nat_tests}
use Rattle.std.specs.List.{list_all}
use Rattle.std.specs.Option.{option_to_list}
use Rattle.std.proofs.lemmas.Bool.{cases_lt, and_parts, and_from}
use Rattle.points.specs.Axis as coordinate
use Rattle.points.specs.Points.{coords, number, is_point, is_place}
use Rattle.points.proofs.Points.{numbered}
use Rattle.points.proofs.Hierarchy.{none_above, one_level_up}
use Rattle.basis.specs.Lists.{IsIn}
use Rattle.basis.specs.Axis.{zero_border, trivial, directions, four_axes}
use Rattle.basis.specs.Grid.{Inside, places, parents}
use Rattle.basis.specs.Shapes.{InnerPlaces}
use Rattle.basis.proofs.Lists.{listed_map, map_listed, listed_split, distinct_map}
use Rattle.std.proofs.lemmas.List.{length-map}
use Rattle.basis.proofs.Coordinates.{listed_inner, inner_listed}
use Rattle.basis.proofs.Counts as counts
use Rattle.basis.proofs.Numbers.{numbers_agree}
use Rattle.ledger.specs.Ledger.{inner_places}
use Rattle.ledger.specs.Numbers.{ListedPoints}

-- four coordinates make a number of 32 bits
number_small : (n : ℕ) → number (coords n) < 2 ^ 32
unfolding number coords
number_small n = omega arith

wider : (k : ℕ) → coordinate.inner k ≡ true → coordinate.within 0 128 k ≡ true
wider k i = grind (arith, nat_tests)

-- a point is a place
pub point_place : (d p : ℕ) → is_point d p ≡ true → is_place d p ≡ true
unfolding is_point is_place
point_place d p e =
    let used = take d (coords p) in
    let w = and_parts (list_all coordinate.inner used) _ e in
    and_from (list_all (coordinate.within 0 128) used) _
    (list_all-from_AllPass (coordinate.within 0 128) used (All-weaker (λ k. coordinate.inner k ≡ true) (λ k. coordinate.within 0 128 k ≡ true) wider used (AllPass-from_list_all coordinate.inner used w.0)))
    w.1

-- the parent of an inner coordinate is inner
parent_inner : (k j : ℕ) → coordinate.inner k ≡ true → coordinate.parent k ≡ Some j → coordinate.inner j ≡ true
parent_inner k j i e = elim (cases_lt (coordinate.level k) 2) [ inl l ↦ let n = none_above k l in cc | inr l ↦ let w = one_level_up.sole k i l in let p = w.1 in let s : j ≡ w.0 = cc in ap coordinate.inner s ∙ w.2.inside ]

parent_listed : (k j : ℕ) → IsIn k zero_border.coords → IsIn j (option_to_list (coordinate.parent k)) → IsIn j zero_border.coords
parent_listed k j h m = inner_listed j (parent_inner k j (listed_inner k h) (held (coordinate.parent k) m))
  where
    held : (o : Option ℕ) → IsIn j (option_to_list o) → o ≡ Some j
    held None n = absurd n
    held (Some i) (inl e) = ap Some (sym e)
    held (Some i) (inr n) = absurd n

-- a parent of a point has coordinates of the axes
parents_inside : (d n : ℕ) (ks r : List ℕ) → Inside (directions d n) ks → IsIn r (parents (directions d n) ks) → Inside (directions d n) r
unfolding directions parents zero_border trivial
parents_inside zero zero ks r i h = absurd h
parents_inside zero (suc n) [] r i h = absurd h
parents_inside zero (suc n) (k ∷ ks) r i h =
    let w = map_listed (λ q. k ∷ q) r (parents (directions zero n) ks) h in
    subst (Inside (directions zero (suc n))) (sym w.2) (i.0, parents_inside zero n ks w.0 i.1 w.1)
parents_inside (suc d) n [] r i h = absurd h
parents_inside (suc d) n (k ∷ ks) r i h = elim (listed_split r (map (λ j. j ∷ ks) (option_to_list (coordinate.parent k))) (map (λ q. k ∷ q) (parents (directions d n) ks)) h) [
  | inl m ↦ let w = map_listed (λ j. j ∷ ks) r (option_to_list (coordinate.parent k)) m in
      subst (Inside (directions (suc d) n)) (sym w.2) (parent_listed k w.0 i.0 w.1, i.1)
  | inr m ↦ let w = map_listed (λ q. k ∷ q) r (parents (directions d n) ks) m in
      subst (Inside (directions (suc d) n)) (sym w.2) (i.0, parents_inside d n ks w.0 i.1 w.1)
]

pub parent_inside : (d : ℕ) (q r : List ℕ) → Inside (four_axes d) q → IsIn r (parents (four_axes d) q) → Inside (four_axes d) r
parent_inside d q r i h = parents_inside d (4 - d) q r i h

-- the inner places by number
pub listed_points : (d : ℕ) → d ≤ 4 → ListedPoints d
unfolding inner_places
listed_points d low = record {
  all = λ p h e. subst (λ n. IsIn n (map number (places (four_axes d)))) (numbered.back p h) (listed_map number (coords p) (places (four_axes d)) (inner.all (coords p) ((numbers_agree d low).inside p e)));
  only = λ p h.
      let w = map_listed number p (places (four_axes d)) h in
      let i = inner.only w.0 w.1 in (
        subst (λ n. n < 2 ^ 32) (ap number ((numbers_agree d low).back w.0 i) ∙ sym w.2) (number_small (number w.0)),
        ap (is_point d) w.2 ∙ (numbers_agree d low).is_point w.0 i,
      );
  once = distinct_map number (places (four_axes d)) (λ a b h k e. sym (back a h) ∙ ap coords e ∙ back b k) inner.distinct;
  many = length-map (places (four_axes d)) number ∙ inner.count;
}
  where
    inner : InnerPlaces d (4 - d)
    inner = counts.inner_places d (4 - d)

    back : (q : List ℕ) → IsIn q (places (four_axes d)) → coords (number q) ≡ q
    back q m = (numbers_agree d low).back q (inner.only q m)
