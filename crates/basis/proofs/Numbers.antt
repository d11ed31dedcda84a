-- Points as numbers and as four coordinates.
use Rattle.std.proofs.Common.{◌≡◌, ℕ, zero, suc, ◌+◌, ◌-◌, ◌<◌, ◌≤◌, Bool, true, ◌&&◌, eqb, List, [], ◌∷◌, ◌++◌, map, length, take, drop, Some, None, sum_by, Option, sym, refl, ap, ◌∙◌, ap₂, arith}
use mathlib.Core.List.{map-map, map-append}
use Rattle.std.specs.Option.{option_map, option_to_list}
use Rattle.std.specs.List.{list_all, AllByRecursion}
use Rattle.std.proofs.lemmas.List.Sums.{sum_by-cons}
use Rattle.std.proofs.lemmas.Bool.{and_parts, and_from, eqb-true, eq-eqb}
use Rattle.points.specs.Axis as coordinate
use Rattle.points.specs.Points as numbers
use Rattle.points.proofs.Hierarchy.{no_parent, inner_bounds}
use Rattle.points.proofs.Points as points
use Rattle.basis.specs.Axis.{zero_border, trivial, directions}
use Rattle.basis.specs.Grid.{Inside, total, level_sum, parents}
use Rattle.basis.specs.Numbers.{NumbersAgree}
use Rattle.basis.proofs.Coordinates.{listed_inner, inner_listed, listed_zero, zero_listed}

-- all are 0
abbrev zeros : List ℕ → Bool
zeros ks = list_all (λ k. eqb k 0) ks

-- used coordinates that are inner, and others that are 0
shaped_inside : (d n : ℕ) (ks : List ℕ) → length ks ≡ d + n → list_all coordinate.inner (take d ks) ≡ true → zeros (drop d ks) ≡ true → Inside (directions d n) ks
unfolding directions
shaped_inside zero zero [] e t z = tt
shaped_inside zero zero (k ∷ ks) e t z = absurd (omega arith)
shaped_inside zero (suc n) [] e t z = absurd (omega arith)
shaped_inside zero (suc n) (k ∷ ks) e t z =
    let u = and_parts (eqb k 0) (zeros ks) z in
    (zero_listed k (eqb-true k 0 u.0), shaped_inside zero n ks (omega arith) t u.1)
shaped_inside (suc d) n [] e t z = absurd (omega arith)
shaped_inside (suc d) n (k ∷ ks) e t z =
    let u = and_parts (coordinate.inner k) (list_all coordinate.inner (take d ks)) t in
    (inner_listed k u.0, shaped_inside d n ks (omega arith) u.1 z)

-- what is known of coordinates of the axes
record Shaped (d n : ℕ) (ks : List ℕ) : Type 0 where
  used : list_all coordinate.inner (take d ks) ≡ true
  unused : zeros (drop d ks) ≡ true
  count : length ks ≡ d + n
  bytes : AllByRecursion (λ k. k < 256) ks

inside_shaped : (d n : ℕ) (ks : List ℕ) → Inside (directions d n) ks → Shaped d n ks
unfolding directions
inside_shaped zero zero [] i = record { used = refl; unused = refl; count = refl; bytes = tt }
inside_shaped zero zero (k ∷ ks) i = absurd i
inside_shaped zero (suc n) [] i = absurd i
inside_shaped zero (suc n) (k ∷ ks) i =
    let w = inside_shaped zero n ks i.1 in
    let z = listed_zero k i.0 in
    record { used = refl; unused = and_from (eqb k 0) _ (eq-eqb k 0 z) w.unused; count = omega (arith, w.count); bytes = (omega (arith, z), w.bytes) }
inside_shaped (suc d) n [] i = absurd i
inside_shaped (suc d) n (k ∷ ks) i =
    let w = inside_shaped d n ks i.1 in
    let inner = listed_inner k i.0 in
    record { used = and_from (coordinate.inner k) _ inner w.used; unused = w.unused; count = omega (arith, w.count); bytes = (omega (arith, (inner_bounds k inner).1), w.bytes) }

-- f of each coordinate's parents in its place
chain : (List ℕ → ℕ) → List ℕ → List ℕ
chain f [] = []
chain f (k ∷ ks) = map (λ j. f (j ∷ ks)) (option_to_list (coordinate.parent k)) ++ chain (λ q. f (k ∷ q)) ks

parents_chain : (d n : ℕ) (f : List ℕ → ℕ) (ks : List ℕ) → Inside (directions d n) ks → map f (parents (directions d n) ks) ≡ chain f ks
unfolding directions parents chain zero_border trivial
parents_chain zero zero f [] i = refl
parents_chain zero zero f (k ∷ ks) i = absurd i
parents_chain zero (suc n) f [] i = absurd i
parents_chain zero (suc n) f (k ∷ ks) i =
    map-map f (λ q. k ∷ q) (parents (directions zero n) ks) ∙ parents_chain zero n (λ q. f (k ∷ q)) ks i.1
    ∙ ap (λ o. map (λ j. f (j ∷ ks)) (option_to_list o) ++ chain (λ q. f (k ∷ q)) ks) (sym (no_parent k (ap coordinate.inner (listed_zero k i.0))))
parents_chain (suc d) n f [] i = absurd i
parents_chain (suc d) n f (k ∷ ks) i =
    map-append f (map (λ j. j ∷ ks) (option_to_list (coordinate.parent k))) (map (λ q. k ∷ q) (parents (directions d n) ks))
    ∙ ap₂ ◌++◌ (map-map f (λ j. j ∷ ks) (option_to_list (coordinate.parent k)))
    (map-map f (λ q. k ∷ q) (parents (directions d n) ks) ∙ parents_chain d n (λ q. f (k ∷ q)) ks i.1)

listed_mapped : {X Y : Type 0} (g : X → Y) (o : Option X) → option_to_list (option_map g o) ≡ map g (option_to_list o)
listed_mapped g None = refl
listed_mapped g (Some x) = refl

-- the parents in one direction
in_place : (i p : ℕ) → map (numbers.replaced i p) (option_to_list (coordinate.parent (numbers.coord_in i p))) ≡ option_to_list (numbers.parent_in i p)
unfolding numbers.parent_in
in_place i p = sym (listed_mapped (numbers.replaced i p) (coordinate.parent (numbers.coord_in i p)))

chain_parents : (p : ℕ) → chain numbers.number (numbers.coords p) ≡ numbers.parents p
unfolding chain numbers.parents numbers.replaced numbers.coords
chain_parents p = ap₂ ◌++◌ (in_place 0 p) (ap₂ ◌++◌ (in_place 1 p) (ap₂ ◌++◌ (in_place 2 p) (ap₂ ◌++◌ (in_place 3 p) refl)))

point_inside : (d p : ℕ) → d ≤ 4 → numbers.is_point d p ≡ true → Inside (directions d (4 - d)) (numbers.coords p)
unfolding numbers.is_point
point_inside d p l e =
    let u = and_parts (list_all coordinate.inner (take d (numbers.coords p))) _ e in
    shaped_inside d (4 - d) (numbers.coords p) (omega (arith, points.coords_length p)) u.0 u.1

levels_used : (d n : ℕ) (ks : List ℕ) → length ks ≡ d + n → level_sum (directions d n) ks ≡ sum_by coordinate.level (take d ks)
unfolding directions total zero_border trivial
levels_used zero zero ks e = refl
levels_used zero (suc n) [] e = refl
levels_used zero (suc n) (k ∷ ks) e = omega (arith, levels_used zero n ks (omega arith))
levels_used (suc d) n [] e = refl
levels_used (suc d) n (k ∷ ks) e = ap (λ m. coordinate.level k + m) (levels_used d n ks (omega arith)) ∙ sym (sum_by-cons coordinate.level k (take d ks))

pub numbers_agree : NumbersAgree
unfolding numbers.is_point numbers.level_sum
numbers_agree d l = record {
  inside = λ p e. point_inside d p l e;
  is_point = λ q i. let w = inside_shaped d (4 - d) q i in ap (λ ks. list_all coordinate.inner (take d ks) && zeros (drop d ks)) (coords_back q i) ∙ and_from _ _ w.used w.unused;
  back = coords_back;
  levels = λ p. levels_used d (4 - d) (numbers.coords p) (omega (arith, points.coords_length p));
  parents_of = λ p e. parents_chain d (4 - d) numbers.number (numbers.coords p) (point_inside d p l e) ∙ chain_parents p;
}
  where
    coords_back : (q : List ℕ) → Inside (directions d (4 - d)) q → numbers.coords (numbers.number q) ≡ q
    coords_back q i = let w = inside_shaped d (4 - d) q i in (points.numbered).again q (omega (arith, w.count)) w.bytes
