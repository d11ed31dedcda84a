-- Tables of samples: tests by which one is a sampled grid.
use Rattle.std.proofs.Common.{◌≡◌, ℕ, zero, suc, ◌+◌, ◌≤◌, Bool, true, false, not, ◌&&◌, eqb, leb, List, [], ◌∷◌, pos, refl, inl, inr, arith}
use Rattle.std.specs.List.{list_all, list_any}
use Rattle.std.proofs.lemmas.Int.{ints}
use Rattle.std.proofs.lemmas.Bool.{and_parts, and_from, or_cases, leb-true, not-true, both_ways, cond_both, eqb-true, eq-eqb}
use Rattle.kinds.specs.Halving.{Fits}
use Rattle.kinds.specs.Integers.{integers}
use Rattle.kinds.specs.Numbers.{InRange}
use Rattle.kinds.specs.IntegersLemmas.{integer_numbers}
use Rattle.points.specs.Axis as coordinate
use Rattle.basis.specs.Lists.{IsIn, AllDistinct}
use Rattle.basis.specs.Axis.{directions, axes}
use Rattle.basis.specs.Grid.{Inside, level_sum, parents}
use Rattle.basis.specs.Laws.{Sampled, Shallow}
use Rattle.basis.specs.Examples.{Sample, points_of, same, sample_of}
use Rattle.basis.proofs.Coordinates.{inner_listed}
use Rattle.basis.proofs.Lists.{every_listed, any_has}

-- points told by a test
same_sound : (p q : List ℕ) → same p q ≡ true → p ≡ q
unfolding same
same_sound [] [] t = refl
same_sound [] (j ∷ js) t = cc
same_sound (k ∷ ks) [] t = cc
same_sound (k ∷ ks) (j ∷ js) t = let u = and_parts (eqb k j) (same ks js) t in let e = eqb-true k j u.0 in let f = same_sound ks js u.1 in cc

same_refl : (p : List ℕ) → same p p ≡ true
unfolding same
same_refl [] = refl
same_refl (k ∷ ks) = and_from (eqb k k) (same ks ks) (eq-eqb k k refl) (same_refl ks)

-- p stands in the list
abbrev pub among : List ℕ → List (List ℕ) → Bool
among p qs = list_any (same p) qs

pub among_listed : (p : List ℕ) (qs : List (List ℕ)) → among p qs ≡ true → IsIn p qs
among_listed p [] t = cc
among_listed p (q ∷ qs) t = elim (or_cases (same p q) (among p qs) t) [ inl u ↦ inl (same_sound p q u) | inr u ↦ inr (among_listed p qs u) ]

listed_among : (p : List ℕ) (qs : List (List ℕ)) → IsIn p qs → among p qs ≡ true
listed_among p qs h = any_has (same p) qs p h (same_refl p)

-- no point stands twice
unfoldable pub once : List (List ℕ) → Bool
once [] = true
once (p ∷ ps) = not (among p ps) && once ps

once_distinct : (ps : List (List ℕ)) → once ps ≡ true → AllDistinct ps
unfolding once
once_distinct [] t = tt
once_distinct (p ∷ ps) t =
    let u = and_parts (not (among p ps)) (once ps) t in
    ((λ h. both_ways (among p ps) (not-true (among p ps) u.0) (listed_among p ps h)), once_distinct ps u.1)

-- d inner coordinates
unfoldable pub inner_at : ℕ → List ℕ → Bool
inner_at zero [] = true
inner_at zero (k ∷ ks) = false
inner_at (suc d) [] = false
inner_at (suc d) (k ∷ ks) = coordinate.inner k && inner_at d ks

inner_inside : (d : ℕ) (p : List ℕ) → inner_at d p ≡ true → Inside (axes d) p
unfolding inner_at directions
inner_inside zero [] t = tt
inner_inside zero (k ∷ ks) t = cc
inner_inside (suc d) [] t = cc
inner_inside (suc d) (k ∷ ks) t =
    let u = and_parts (coordinate.inner k) (inner_at d ks) t in
    (inner_listed k u.0, inner_inside d ks u.1)

-- all numbers of a table are in the range of whole numbers
abbrev pub Ranged : List Sample → Type 0
Ranged [] = Unit {0}
Ranged (s ∷ ss) = InRange s.number × Ranged ss

sample_fits : (ss : List Sample) → Ranged ss → (p : List ℕ) → Fits integers (sample_of ss p)
unfolding sample_of
sample_fits [] r p = integer_numbers.fit (pos 0) (record { low = omega (arith, ints); high = omega (arith, ints) })
sample_fits (s ∷ ss) r p = cond_both (same s.point p) _ _ (Fits integers) (λ e. integer_numbers.fit s.number r.0) (λ e. sample_fits ss r.1 p)

-- a table that passes the tests is a sampled grid
module _ (d : ℕ) (ss : List Sample) (most : d + 0 ≤ 4) (ranged : Ranged ss) where
  -- the parents of p are in the table
  abbrev pub closed_at : List ℕ → Bool
  closed_at p = list_all (λ q. among q (points_of ss)) (parents (axes d) p)

  pub sampled : once (points_of ss) ≡ true → list_all (inner_at d) (points_of ss) ≡ true → list_all closed_at (points_of ss) ≡ true → Sampled integers d 0 (points_of ss) (sample_of ss)
  sampled t u v = record {
    most = most;
    grid = record {
      distinct = once_distinct (points_of ss) t;
      inside = λ p h. inner_inside d p (every_listed (inner_at d) (points_of ss) u p h);
      closed = λ p q h m. among_listed q (points_of ss) (every_listed (λ r. among r (points_of ss)) (parents (axes d) p) (every_listed closed_at (points_of ss) v p h) q m);
    };
    fit = λ p h. sample_fits ss ranged p;
  }

  pub shallow : list_all (λ p. leb (level_sum (axes d) p) 16) (points_of ss) ≡ true → Shallow d 0 (points_of ss)
  shallow t p h = leb-true (level_sum (axes d) p) 16 (every_listed (λ q. leb (level_sum (axes d) q) 16) (points_of ss) t p h)
