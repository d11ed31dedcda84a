-- Exponents and numerators, one direction after the other, and how large they can be.
use Rattle.std.proofs.Common.{◌≡◌, ℕ, zero, suc, ◌+◌, ◌-◌, ◌*◌, ◌^◌, ◌≤◌, Bool, true, eqb, List, [], ◌∷◌, length, take, drop, map, sum_by, sym, refl, ap, ◌∙◌, subst, le_trans, mul-le-mul, arith, pow_mono, pow-add}
use lib.Count.{trailing_le}
use Rattle.std.proofs.lemmas.Bool.{and_parts, eqb-true}
use Rattle.std.proofs.lemmas.List.Sums.{sum_by-cons}
use Rattle.points.specs.Axis as coordinate
use Rattle.std.specs.List.{list_all, fold, zip}
use Rattle.points.specs.Points.{coords, is_point, is_place}
use Rattle.points.proofs.Points.{coords_length}
use Rattle.basis.specs.Axis.{zero_border, trivial, directions, axes, four_axes}
use Rattle.hats.proofs.Products.{fold_times}
use Rattle.basis.specs.Grid.{total, exponents, numerators}

-- all coordinates from the direction d on are 0
abbrev unused : ℕ → List ℕ → Bool
unused d p = list_all (λ k. eqb k 0) (drop d p)

-- a hat is at most 1
pub hats_at_most_one : (d n : ℕ) (p y : List ℕ) → numerators (directions d n) p y ≤ 2 ^ exponents (directions d n) p
unfolding directions numerators total zero_border trivial coordinate.width
hats_at_most_one zero zero p y = omega arith
hats_at_most_one zero (suc n) [] y = omega arith
hats_at_most_one zero (suc n) (k ∷ ks) [] = omega arith
hats_at_most_one zero (suc n) (k ∷ ks) (j ∷ js) =
    subst (λ m. trivial.numerator k j * numerators (directions zero n) ks js ≤ m) (sym (pow-add 2 0 (exponents (directions zero n) ks)))
    (mul-le-mul (let h : trivial.numerator k j ≤ 1 = omega arith in h) (hats_at_most_one zero n ks js))
hats_at_most_one (suc d) n [] y = omega arith
hats_at_most_one (suc d) n (k ∷ ks) [] = omega arith
hats_at_most_one (suc d) n (k ∷ ks) (j ∷ js) =
    subst (λ m. zero_border.numerator k j * numerators (directions d n) ks js ≤ m) (sym (pow-add 2 (coordinate.zeros k) (exponents (directions d n) ks)))
    (mul-le-mul (let h : zero_border.numerator k j ≤ 2 ^ coordinate.zeros k = omega arith in h) (hats_at_most_one d n ks js))

-- a byte has at most 8 zero bits below a one bit
pub exponent_small : (k : ℕ) → zero_border.exponent k ≤ 8
unfolding zero_border coordinate.zeros
exponent_small k = trailing_le 8 k

-- so those of d coordinates together are at most 8 * d, and the numerators of at most four multiplied at most 2^32
pub exponents_small : (d : ℕ) (p : List ℕ) → exponents (axes d) p ≤ 8 * d
unfolding directions total
exponents_small zero p = omega arith
exponents_small (suc d) [] = omega arith
exponents_small (suc d) (k ∷ ks) = omega (arith, exponent_small k, exponents_small d ks)

pub numerators_small : (d : ℕ) (p y : List ℕ) → d ≤ 4 → numerators (axes d) p y ≤ 2 ^ 32
numerators_small d p y h =
    let few : exponents (axes d) p ≤ 32 = omega (arith, exponents_small d p) in
    le_trans (hats_at_most_one d 0 p y) (pow_mono few)

-- over used directions alone they are a sum and a product
pub exponents_used : (d : ℕ) (p : List ℕ) → d ≤ length p → exponents (axes d) (take d p) ≡ sum_by zero_border.exponent (take d p)
unfolding directions total
exponents_used zero p h = refl
exponents_used (suc d) [] h = absurd (omega arith)
exponents_used (suc d) (k ∷ ks) h = ap (λ m. zero_border.exponent k + m) (exponents_used d ks (omega arith)) ∙ sym (sum_by-cons zero_border.exponent k (take d ks))

pub numerators_used : (d : ℕ) (p y : List ℕ) → d ≤ length p → d ≤ length y
    → numerators (axes d) (take d p) (take d y) ≡ fold ◌*◌ 1 (map (λ q. zero_border.numerator q.0 q.1) (zip (take d p) (take d y)))
unfolding directions numerators
numerators_used zero p y h g = refl
numerators_used (suc d) [] y h g = absurd (omega arith)
numerators_used (suc d) (k ∷ ks) [] h g = absurd (omega arith)
numerators_used (suc d) (k ∷ ks) (j ∷ js) h g =
    let rest = map (λ q. zero_border.numerator q.0 q.1) (zip (take d ks) (take d js)) in
    let one : 1 * zero_border.numerator k j ≡ zero_border.numerator k j = omega arith in
    cc (numerators_used d ks js (omega arith) (omega arith), fold_times (zero_border.numerator k j) rest)

-- directions that are not used change nothing
pub exponents_padded : (d n : ℕ) (p : List ℕ) → exponents (directions d n) p ≡ exponents (axes d) (take d p)
unfolding directions total trivial
exponents_padded zero zero p = refl
exponents_padded zero (suc n) [] = refl
exponents_padded zero (suc n) (k ∷ ks) = omega (arith, exponents_padded zero n ks)
exponents_padded (suc d) n [] = refl
exponents_padded (suc d) n (k ∷ ks) = ap (λ m. zero_border.exponent k + m) (exponents_padded d n ks)

-- where both coordinates are 0
pub numerators_padded : (d n : ℕ) (p y : List ℕ) → length p ≡ d + n → length y ≡ d + n → unused d p ≡ true → unused d y ≡ true
    → numerators (directions d n) p y ≡ numerators (axes d) (take d p) (take d y)
unfolding directions numerators trivial
numerators_padded zero zero p y lp ly zp zy = refl
numerators_padded zero (suc n) [] y lp ly zp zy = absurd (omega arith)
numerators_padded zero (suc n) (k ∷ ks) [] lp ly zp zy = absurd (omega arith)
numerators_padded zero (suc n) (k ∷ ks) (j ∷ js) lp ly zp zy =
    let a = and_parts (eqb k 0) (unused 0 ks) zp in
    let b = and_parts (eqb j 0) (unused 0 js) zy in
    let one : trivial.numerator k j ≡ 1 = omega (arith, eqb-true k 0 a.0, eqb-true j 0 b.0) in
    ap (λ m. m * numerators (directions zero n) ks js) one ∙ omega (arith, numerators_padded zero n ks js (omega arith) (omega arith) a.1 b.1)
numerators_padded (suc d) n [] y lp ly zp zy = absurd (omega arith)
numerators_padded (suc d) n (k ∷ ks) [] lp ly zp zy = absurd (omega arith)
numerators_padded (suc d) n (k ∷ ks) (j ∷ js) lp ly zp zy = ap (λ m. zero_border.numerator k j * m) (numerators_padded d n ks js (omega arith) (omega arith) zp zy)

-- of a point and a place, by number
pub numerators_four : (d p y : ℕ) → d ≤ 4 → is_point d p ≡ true → is_place d y ≡ true
    → numerators (four_axes d) (coords p) (coords y) ≡ numerators (axes d) (take d (coords p)) (take d (coords y))
unfolding is_point is_place
numerators_four d p y h ip iy =
    let a = and_parts (list_all coordinate.inner (take d (coords p))) (unused d (coords p)) ip in
    let b = and_parts (list_all (coordinate.within 0 128) (take d (coords y))) (unused d (coords y)) iy in
    numerators_padded d (4 - d) (coords p) (coords y) (omega (arith, coords_length p)) (omega (arith, coords_length y)) a.1 b.1
