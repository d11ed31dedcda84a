-- Points as numbers and as coordinates.
use Rattle.std.proofs.Common.{◌≡◌, ℕ, zero, suc, ◌/◌, ◌%◌, ◌^◌, ◌<◌, false, List, [], ◌∷◌, length, None, refl, ap₂, arith}
use Rattle.std.specs.List.{AllByRecursion}
use Rattle.std.specs.Bool.{then_some}
use Rattle.std.proofs.lemmas.Bool.{false_from_ne_true}
use Rattle.points.specs.Axis.{left, right, inner}
use Rattle.points.specs.Points.{coords, number, Numbered, coord_in, neighbour_in}
use Rattle.points.proofs.Hierarchy.{lone}

-- a number has four coordinates
pub coords_length : (n : ℕ) → length (coords n) ≡ 4
unfolding coords
coords_length n = refl

number_coords : (n : ℕ) → n < 2 ^ 32 → number (coords n) ≡ n
unfolding number coords
number_coords n h = let m : n / 2 ^ 24 % 256 ≡ n / 2 ^ 24 = omega arith in omega arith

coords_four : (a b c d : ℕ) → a < 256 → b < 256 → c < 256 → d < 256 → coords (number (a ∷ b ∷ c ∷ d ∷ [])) ≡ a ∷ b ∷ c ∷ d ∷ []
unfolding number coords
coords_four a b c d ha hb hc hd = ap₂ ◌∷◌ (omega arith) (ap₂ ◌∷◌ (omega arith) (ap₂ ◌∷◌ (omega arith) (ap₂ ◌∷◌ (omega arith) refl)))

coords_number : (ks : List ℕ) → length ks ≡ 4 → AllByRecursion (λ k. k < 256) ks → coords (number ks) ≡ ks
coords_number [] e h = absurd (omega arith)
coords_number (a ∷ []) e h = absurd (omega arith)
coords_number (a ∷ b ∷ []) e h = absurd (omega arith)
coords_number (a ∷ b ∷ c ∷ []) e h = absurd (omega arith)
coords_number (a ∷ b ∷ c ∷ d ∷ []) e h = coords_four a b c d h.0 h.1.0 h.1.1.0 h.1.1.1.0
coords_number (a ∷ b ∷ c ∷ d ∷ x ∷ ks) e h = absurd (omega arith)

pub numbered : Numbered
numbered = record { back = number_coords; again = coords_number }

-- each coordinate is a byte
coord_small : (i p : ℕ) → coord_in i p < 256
unfolding coords
coord_small zero p = omega arith
coord_small (suc zero) p = omega arith
coord_small (suc (suc zero)) p = omega arith
coord_small (suc (suc (suc zero))) p = omega arith
coord_small (suc (suc (suc (suc i)))) p = omega arith

-- where the coordinate is not inner, there is no neighbour
not_inner : (k : ℕ) → None ≡ then_some (inner k) k → inner k ≡ false
not_inner k e = false_from_ne_true (inner k) (λ t. cc)

pub no_left : (i p : ℕ) → None ≡ then_some (inner (coord_in i p)) (coord_in i p) → None ≡ neighbour_in left i p
unfolding neighbour_in
no_left i p e = let k = coord_in i p in let w = lone k (coord_small i p) (not_inner k e) in rw w.0

pub no_right : (i p : ℕ) → None ≡ then_some (inner (coord_in i p)) (coord_in i p) → None ≡ neighbour_in right i p
unfolding neighbour_in
no_right i p e = let k = coord_in i p in let w = lone k (coord_small i p) (not_inner k e) in rw w.1
