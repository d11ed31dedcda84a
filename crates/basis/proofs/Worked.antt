-- The worked grids, by computation.
use Rattle.std.proofs.Common.{◌≡◌, ℕ, suc, ◌+◌, ◌/◌, ◌≤◌, [], ◌∷◌, ℤ, pos, negsuc, ◌+ℤ◌, neg_ℤ, refl, ap, arith, lit≤}
use lib.Count.{count_trailing_zeros}
use lib.Signed.{quot_z}
use Rattle.std.proofs.lemmas.Int.{ints}
use Rattle.kinds.specs.Halving.{Halving}
use Rattle.kinds.specs.Integers.{integers}
use Rattle.kinds.specs.Numbers.{InRange}
use Rattle.kinds.specs.IntegersLemmas.{integer_laws, integer_halving}
use Rattle.points.specs.Axis as coordinate
use Rattle.basis.specs.Lists.{before, choices}
use Rattle.basis.specs.Sums.{sum_over, taken, halved, signed}
use Rattle.basis.specs.Axis.{zero_border, directions, axes}
use Rattle.basis.specs.Grid.{total, numerators, parents}
use Rattle.basis.specs.Surplus.{ways, moves, reached, added, surplus}
use Rattle.basis.specs.Interpolant.{value, integral}
use Rattle.basis.specs.Laws.{SameAnswers}
use Rattle.basis.specs.Examples.{points_of, same, sample_of, line, square, WorkedLine, WorkedSquare, WorkedGrids}
use Rattle.basis.proofs.Tables.{once, inner_at, Ranged, among_listed, sampled, shallow}
use Rattle.basis.proofs.Theorems.{halving_free}

-- a halving that computes
half : ℤ → ℤ
half x = quot_z x (pos 2)

half_twice : (x : ℤ) → half (x +ℤ x) ≡ x
unfolding half
half_twice (pos n) = ap pos (omega arith)
half_twice (negsuc n) = ap (λ k. neg_ℤ (pos k)) (let e : suc (suc (n + n)) / 2 ≡ suc n = omega arith in e)

by_quotient : Halving integers
by_quotient = record {
  halve = half;
  halve_twice = half_twice;
  size_twice = integer_halving.size_twice;
  fits = integer_halving.fits;
  fits_only = integer_halving.fits_only;
  fits_all = integer_halving.fits_all;
}

-- numbers of the range
range : (n : ℕ) → n ≤ 65536 → InRange (pos n)
range n h = record { low = omega (arith, ints); high = omega (arith, ints) }

line_ranged : Ranged line
unfolding line
line_ranged = (range 8 (lit≤ tt), (range 5 (lit≤ tt), (range 7 (lit≤ tt), (range 4 (lit≤ tt), (range 7 (lit≤ tt), tt)))))

square_ranged : Ranged square
unfolding square
square_ranged = (range 16 (lit≤ tt), (range 10 (lit≤ tt), (range 9 (lit≤ tt), (range 7 (lit≤ tt), tt))))

-- the answers are those of the halving that computes
line_same : (H : Halving integers) → SameAnswers integers (axes 1) H by_quotient (points_of line) (points_of line) (sample_of line) (sample_of line)
unfolding once same inner_at line points_of parents total directions zero_border coordinate.parent coordinate.left coordinate.right coordinate.level coordinate.width coordinate.zeros count_trailing_zeros
line_same H =
    halving_free integers integer_laws H by_quotient 1 0 (points_of line) (sample_of line) (sampled 1 line (lit≤ tt) line_ranged refl refl refl)
    (shallow 1 line (lit≤ tt) line_ranged refl)

square_same : (H : Halving integers) → SameAnswers integers (axes 2) H by_quotient (points_of square) (points_of square) (sample_of square) (sample_of square)
unfolding once same inner_at square points_of parents total directions zero_border coordinate.parent coordinate.left coordinate.right coordinate.level coordinate.width coordinate.zeros count_trailing_zeros
square_same H =
    halving_free integers integer_laws H by_quotient 2 0 (points_of square) (sample_of square) (sampled 2 square (lit≤ tt) square_ranged refl refl refl)
    (shallow 2 square (lit≤ tt) square_ranged refl)

line_worked : (H : Halving integers) → WorkedLine H
unfolding half by_quotient same line points_of sample_of surplus ways choices before moves reached added signed halved taken sum_over value integral total numerators directions zero_border coordinate.left coordinate.right coordinate.level coordinate.width coordinate.zeros count_trailing_zeros
line_worked H =
    let s = line_same H in
    record {
      at_64 = s.surpluses (64 ∷ []) (among_listed (64 ∷ []) (points_of line) refl);
      at_32 = s.surpluses (32 ∷ []) (among_listed (32 ∷ []) (points_of line) refl);
      at_96 = s.surpluses (96 ∷ []) (among_listed (96 ∷ []) (points_of line) refl);
      at_16 = s.surpluses (16 ∷ []) (among_listed (16 ∷ []) (points_of line) refl);
      at_48 = s.surpluses (48 ∷ []) (among_listed (48 ∷ []) (points_of line) refl);
      value_at_8 = s.values (8 ∷ []);
      value_at_80 = s.values (80 ∷ []);
      whole = s.integrals;
    }

square_worked : (H : Halving integers) → WorkedSquare H
unfolding half by_quotient same square points_of sample_of surplus ways choices before moves reached added signed halved taken sum_over value integral total numerators directions zero_border coordinate.left coordinate.right coordinate.level coordinate.width coordinate.zeros count_trailing_zeros
square_worked H =
    let s = square_same H in
    record {
      at_64_64 = s.surpluses (64 ∷ 64 ∷ []) (among_listed (64 ∷ 64 ∷ []) (points_of square) refl);
      at_32_64 = s.surpluses (32 ∷ 64 ∷ []) (among_listed (32 ∷ 64 ∷ []) (points_of square) refl);
      at_64_32 = s.surpluses (64 ∷ 32 ∷ []) (among_listed (64 ∷ 32 ∷ []) (points_of square) refl);
      at_32_32 = s.surpluses (32 ∷ 32 ∷ []) (among_listed (32 ∷ 32 ∷ []) (points_of square) refl);
      whole = s.integrals;
    }

pub worked_grids_lem : WorkedGrids
worked_grids_lem = record { line_answers = line_worked; square_answers = square_worked }
