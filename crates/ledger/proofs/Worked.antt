-- The worked courses, computed.
use Rattle.std.proofs.Common.{◌≡◌, ℕ, ◌+◌, ◌^◌, ◌≤◌, Bool, true, false, ℤ, pos, refl, ap, ◌∙◌, arith, lit≤}
use lib.Count.{count_trailing_zeros}
use Rattle.std.proofs.lemmas.Int.{ints}
use Rattle.kinds.specs.Halving.{Halving}
use Rattle.kinds.specs.Integers.{integers, whole_count}
use Rattle.kinds.specs.IntegersLemmas.{integer_numbers}
use Rattle.points.specs.Axis.{zeros, width, level, left, right, parent}
use Rattle.points.specs.Points.{coords, number, is_point, level_sum, replaced, parent_in, parents}
use Rattle.basis.specs.Lists.{before, choices}
use Rattle.basis.specs.Axis.{down_from, zero_border, trivial, directions}
use Rattle.basis.specs.Grid.{places}
use Rattle.ledger.specs.Ledger.{free, Ledger, is_in, is_out_by, put, inner_places, counted, is_held}
use Rattle.ledger.specs.Calls.{unless, swept, received, step}
use Rattle.ledger.specs.Making.{make_by, make}
use Rattle.ledger.specs.Course.{event, history_from, end_from}
use Rattle.ledger.proofs.Known.{put_at}
use Rattle.ledger.specs.Examples.{middle, answers, WorkedCourses}

-- 65,536 and 8 fit
fits_whole : (H : Halving integers) (n : ℕ) → n ≤ 65536 → H.fits (whole_count (pos n)) ≡ true
fits_whole H n h = H.fits_all (whole_count (pos n)) (integer_numbers.fit (pos n) (record { low = omega (arith, ints); high = omega (arith, ints) }))

-- 65,537 does not
not_fit : (H : Halving integers) (b : Bool) → H.fits (pos (2 ^ 44 + 2 ^ 28)) ≡ b → b ≡ false
not_fit H true e = absurd (omega (arith, (H.fits_only _ e).small))
not_fit H false e = refl

-- a sample that does not fit leaves its point free
freed_after : (L : Ledger ℤ) (p : ℕ) (x : ℤ) (b : Bool) → b ≡ false → (received b L p x).after.known p ≡ free
unfolding received
freed_after L p x b e = ap (λ v. (received v L p x).after.known p) e ∙ put_at L.known p free p refl

pub worked_courses_lem : (H : Halving integers) → WorkedCourses H
unfolding answers history_from event step unless make make_by is_in is_out_by put is_held counted inner_places zeros width level left right parent coords number is_point level_sum replaced parent_in parents before choices down_from zero_border trivial directions places count_trailing_zeros swept received end_from
worked_courses_lem H = record {
  last_number_answers = refl;
  two_sessions_answers = rw (fits_whole H 8 (lit≤ tt));
  greatest_answers = rw (fits_whole H 65536 (lit≤ tt));
  too_great_answers = rw (not_fit H _ refl);
  too_great_frees = freed_after _ middle _ (H.fits (pos (2 ^ 44 + 2 ^ 28))) (not_fit H _ refl);
}
