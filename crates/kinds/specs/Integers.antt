-- The integers, which dyadic values mean: counts of 2^-28.
use Rattle.std.specs.Prelude.{◌^◌, ℤ, pos, ◌+ℤ◌, ◌*ℤ◌, neg_ℤ, unsigned_abs}
use Rattle.kinds.specs.Group.{Group}

-- the size is the count without its sign
abbrev pub integers : Group
integers = record { Member = ℤ; zero = pos 0; plus = ◌+ℤ◌; minus = neg_ℤ; size = unsigned_abs }

-- the count of 2^-28 that a whole number is
abbrev pub whole_count : ℤ → ℤ
whole_count n = n *ℤ pos (2 ^ 28)
