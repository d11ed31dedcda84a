-- The whole numbers among the members of a group.
use Rattle.std.specs.Prelude.{◌≡◌, ℤ, pos, negsuc, ◌+ℤ◌, ◌≤ℤ◌}
use Rattle.kinds.specs.Group.{Group}
use Rattle.kinds.specs.Halving.{Fits}

-- from -65,536 to 65,536
pub record InRange (n : ℤ) : Type 0 where
  pub low : negsuc 65535 ≤ℤ n
  pub high : n ≤ℤ pos 65536

-- `number` takes the numbers of the range to members that fit, sums to sums, and different numbers to different members.
pub record Numbers (G : Group) (number : ℤ → G.Member) : Type 0 where
  pub fit : (n : ℤ) → InRange n → Fits G (number n)
  pub sums : (m n : ℤ) → InRange m → InRange n → InRange (m +ℤ n) → number (m +ℤ n) ≡ G.plus (number m) (number n)
  pub apart : (m n : ℤ) → InRange m → InRange n → number m ≡ number n → m ≡ n
