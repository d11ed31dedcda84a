-- The number that a numeral writes.
use Rattle.std.specs.Prelude.{ℕ, Bool, ◌+◌, ◌-◌, ◌*◌, ◌^◌, cond, List, [], ◌∷◌, length, ℤ, pos, neg_ℤ, Some, None, Option}
use Rattle.text.specs.Token.{has_minus, digits_of, is_numeral}

-- the number that digits write, the most significant first
abbrev pub decimal : List ℕ → ℕ
decimal [] = 0
decimal (d ∷ ds) = (d - 48) * 10 ^ length ds + decimal ds

-- the number that a sign and digits write
abbrev pub signed : Bool → List ℕ → ℤ
signed minus ds = cond minus (neg_ℤ (pos (decimal ds))) (pos (decimal ds))

-- the number that a numeral writes
abbrev pub numeral_value : List ℕ → ℤ
numeral_value n = signed (has_minus n) (digits_of n)

-- the number of a numeral, and none for other bytes
abbrev pub number_of : List ℕ → Option ℤ
number_of n = cond (is_numeral n) (Some (numeral_value n)) None
