-- The tokens of a text, their rules, and which token stands at its front.
use Rattle.std.specs.Prelude.{ℕ, Bool, false, cond, not, ◌&&◌, ◌||◌, List, [], ◌∷◌, length, is_some, Some, None, Option, ◌==◌, nat_le, nat_lt, slice_index, take_while}
use Rattle.std.specs.List.{list_all}
use Rattle.text.specs.declared.token.TokenRule.{TokenRule}
use Rattle.text.specs.declared.token.TokenRule.TheVariants.{TextEnded, NoToken, LongWord, BareMinus, MinusZero, LeadingZero, LongNumeral}

-- a token: a mark is one byte that stands alone, a word and a numeral have their bytes
pub data Tok : Type 0 where
  mark : ℕ → Tok
  word : List ℕ → Tok
  numeral : List ℕ → Tok

-- the bytes of a token
abbrev pub bytes : Tok → List ℕ
bytes (mark b) = b ∷ []
bytes (word w) = w
bytes (numeral n) = n

-- ( ) space and line end
abbrev pub is_mark : ℕ → Bool
is_mark b = b == 40 || (b == 41 || (b == 32 || b == 10))

-- a to z
abbrev pub is_letter : ℕ → Bool
is_letter b = nat_le 97 b && nat_le b 122

-- 0 to 9
abbrev pub is_digit : ℕ → Bool
is_digit b = nat_le 48 b && nat_le b 57

-- the minus sign
abbrev pub is_minus : ℕ → Bool
is_minus b = b == 45

-- a numeral begins with a minus or a digit
abbrev pub begins_numeral : ℕ → Bool
begins_numeral b = is_minus b || is_digit b

-- the longest run of a class of bytes at the front of a text
abbrev pub longest_run : (ℕ → Bool) → List ℕ → List ℕ
longest_run class bs = take_while class bs

-- a numeral that begins with a minus
abbrev pub has_minus : List ℕ → Bool
has_minus [] = false
has_minus (b ∷ bs) = is_minus b

-- the digits of a numeral: what follows its minus, or all of it
abbrev pub digits_of : List ℕ → List ℕ
digits_of [] = []
digits_of (b ∷ bs) = cond (is_minus b) bs (b ∷ bs)

-- the first digit is 0
abbrev pub zero_first : List ℕ → Bool
zero_first ds = slice_index ds 0 == 48

-- the rule that a run of letters breaks, if any: there are at most 16
abbrev pub word_fault : List ℕ → Option TokenRule
word_fault w = cond (nat_lt 16 (length w)) (Some LongWord) None

-- the first rule that a sign and a run of digits break, if any: there are digits, no digit 0 follows a minus,
-- no digit follows a first 0, and there are at most 6 digits
abbrev pub rule_broken : Bool → List ℕ → Option TokenRule
rule_broken minus ds =
    cond (length ds == 0) (Some BareMinus)
    (cond (minus && zero_first ds) (Some MinusZero)
    (cond (zero_first ds && nat_lt 1 (length ds)) (Some LeadingZero)
    (cond (nat_lt 6 (length ds)) (Some LongNumeral) None)))

-- the first rule that an optional minus and a run of digits break, if any
abbrev pub numeral_fault : List ℕ → Option TokenRule
numeral_fault n = rule_broken (has_minus n) (digits_of n)

-- a sign and digits that break no rule
abbrev pub keeps_rules : Bool → List ℕ → Bool
keeps_rules minus ds = list_all is_digit ds && not (is_some (rule_broken minus ds))

-- an optional minus and digits that break no rule
abbrev pub is_numeral : List ℕ → Bool
is_numeral n = keeps_rules (has_minus n) (digits_of n)

-- what stands at the front of a text: a rule is broken there, or there is a token
pub data Front : Type 0 where
  fault : TokenRule → Front
  got : Tok → Front

-- the rule that a token breaks, if any
abbrev pub token_fault : Tok → Option TokenRule
token_fault (mark b) = None
token_fault (word w) = word_fault w
token_fault (numeral n) = numeral_fault n

-- a token, unless it breaks a rule
abbrev pub unless : Option TokenRule → Tok → Front
unless None t = got t
unless (Some rule) t = fault rule

-- the token that begins with the byte b, before the bytes bs, if one does
abbrev pub begun : ℕ → List ℕ → Option Tok
begun b bs =
    cond (is_mark b) (Some (mark b))
    (cond (is_letter b) (Some (word (b ∷ longest_run is_letter bs)))
    (cond (begins_numeral b) (Some (numeral (b ∷ longest_run is_digit bs))) None))

-- what is found where a token begins, or where none does
abbrev pub judged : Option Tok → Front
judged None = fault NoToken
judged (Some t) = unless (token_fault t) t

-- the front of a text
abbrev pub front : List ℕ → Front
front [] = fault TextEnded
front (b ∷ bs) = judged (begun b bs)
