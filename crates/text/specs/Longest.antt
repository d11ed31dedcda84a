-- Which texts begin with a token, said without the steps that find it.
use Rattle.std.specs.Prelude.{◌≡◌, ℕ, ◌≤◌, Bool, true, false, ◌⊎◌, List, [], ◌∷◌, ◌++◌, length, slice_index_or}
use Rattle.std.specs.List.{list_all}
use Rattle.text.specs.Token.{mark, word, numeral, is_mark, is_letter, is_digit, got, front}

-- no byte of a class comes first
abbrev pub Ends : (ℕ → Bool) → List ℕ → Type 0
Ends class [] = Unit {0}
Ends class (b ∷ bs) = class b ≡ false

-- a text is the mark b, and then rest
pub record MarkFirst (text : List ℕ) (b : ℕ) (rest : List ℕ) : Type 0 where
  pub split : text ≡ b ∷ rest
  pub is_one : is_mark b ≡ true

-- a text is w, 1 to most letters, and then rest, which does not begin with a letter
pub record WordFirst (most : ℕ) (text w rest : List ℕ) : Type 0 where
  pub split : text ≡ w ++ rest
  pub letters : list_all is_letter w ≡ true
  pub some : 1 ≤ length w
  pub few : length w ≤ most
  pub ends : Ends is_letter rest

-- a text is n, an optional minus and 1 to most digits, and then rest, which does not begin with a digit;
-- the digits begin with 0 only where n is 0 alone
pub record NumeralFirst (most : ℕ) (text n rest : List ℕ) : Type 0 where
  pub split : text ≡ n ++ rest
  pub sign : List ℕ
  pub digits : List ℕ
  pub parts : n ≡ sign ++ digits
  pub minus : (sign ≡ []) ⊎ (sign ≡ 45 ∷ [])
  pub decimals : list_all is_digit digits ≡ true
  pub some : 1 ≤ length digits
  pub few : length digits ≤ most
  pub no_zero : slice_index_or digits 0 0 ≡ 48 → n ≡ 48 ∷ []
  pub ends : Ends is_digit rest

-- one holds just where the other does
abbrev pub Same : Type 0 → Type 0 → Type 0
Same P Q = (P → Q) × (Q → P)

-- the token at the front of a text is a mark that stands alone, or a longest run that keeps its rule
pub record LongestRuns (letters digits : ℕ) : Type 0 where
  pub marks : (text : List ℕ) (b : ℕ) → Same (front text ≡ got (mark b)) ((rest : List ℕ) × MarkFirst text b rest)
  pub words : (text w : List ℕ) → Same (front text ≡ got (word w)) ((rest : List ℕ) × WordFirst letters text w rest)
  pub numerals : (text n : List ℕ) → Same (front text ≡ got (numeral n)) ((rest : List ℕ) × NumeralFirst digits text n rest)
