-- What stands at the front of a text, by its first byte.
use Rattle.std.proofs.Common.{◌≡◌, ℕ, ◌+◌, ◌<◌, ◌≤◌, true, List, [], ◌∷◌, length, get_or, take, drop, Some, None, Option, sym, ap, ◌∙◌, one-add, arith}
use Rattle.std.proofs.lemmas.Bool.Decides.{nat_tests}
use Rattle.text.specs.Token.{Tok, mark, word, numeral, is_mark, is_letter, is_digit, begins_numeral, longest_run, word_fault, numeral_fault, token_fault, unless, got, begun, judged, front}
use Rattle.text.proofs.Runs.{count, run_take, run_on}

-- a token is got just where it begins and breaks no rule
got_begun : (o : Option Tok) (t : Tok) → judged o ≡ got t → (o ≡ Some t) × (token_fault t ≡ None)
got_begun None t e = cc
got_begun (Some u) t e = grind arith

module _ (b : ℕ) (bs : List ℕ) where
  -- what a first byte begins
  pub mark_begins : is_mark b ≡ true → front (b ∷ bs) ≡ got (mark b)
  mark_begins e = grind (arith, nat_tests)

  pub word_begins : is_letter b ≡ true → let w : List ℕ = b ∷ longest_run is_letter bs in front (b ∷ bs) ≡ unless (word_fault w) (word w)
  word_begins e = grind (arith, nat_tests)

  pub numeral_begins : begins_numeral b ≡ true → let n : List ℕ = b ∷ longest_run is_digit bs in front (b ∷ bs) ≡ unless (numeral_fault n) (numeral n)
  numeral_begins e = grind (arith, nat_tests)

  -- what a token at the front says of the first byte
  pub mark_got : (d : ℕ) → front (b ∷ bs) ≡ got (mark d) → (is_mark d ≡ true) × (b ≡ d)
  mark_got d e = grind (arith, nat_tests)

  pub word_got : (w : List ℕ) → front (b ∷ bs) ≡ got (word w) → (is_letter b ≡ true) × (w ≡ b ∷ longest_run is_letter bs) × (length w ≤ 16)
  word_got w e = grind (arith, nat_tests)

  pub numeral_got : (n : List ℕ) → front (b ∷ bs) ≡ got (numeral n) → (begins_numeral b ≡ true) × (n ≡ b ∷ longest_run is_digit bs) × (numeral_fault n ≡ None)
  numeral_got n e = let g = got_begun (begun b bs) (numeral n) e in grind (arith, nat_tests)

-- a letter begins the word that is the longest run of letters
pub word_front : (bs : List ℕ) → 0 < length bs → is_letter (get_or bs 0 0) ≡ true → let w : List ℕ = longest_run is_letter bs in front bs ≡ unless (word_fault w) (word w)
word_front [] h e = absurd (omega arith)
word_front (b ∷ bs) h e = word_begins b bs e ∙ ap (λ w. unless (word_fault w) (word w)) (sym (run_on is_letter b bs e))

-- a minus or a digit begins the numeral that goes on with the longest run of digits
pub numeral_front : (bs : List ℕ) → 0 < length bs → begins_numeral (get_or bs 0 0) ≡ true → let n : List ℕ = take (1 + count is_digit (drop 1 bs)) bs in front bs ≡ unless (numeral_fault n) (numeral n)
numeral_front [] h e = absurd (omega arith)
numeral_front (b ∷ bs) h e =
    let n : b ∷ longest_run is_digit bs ≡ take (1 + count is_digit bs) (b ∷ bs) = ap (λ l. b ∷ l) (sym (run_take is_digit bs)) ∙ ap (λ k. take k (b ∷ bs)) (sym (one-add (count is_digit bs))) in
    numeral_begins b bs e ∙ ap (λ n. unless (numeral_fault n) (numeral n)) n
