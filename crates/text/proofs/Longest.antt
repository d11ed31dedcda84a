-- The tokens at the front of a text are the longest runs.
use Rattle.std.proofs.Common.{◌≡◌, ℕ, ◌≤◌, Bool, true, false, cond, not, ◌⊎◌, List, [], ◌∷◌, ◌++◌, length, get_or, drop, is_some, None, sym, refl, ap, ◌∙◌, subst, inl, inr, arith}
use Rattle.std.specs.List.{list_all}
use Rattle.std.proofs.lemmas.Bool.{and_parts, and_from, or_right, eqb-true}
use Rattle.std.proofs.lemmas.Bool.Decides.{nat_tests}
use Rattle.text.specs.Token.{mark, word, numeral, is_letter, is_digit, is_minus, begins_numeral, longest_run, rule_broken, numeral_fault, unless, got, front, digits_of, is_numeral}
use Rattle.text.specs.Longest.{Ends, MarkFirst, WordFirst, NumeralFirst, LongestRuns}
use Rattle.text.proofs.Runs.{count, Parts, run_parts, run_whole}
use Rattle.text.proofs.Fronts.{mark_begins, mark_got, word_begins, word_got, numeral_begins, numeral_got}

-- a mark is one byte that stands alone
marks_found : (text : List ℕ) (b : ℕ) → front text ≡ got (mark b) → (rest : List ℕ) × MarkFirst text b rest
marks_found [] b e = cc
marks_found (d ∷ bs) b e = let g = mark_got d bs b e in (bs, record { split = ap (λ x. x ∷ bs) g.1; is_one = g.0 })

marks_first : (text : List ℕ) (b : ℕ) → (rest : List ℕ) × MarkFirst text b rest → front text ≡ got (mark b)
marks_first text b (rest, m) = ap front m.split ∙ mark_begins b rest m.is_one

-- a word is a longest run of letters, and not too long
words_found : (text w : List ℕ) → front text ≡ got (word w) → (rest : List ℕ) × WordFirst 16 text w rest
words_found [] w e = cc
words_found (b ∷ bs) w e =
    let g = word_got b bs w e in
    let run = run_parts is_letter bs in
    let rest = drop (count is_letter bs) bs in (
      rest,
      record {
        split = ap (λ l. b ∷ l) run.split ∙ ap (λ l. l ++ rest) (sym g.1);
        letters = ap (list_all is_letter) g.1 ∙ and_from _ _ g.0 run.all;
        some = omega (arith, ap length g.1);
        few = g.2;
        ends = run.ends;
      },
    )

words_first : (text w : List ℕ) → (rest : List ℕ) × WordFirst 16 text w rest → front text ≡ got (word w)
words_first text [] (rest, h) = absurd (omega (arith, h.some))
words_first text (b ∷ w) (rest, h) =
    let l = and_parts _ _ h.letters in
    let run = run_whole is_letter w rest l.1 h.ends in
    let few = h.few in
    let begins = word_begins b (w ++ rest) l.0 in
    ap front h.split ∙ grind (arith, nat_tests)

-- the rules of the digits after a minus, and of digits alone
minus_kept : (ds : List ℕ) → rule_broken true ds ≡ None → (1 ≤ length ds) × (length ds ≤ 6) × (get_or ds 0 0 ≡ 48 → ⊥)
minus_kept ds e = grind (arith, nat_tests)

minus_keeps : (ds : List ℕ) → 1 ≤ length ds → length ds ≤ 6 → (get_or ds 0 0 ≡ 48 → ⊥) → rule_broken true ds ≡ None
minus_keeps ds some few z = grind (arith, nat_tests)

plain_kept : (ds : List ℕ) → rule_broken false ds ≡ None → (1 ≤ length ds) × (length ds ≤ 6) × (get_or ds 0 0 ≡ 48 → length ds ≡ 1)
plain_kept ds e = grind (arith, nat_tests)

plain_keeps : (ds : List ℕ) → 1 ≤ length ds → length ds ≤ 6 → (get_or ds 0 0 ≡ 48 → length ds ≡ 1) → rule_broken false ds ≡ None
plain_keeps ds some few z = grind (arith, nat_tests)

-- a first byte of a numeral that is no minus is a digit, and a digit is no minus
plain_digit : (b : ℕ) → begins_numeral b ≡ true → is_minus b ≡ false → is_digit b ≡ true
plain_digit b h e = grind (arith, nat_tests)

digit_no_minus : (b : ℕ) → is_digit b ≡ true → is_minus b ≡ false
digit_no_minus b e = grind (arith, nat_tests)

-- a 0 that is the one digit
alone : (b : ℕ) (ds : List ℕ) → b ≡ 48 → length (b ∷ ds) ≡ 1 → b ∷ ds ≡ 48 ∷ []
alone b [] z h = ap (λ x. x ∷ []) z
alone b (d ∷ ds) z h = absurd (omega arith)

-- the numeral of a first byte and the digits after it
numeral_parts : (b : ℕ) (bs run rest : List ℕ) → begins_numeral b ≡ true → Parts is_digit bs run rest → numeral_fault (b ∷ run) ≡ None → NumeralFirst 6 (b ∷ bs) (b ∷ run) rest
numeral_parts b bs run rest begins p = go (is_minus b) refl
  where
    go : (v : Bool) → is_minus b ≡ v → rule_broken v (cond v run (b ∷ run)) ≡ None → NumeralFirst 6 (b ∷ bs) (b ∷ run) rest
    go true e f = let k = minus_kept run f in record {
      split = ap (λ l. b ∷ l) p.split;
      sign = 45 ∷ [];
      digits = run;
      parts = ap (λ x. x ∷ run) (eqb-true b 45 e);
      minus = inr refl;
      decimals = p.all;
      some = k.0;
      few = k.1;
      no_zero = λ z. absurd (k.2 z);
      ends = p.ends;
    }
    go false e f = let k = plain_kept (b ∷ run) f in record {
      split = ap (λ l. b ∷ l) p.split;
      sign = [];
      digits = b ∷ run;
      parts = refl;
      minus = inl refl;
      decimals = and_from _ _ (plain_digit b begins e) p.all;
      some = k.0;
      few = k.1;
      no_zero = λ z. alone b run z (k.2 z);
      ends = p.ends;
    }

-- a numeral is an optional minus and a longest run of digits that keeps the rules
numerals_found : (text n : List ℕ) → front text ≡ got (numeral n) → (rest : List ℕ) × NumeralFirst 6 text n rest
numerals_found [] n e = cc
numerals_found (b ∷ bs) n e =
    let g = numeral_got b bs n e in
    let rest = drop (count is_digit bs) bs in
    (rest, subst (λ x. NumeralFirst 6 (b ∷ bs) x rest) (sym g.1) (numeral_parts b bs (longest_run is_digit bs) rest g.0 (run_parts is_digit bs) (ap numeral_fault (sym g.1) ∙ g.2)))

-- a numeral at the front is one that writes a number
pub numeral_lawful : (text n : List ℕ) → front text ≡ got (numeral n) → is_numeral n ≡ true
numeral_lawful [] n e = cc
numeral_lawful (b ∷ bs) n e =
    let g = numeral_got b bs n e in
    and_from _ _ (ap (λ x. list_all is_digit (digits_of x)) g.1 ∙ go (is_minus b) refl g.0) (ap (λ f. not (is_some f)) g.2)
  where
    go : (v : Bool) → is_minus b ≡ v → begins_numeral b ≡ true → list_all is_digit (cond v (longest_run is_digit bs) (b ∷ longest_run is_digit bs)) ≡ true
    go true m h = (run_parts is_digit bs).all
    go false m h = and_from _ _ (plain_digit b h m) (run_parts is_digit bs).all

-- a minus or a digit, and digits that keep the rules
numeral_first : (b : ℕ) (ds rest : List ℕ) → begins_numeral b ≡ true → list_all is_digit ds ≡ true → Ends is_digit rest → numeral_fault (b ∷ ds) ≡ None → front ((b ∷ ds) ++ rest) ≡ got (numeral (b ∷ ds))
numeral_first b ds rest begins all ends kept =
    numeral_begins b (ds ++ rest) begins ∙ ap (λ r. unless (numeral_fault (b ∷ r)) (numeral (b ∷ r))) (run_whole is_digit ds rest all ends) ∙ ap (λ f. unless f (numeral (b ∷ ds))) kept

-- a text of a sign, digits and a rest
signed_first : (sign digits rest : List ℕ) → (sign ≡ []) ⊎ (sign ≡ 45 ∷ []) → list_all is_digit digits ≡ true → 1 ≤ length digits → length digits ≤ 6 → (get_or digits 0 0 ≡ 48 → sign ++ digits ≡ 48 ∷ []) → Ends is_digit rest → front ((sign ++ digits) ++ rest) ≡ got (numeral (sign ++ digits))
signed_first sign [] rest s all some few no_zero ends = absurd (omega arith)
signed_first sign (d ∷ ds) rest (inl s) all some few no_zero ends =
    let h = and_parts _ _ all in
    let whole = ap (λ l. l ++ (d ∷ ds)) (sym s) in
    let kept = ap (λ v. rule_broken v (cond v ds (d ∷ ds))) (digit_no_minus d h.0) ∙ plain_keeps (d ∷ ds) some few (λ z. ap length (whole ∙ no_zero z)) in
    subst (λ n. front (n ++ rest) ≡ got (numeral n)) whole (numeral_first d ds rest (or_right _ _ h.0) h.1 ends kept)
signed_first sign (d ∷ ds) rest (inr s) all some few no_zero ends =
    let whole = ap (λ l. l ++ (d ∷ ds)) (sym s) in
    let kept = minus_keeps (d ∷ ds) some few (λ z. omega (arith, ap length (whole ∙ no_zero z))) in
    subst (λ n. front (n ++ rest) ≡ got (numeral n)) whole (numeral_first 45 (d ∷ ds) rest refl all ends kept)

-- a text that begins so has that numeral at its front
numerals_first : (text n : List ℕ) → (rest : List ℕ) × NumeralFirst 6 text n rest → front text ≡ got (numeral n)
numerals_first text n (rest, h) =
    ap front (h.split ∙ ap (λ l. l ++ rest) h.parts) ∙ signed_first h.sign h.digits rest h.minus h.decimals h.some h.few (λ z. sym h.parts ∙ h.no_zero z) h.ends ∙ ap (λ l. got (numeral l)) (sym h.parts)

-- all three, both ways
pub longest_runs : LongestRuns 16 6
longest_runs = record {
  marks = λ text b. (marks_found text b, marks_first text b);
  words = λ text w. (words_found text w, words_first text w);
  numerals = λ text n. (numerals_found text n, numerals_first text n);
}
