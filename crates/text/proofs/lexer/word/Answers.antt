-- The word that is split off is the longest run of letters.
use Rattle.std.proofs.Common.{◌≡◌, ◌≤◌, length, take, drop, sym, refl, ap, ◌∙◌, arith, rules, tests}
use Rattle.std.proofs.lemmas.Iterator.{YieldsList-from_slice}
use Rattle.std.proofs.lemmas.Iterator.Consumers.{count_from_yields_List}
use Rattle.std.proofs.lemmas.Iterator.Search.{YieldsList-from_take_while}
use Rattle.std.proofs.lemmas.Bool.Decides.{nat_tests}
use Rattle.text.specs.Token.{is_letter, longest_run, word, word_fault, unless}
use Rattle.text.proofs.Runs.{count, run_take}
use Rattle.text.proofs.Fronts.{word_front}
use Rattle.text.proofs.lexer.word.Goals as goal
use Rattle.text.proofs.lexer.word.Goals.{After-count-n}

-- the letters at the front
counted : (c : After-count-n) → c.count-n.result ≡ count is_letter c.args.text.now
counted c =
    count_from_yields_List c.take_while.result c.count-n.result c.count-n.ensures.ran (YieldsList-from_take_while _ is_letter (YieldsList-from_slice c.args.text.now cc) c.take_while.ensures.closure c.take_while.ensures.done (λ x b q k. search (rules, tests)))

pub returns-then-n-gt-MOST_LETTERS : goal.returns-then-n-gt-MOST_LETTERS
returns-then-n-gt-MOST_LETTERS c =
    let n = counted (goal.at.returns-then-n-gt-MOST_LETTERS c).After-count-n in
    let f = word_front c.args.text.now c.requires.some c.requires.letter in
    grind (arith, nat_tests)

pub returns : goal.returns
returns c =
    let text = c.args.text.now in
    let w = c.split_at.result.0.now in
    let run : w ≡ longest_run is_letter text = c.split_at.ensures.front ∙ ap (λ k. take k text) (counted (goal.at.returns c).After-count-n) ∙ run_take is_letter text in
    let f = word_front text c.requires.some c.requires.letter ∙ ap (λ x. unless (word_fault x) (word x)) (sym run) in
    let few : length w ≤ 16 = omega arith in
    record {
      found = grind (arith, nat_tests);
      split = c.split_at.ensures.by_index.0;
      left = c.split_at.ensures.back ∙ ap (λ k. drop k text) (sym c.split_at.ensures.front_len);
      placed = refl;
    }
