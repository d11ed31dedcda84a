-- The numeral that is split off goes on with the longest run of digits.
use Rattle.std.proofs.Common.{◌≡◌, ◌+◌, ◌-◌, length, take, drop, sym, refl, ap, ◌∙◌, rules, tests}
use Rattle.std.proofs.lemmas.List.{take_rest}
use Rattle.std.proofs.lemmas.Iterator.{YieldsList-from_slice}
use Rattle.std.proofs.lemmas.Iterator.Consumers.{count_from_yields_List}
use Rattle.std.proofs.lemmas.Iterator.Search.{YieldsList-from_take_while}
use Rattle.text.specs.Token.{is_digit, numeral, unless, front}
use Rattle.text.proofs.Runs.{count}
use Rattle.text.proofs.Fronts.{numeral_front}
use Rattle.text.proofs.lexer.numeral.Goals as goal
use Rattle.text.proofs.lexer.numeral.Goals.{After-count-n, After-broken_rule}

-- the digits after the first byte
counted : (c : After-count-n) → c.count-n.result ≡ count is_digit (drop 1 c.args.text.now)
counted c =
    let text = c.args.text.now in
    count_from_yields_List c.take_while.result c.count-n.result c.count-n.ensures.ran (YieldsList-from_take_while _ is_digit (YieldsList-from_slice (take (length text - 1) (drop 1 text)) cc) c.take_while.ensures.closure c.take_while.ensures.done (λ x b q k. search (rules, tests))) ∙ ap (count is_digit) (take_rest text 1)

-- the front of the text, by the answer on the run
judged_run : (c : After-broken_rule) → c.count-n.result ≡ count is_digit (drop 1 c.args.text.now) → front c.args.text.now ≡ unless c.broken_rule.result (numeral c.split_at.result.0.now)
judged_run c digits =
    let text = c.args.text.now in
    let run : c.split_at.result.0.now ≡ take (1 + count is_digit (drop 1 text)) text = c.split_at.ensures.front ∙ ap (λ k. take (1 + k) text) digits in
    let first = numeral_front text c.requires.some c.requires.begins in
    cc

pub returns-in-Some : goal.returns-in-Some
returns-in-Some c =
    let at = goal.at.returns-in-Some c in
    judged_run at.After-broken_rule (counted at.After-count-n) ∙ ap (λ f. unless f (numeral c.split_at.result.0.now)) c.in-Some.is

pub returns-in-None : goal.returns-in-None
returns-in-None c =
    let at = goal.at.returns-in-None c in
    record {
      found = judged_run at.After-broken_rule (counted at.After-count-n) ∙ ap (λ f. unless f (numeral c.split_at.result.0.now)) c.in-None.is;
      split = c.split_at.ensures.by_index.0;
      left = c.split_at.ensures.back ∙ ap (λ k. drop k c.args.text.now) (sym c.split_at.ensures.front_len);
      placed = refl;
    }
