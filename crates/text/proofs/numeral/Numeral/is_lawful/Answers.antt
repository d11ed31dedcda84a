-- All after the minus is digits, and no rule is broken.
use Rattle.std.proofs.Common.{◌≡◌, arith, rules, tests}
use Rattle.std.specs.List.{list_all}
use Rattle.std.proofs.lemmas.Iterator.{YieldsList-from_slice}
use Rattle.std.proofs.lemmas.Iterator.Search.{all_from_yields_List}
use Rattle.std.proofs.lemmas.Bool.Decides.{nat_tests}
use Rattle.text.specs.Token.{is_digit}
use Rattle.text.proofs.numeral.Numeral.is_lawful.Goals as goal

pub returns-then-all : goal.returns-then-all
returns-then-all c =
    let digits : c.all.result ≡ list_all is_digit c.args.self.digits.now = all_from_yields_List is_digit _ _ _ c.all.ensures.ran (YieldsList-from_slice c.args.self.digits.now cc) (λ x b q k. search (rules, tests)) in
    grind (arith, nat_tests)
