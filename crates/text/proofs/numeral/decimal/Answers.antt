-- Each digit gives one more place, and six digits stay below a million.
use Rattle.std.proofs.Common.{◌^◌, ◌≤◌, arith, lit<}
use native.Mathlib.Nat.{pow-le-pow_right}
use Rattle.text.proofs.Decimals.{decimal_more}
use Rattle.text.proofs.numeral.decimal.Goals as goal

pub loop-digit-preserved : goal.loop-digit-preserved
loop-digit-preserved c = decimal_more c.args.digits.now c.requires.digits c.loop-digit.digit-index c.loop-digit-test.true c.loop-digit.value c.from.result c.from.ensures c.loop-digit.invariant

pub returns-clause-small : goal.returns-clause-small
returns-clause-small c =
    let six : c.loop-digit.digit-index ≤ 6 = omega arith in
    let bound : 10 ^ c.loop-digit.digit-index ≤ 10 ^ 6 = pow-le-pow_right (lit< tt) six in
    omega arith
