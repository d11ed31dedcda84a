-- The quotient fits, and the divisor is the power of two.
use Rattle.std.proofs.Common.{◌≡◌, ◌-◌, ◌≤◌, ◌^◌, min, pos, sym, ap, ◌∙◌, ap₂, subst, pow_mono, arith, rules, w64, SFits, to_z, of_z}
use lib.Count.{count_trailing_zeros}
use Rattle.std.specs.Int.Signed.{quot_z}
use Rattle.std.specs.Prelude.{unsigned_abs}
use Rattle.std.proofs.lemmas.Nat.{one_shl}
use Rattle.std.proofs.lemmas.Int.{to_z-of_z, to_z_pos}
use Rattle.report.specs.Lowest.{LowestTerms}
use Rattle.report.proofs.Halves.{lowest, quot_fits}
use Rattle.report.proofs.lowest.lowest_terms.Goals as goal

pub returns : goal.returns
returns c =
    let z = c.args.count in
    let h = c.min-halvings.result in
    let fits : SFits w64 z = search rules in
    let own = to_z-of_z w64 z fits in
    let shift = one_shl h 64 (omega (arith, c.min-halvings.ensures)) in
    let few : h ≤ 28 = omega (arith, c.min-halvings.ensures) in
    let small : 2 ^ h ≤ 2 ^ 28 = pow_mono few in
    let divisor = ap (to_z w64) shift ∙ to_z_pos w64 (2 ^ h) (omega (arith, small)) in
    let quotient = ap (λ q. to_z w64 (of_z w64 q)) (ap₂ quot_z own divisor) ∙ to_z-of_z w64 (quot_z z (pos (2 ^ h))) (quot_fits z (2 ^ h) fits) in
    subst (λ q. LowestTerms z q (28 - h)) (sym quotient) (lowest z h (c.min-halvings.ensures ∙ ap (λ n. min (count_trailing_zeros 64 n) 28) (c.unsigned_abs.ensures.value ∙ ap unsigned_abs own)))
