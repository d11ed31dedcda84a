-- The state in the record that the table finds is that of the point.
use Rattle.std.proofs.Common.{sym, ◌∙◌, arith}
use Rattle.std.proofs.lemmas.Option.{slice_get-get_or}
use Rattle.store.proofs.Known.{unknown, state_of}
use Rattle.store.proofs.Store.get.Goals as goal

pub returns-in_err-i : goal.returns-in_err-i
returns-in_err-i g c = c.from_residual.ensures ∙ sym (unknown c.args.self.now c.args.point c.in_err-i.ensures)

pub returns : goal.returns
returns g c =
    let m = c.args.self.now in
    let p = c.in_ok-i.ensures in
    sym (state_of m c.args.point c.in_ok-i.i p ∙ slice_get-get_or m.records.now c.in_ok-i.i _ (omega (arith, p.0)))
