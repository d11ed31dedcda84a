-- A token that is taken brings the cursor onward.
use Rattle.std.proofs.Common.{length, ap, ◌∙◌, arith, rules, length-append}
use Rattle.text.specs.Taken.{view, Took}
use Rattle.text.specs.Token.{bytes}
use Rattle.text.proofs.Cursors.{onward}
use Rattle.text.proofs.cursor.Cursor.next_token.Goals as goal

pub returns-clause-onward : goal.returns-clause-onward
returns-clause-onward c =
    let took : Took c.args.self.now.rest.now c.args.self.now.place c.in_ok-token.token c.in_ok-token.rest.now = search rules in
    let l = ap length took.split ∙ length-append (bytes (view c.in_ok-token.token)) c.in_ok-token.rest.now in
    onward c.args.self.now _ c.in_ok-token.token took (omega arith)
