-- A token that is taken brings the cursor onward.
use Rattle.std.proofs.Common.{◌≡◌, ℕ, ◌≤◌, List, length, ap, ◌∙◌, arith, length-append}
use Rattle.text.specs.declared.cursor.Cursor.{Cursor}
use Rattle.text.specs.declared.token.Token.{Token}
use Rattle.text.specs.Cursor.{reach, Onward}
use Rattle.text.specs.Taken.{view, Took}
use Rattle.text.specs.Token.{Tok, mark, word, numeral, bytes, got, front}
use Rattle.text.proofs.Longest.{longest_runs}

-- a token has a byte at least
some_bytes : (text : List ℕ) (t : Tok) → front text ≡ got t → 1 ≤ length (bytes t)
some_bytes text (mark b) e = omega arith
some_bytes text (word w) e = ((longest_runs.words text w).0 e).1.some
some_bytes text (numeral n) e =
    let first = ((longest_runs.numerals text n).0 e).1 in
    let s = first.some in
    omega (arith, simp length-append at (ap length first.parts))

pub onward : (c n : Cursor) (t : Token) → Took c.rest.now c.place t n.rest.now → reach n ≡ reach c → Onward c n
onward c n t took same =
    let s = some_bytes c.rest.now (view t) took.found in
    let l = ap length took.split ∙ length-append (bytes (view t)) n.rest.now in
    record { further = omega arith; same_reach = same }
