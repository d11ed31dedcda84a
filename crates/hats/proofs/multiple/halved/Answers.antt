-- What cannot be halved once more cannot be halved as often as asked.
use Rattle.hats.proofs.Multiples.{no_half}
use Rattle.hats.proofs.multiple.halved.Goals as goal

pub returns-in_err-half : goal.returns-in_err-half
returns-in_err-half g c =
    let K = g.met.K.Kind in
    rw c.from_residual.ensures (no_half g.K.Kind.group K.lawful K.halving _ _ _ _ c.loop-test.true c.loop.invariant c.in_err-half.ensures)
