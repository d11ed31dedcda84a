-- A multiple of the half is the half of the multiple, and a proper one has an answer.
use Rattle.hats.proofs.Multiples.{term_is}
use Rattle.hats.proofs.multiple.term.Goals as goal

pub returns : goal.returns
returns g c =
    let K = g.met.K.Kind in
    let t = term_is g.K.Kind.group K.lawful K.halving g.K.Kind.meaning _ _ _ _ _ c.in_ok-part.ensures c.taken.ensures in
    record { exact = t.0; answers = t.1 }
