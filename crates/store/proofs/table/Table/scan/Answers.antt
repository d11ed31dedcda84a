-- A slot leads to a record in use, and one that was passed to no record with the point.
use Rattle.std.proofs.Common.{◌<◌, length, arith, rules}
use Rattle.store.proofs.Searches.{slot_in, clear_gone, clear_at}
use Rattle.store.proofs.table.Table.scan.Goals as goal
use Rattle.store.proofs.table.Table.scan.Goals.{in-Gone, in-At+else-self-i}

pub offset_bounds-self-i : goal.offset_bounds-self-i
offset_bounds-self-i c =
    let es = c.args.self.now.entries.now in
    let b = c.args.self.now.sound.back _ _ (slot_in es c.args.from c.args.end c.loop-e.e-index _ _ c.requires.within c.loop-e-test.true c.in-At.is) in
    let l : c.in-At.i < length es = omega (arith, c.args.self.now.sound.fits) in
    search rules

pub bounds-self-i : goal.bounds-self-i
bounds-self-i c =
    let es = c.args.self.now.entries.now in
    let b = c.args.self.now.sound.back _ _ (slot_in es c.args.from c.args.end c.loop-e.e-index _ _ c.requires.within c.loop-e-test.true c.in-At.is) in
    omega (arith, c.args.self.now.sound.fits)

pub loop-e-preserved : goal.loop-e-preserved
loop-e-preserved c =
    let es = c.args.self.now.entries.now in
    let from = c.args.from in
    let k = c.loop-e.e-index in
    elim c.match-e.branch [
      | in-Gone w ↦ clear_gone es c.args.p from k c.loop-e.invariant (slot_in es from c.args.end k _ _ c.requires.within c.loop-e-test.true w.in-Gone.is)
      | in-At+else-self-i w ↦ clear_at es c.args.p from k c.loop-e.invariant w.in-At.i
          (slot_in es from c.args.end k _ _ c.requires.within c.loop-e-test.true w.in-At.is) w.if-self-i.false
    ]
