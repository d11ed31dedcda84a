-- What is left of the records from the counter on is not picked.
use Rattle.std.proofs.Common.{◌-◌, arith}
use Rattle.std.proofs.lemmas.Option.{slice_get-get_or}
use Rattle.store.specs.Contents.{capacity}
use Rattle.store.proofs.Weeding.{weeding_ends, weeding_drops}
use Rattle.store.proofs.Store.remove_picked.Goals as goal

pub loop-k-preserved-then-picks : goal.loop-k-preserved-then-picks
unfolding capacity
loop-k-preserved-then-picks g c =
    let d = c.remove_at.ensures in
    weeding_drops c.args.self.now c.loop-k.self (g.P.Picks.picked c.args.picks.now) c.loop-k.n c.loop-k.k c.loop-k.invariant
    c.loop-k-test.true _ (slice_get-get_or c.loop-k.self.records.now (c.loop-k.k - 1) c.index-self-k.result (omega arith)) c.if-picks.ensures
    c.remove_at.new.self d.room d.used d.moved d.removed

pub returns-clause-weeded : goal.returns-clause-weeded
returns-clause-weeded g c = weeding_ends c.args.self.now c.loop-k.self _ c.loop-k.n c.loop-k.k c.loop-k.invariant c.loop-k-test.false
