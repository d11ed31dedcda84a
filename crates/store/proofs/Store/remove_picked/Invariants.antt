-- The records from the counter on are not picked; the counter falls.
use Rattle.store.proofs.Weeding.{Weeding}
use Rattle.store.proofs.Store.remove_picked.Given as goal

abbrev pub invariant-loop-k : goal.invariant-loop-k
invariant-loop-k g l = Weeding l.initial.self l.self (g.P.Picks.picked l.picks) l.n l.k
