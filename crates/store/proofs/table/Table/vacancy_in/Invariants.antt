-- The slots that were passed are taken.
use Rattle.store.specs.Index.{Taken}
use Rattle.store.proofs.table.Table.vacancy_in.Given as goal

abbrev pub invariant-loop-j : goal.invariant-loop-j
invariant-loop-j l = Taken l.self.entries.now l.from l.j
