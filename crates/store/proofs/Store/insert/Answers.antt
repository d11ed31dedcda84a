-- A point that is known or finds no room alters nothing, and any other is added.
use Rattle.std.proofs.Common.{refl, sym, ◌∙◌, arith}
use Rattle.store.specs.Contents.{items, capacity}
use Rattle.store.proofs.Known.{unknown, known_if, absent_if}
use Rattle.store.proofs.Changes.{count, inserted}
use Rattle.store.proofs.Store.insert.Goals as goal

pub returns-then-is_some-clause-answer : goal.returns-then-is_some-clause-answer
returns-then-is_some-clause-answer g c =
    (known_if c.args.self.now c.args.point c.find.result c.find.ensures (sym c.is_some.ensures ∙ c.if-is_some.true), refl)

pub returns-then-used-self-clause-answer : goal.returns-then-used-self-clause-answer
unfolding capacity
returns-then-used-self-clause-answer g c =
    let m = c.args.self.now in
    let a = absent_if m c.args.point c.find.result c.find.ensures (sym c.is_some.ensures ∙ c.if-is_some.false) in
    ((unknown m c.args.point a, omega (arith, count m)), refl)

pub returns-clause-answer : goal.returns-clause-answer
unfolding items capacity
returns-clause-answer g c =
    let m = c.args.self.now in
    let a = absent_if m c.args.point c.find.result c.find.ensures (sym c.is_some.ensures ∙ c.if-is_some.false) in (
      omega (arith, count m),
      inserted m c.push.new.self.entries.now c.push.new.self.used c.args.point c.args.state (omega arith) a c.push.ensures.added c.push.ensures.used,
    )
