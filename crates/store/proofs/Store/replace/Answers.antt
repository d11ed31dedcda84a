-- Of a point that the table finds, the record has another state.
use Rattle.std.proofs.Common.{refl}
use Rattle.store.specs.Contents.{items}
use Rattle.store.proofs.Known.{unknown}
use Rattle.store.proofs.Changes.{replaced}
use Rattle.store.proofs.Store.replace.Goals as goal

pub returns-in_default-clause-answer : goal.returns-in_default-clause-answer
returns-in_default-clause-answer g c = (unknown c.args.self.now c.args.point c.in_default.ensures, refl)

pub returns-clause-answer : goal.returns-clause-answer
unfolding items
returns-clause-answer g c = replaced c.args.self.now c.in-Some.i c.args.point c.args.state c.in-Some.ensures
