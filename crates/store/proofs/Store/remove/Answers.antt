-- Of a point that the table finds, the record is dropped.
use Rattle.std.proofs.Common.{ℕ, refl, subst}
use Rattle.store.specs.Contents.{items}
use Rattle.store.specs.Items.{Removed}
use Rattle.store.proofs.Known.{unknown}
use Rattle.store.proofs.Store.remove.Goals as goal

pub returns-in_default-clause-answer : goal.returns-in_default-clause-answer
returns-in_default-clause-answer g c = (unknown c.args.self.now c.args.point c.in_default.ensures, refl)

pub returns-clause-answer : goal.returns-clause-answer
returns-clause-answer g c =
    subst (λ (p : ℕ). Removed (items c.args.self.now) (items c.remove_at.new.self) p) c.in-Some.ensures.1 c.remove_at.ensures.removed
