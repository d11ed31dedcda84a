-- The memory has room for the capacity.
use Rattle.std.proofs.Common.{◌≡◌, ℕ, ◌≤◌, leb, length, ◌∙◌}
use Rattle.std.proofs.lemmas.Bool.{cond-true, le-leb}
use Rattle.store.specs.Items.{room_for}
use Rattle.store.specs.Contents.{capacity}
use Rattle.store.proofs.Store.clear.Goals as goal

-- slices that are long enough have the room that is asked for
roomy : (n records entries : ℕ) → n ≤ records → n ≤ entries → room_for n records entries ≡ n
roomy n records entries h k = cond-true (leb n records) _ _ (le-leb n records h) ∙ cond-true (leb n entries) n 0 (le-leb n entries k)

pub returns-clause-room : goal.returns-clause-room
unfolding capacity
returns-clause-room g c =
    let m = c.args.self.now in
    c.reset.ensures.room ∙ roomy m.room (length m.records.now) (length m.table.entries.now) m.records_suffice m.entries_suffice
