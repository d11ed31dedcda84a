-- A table with no records in use holds nothing.
use Rattle.std.proofs.Common.{◌∙◌}
use Rattle.store.specs.Contents.{items, capacity}
use Rattle.store.proofs.States.{held_none, look_none}
use Rattle.store.proofs.Store.reset.Goals as goal

pub returns-clause-empty : goal.returns-clause-empty
unfolding items
returns-clause-empty g c = held_none c.clear.new.self.entries.now c.args.self.now.records.now c.clear.new.self.used c.clear.ensures.used

pub returns-clause-none : goal.returns-clause-none
unfolding items
returns-clause-none g c = λ q. look_none c.clear.new.self.entries.now c.args.self.now.records.now c.clear.new.self.used q c.clear.ensures.used

pub returns-clause-room : goal.returns-clause-room
unfolding capacity
returns-clause-room g c = c.room_for-room.ensures.value ∙ cc
