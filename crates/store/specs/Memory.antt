-- The memory of a store.
use Rattle.std.specs.Prelude.{ℕ, length}
use Rattle.store.specs.declared.Store.{Store}

-- how many records were lent
abbrev pub places : {S : Type 0} → Store S → ℕ
places m = length m.records.now

-- how many lookup entries were lent
abbrev pub lookups : {S : Type 0} → Store S → ℕ
lookups m = length m.table.entries.now
