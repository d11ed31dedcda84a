-- The start is the hash modulo the number of slots.
use Rattle.std.proofs.Common.{refl, mod-lt}
use Rattle.store.specs.Index.{start_of}
use Rattle.store.proofs.probe.start.Goals as goal

pub returns : goal.returns
unfolding start_of
returns c = record { value = refl; bound = mod-lt _ c.requires }
