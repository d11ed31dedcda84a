-- Where there are fewer records than slots, some slot is not taken.
use Rattle.std.proofs.Common.{arith}
use Rattle.store.proofs.Pigeon.{full}
use Rattle.store.proofs.table.Table.vacancy.Goals as goal

pub unreachable-requires : goal.unreachable-requires
unreachable-requires c =
    omega (arith, full c.args.self.now.entries.now c.args.self.now.used c.start-h.result c.args.self.now.sound c.in_default.ensures c.in_default-vacancy_in.ensures)
