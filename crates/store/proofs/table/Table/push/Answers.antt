-- The first vacancy on the way from a point's start becomes the home of its record.
use Rattle.store.proofs.Adding.{pushed}
use Rattle.store.proofs.table.Table.push.Goals as goal

pub invariant_of-self : goal.invariant_of-self
invariant_of-self c =
    let t = c.args.self.now in
    record { sound = (pushed t.entries.now t.used c.args.p c.vacancy-j.result t.sound c.requires.room c.requires.absent c.vacancy-j.ensures).index }
