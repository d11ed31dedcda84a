-- Records are added one after the other to an index that was wiped.
use Rattle.std.proofs.Common.{ℕ, ◌∙◌, subst, arith}
use Rattle.store.specs.Index.{Added, Absent, point_at}
use Rattle.store.proofs.Rehashing.{relinked, next_absent}
use Rattle.store.proofs.table.Table.rebuild.Goals as goal

pub push-requires : goal.push-requires
push-requires c =
    let t = c.loop-i.self in
    let v = c.loop-i.invariant in
    record {
      room = omega (arith, v.used, c.args.self.now.sound.fits, v.rehashed.len);
      absent = subst (λ (n : ℕ). Absent t.entries.now n (point_at t.entries.now c.loop-i.i)) (omega arith)
          (next_absent c.args.self.now.entries.now t.entries.now c.args.self.now.used c.loop-i.i c.args.self.now.sound c.loop-i-test.true v.rehashed);
    }

pub loop-i-preserved : goal.loop-i-preserved
loop-i-preserved c =
    let t = c.loop-i.self in
    let v = c.loop-i.invariant in
    record {
      used = omega (arith, v.used, c.push.ensures.used);
      rehashed = relinked c.args.self.now.entries.now t.entries.now c.push.new.self.entries.now c.loop-i.i v.rehashed
          (subst (λ (n : ℕ). Added t.entries.now c.push.new.self.entries.now n (point_at t.entries.now c.loop-i.i)) v.used c.push.ensures.added);
      worn = c.push.ensures.worn ∙ v.worn;
    }
