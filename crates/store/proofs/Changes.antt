-- How the items of a store change with its table and its records.
use Rattle.std.proofs.Common.{◌≡◌, ℕ, ◌+◌, ◌-◌, ◌<◌, List, length, set, sym, refl, ap, ◌∙◌, subst, arith}
use Rattle.std.specs.List.{slice_get}
use Rattle.store.specs.Index.{Absent, Place, Added, Dropped, point_at}
use Rattle.store.specs.Items.{Inserted, Replaced, Removed}
use Rattle.store.specs.Layout.{held, Written}
use Rattle.store.specs.Contents.{items}
use Rattle.store.specs.declared.Store.{Store}
use Rattle.store.specs.declared.entry.Entry.{Entry}
use Rattle.store.proofs.Known.{unknown, known}
use Rattle.store.proofs.States.{written, look_added, look_written, look_dropped, length_held}

module _ {S : Type 0} (m : Store S) where
  abbrev es : List Entry
  es = m.table.entries.now

  abbrev ss : List S
  ss = m.records.now

  abbrev used : ℕ
  used = m.table.used

  -- there are as many items as records in use
  pub count : length (items m) ≡ m.table.used
  unfolding items
  count = length_held es ss used (omega arith) (omega arith)

  -- one record more
  pub inserted : (fs : List Entry) (n p : ℕ) (s : S) → used < m.room → Absent es used p → Added es fs used p → n ≡ used + 1
      → Inserted (items m) (held fs (set ss used s) n) p s
  unfolding items
  inserted fs n p s room absent added e =
      let w = written ss used s (omega arith) in
      subst (λ (k : ℕ). Inserted (held es ss used) (held fs (set ss used s) k) p s) (sym e) (record {
        fresh = unknown m p absent;
        states = look_added es ss used m.table.sound (omega arith) fs (set ss used s) p s (omega arith) added w;
        count = length_held fs (set ss used s) (used + 1) (omega (arith, added.len)) (omega (arith, w.len)) ∙ ap (λ (k : ℕ). k + 1) (sym count);
      })

  -- another state of one
  pub replaced : (i p : ℕ) (s : S) → Place es used p i → Replaced (items m) (held es (set ss i s) used) p s
  unfolding items
  replaced i p s at =
      let w = written ss i s (omega (arith, at.0)) in
      record {
        known = known m p i at;
        states = look_written es ss used m.table.sound (omega arith) (set ss i s) i p s at w;
        count = length_held es (set ss i s) used (omega arith) (omega (arith, w.len)) ∙ sym count;
      }

  -- one record less
  pub removed : (fs : List Entry) (ts : List S) (n i : ℕ) → i < used → Dropped es fs used i → Written ss ts i (slice_get ss (used - 1)) → n + 1 ≡ used
      → Removed (items m) (held fs ts n) (point_at es i)
  unfolding items
  removed fs ts n i b dropped w e =
      subst (λ (k : ℕ). Removed (held es ss used) (held fs ts k) (point_at es i)) (omega arith) (record {
        known = known m (point_at es i) i (b, refl);
        states = look_dropped es ss used m.table.sound (omega arith) fs ts i dropped b w;
        count = omega (arith, length_held fs ts (used - 1) (omega (arith, dropped.len)) (omega (arith, w.len)), count);
      })
