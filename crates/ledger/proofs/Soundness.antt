-- A new ledger is sound, and every call keeps it so.
use Rattle.std.proofs.Common.{◌≡◌, ℕ, ◌<◌, ◌≤◌, Bool, true, false, ◌&&◌, eqb, ◌⊎◌, List, [], ◌∷◌, Some, None, refl, ap, ◌∙◌, inl, inr, arith}
use Rattle.std.specs.List.{list_any}
use Rattle.std.proofs.lemmas.Bool.{both_ways, not-false, and_from, eq-eqb}
use Rattle.points.specs.Axis.{within}
use Rattle.points.specs.Points.{parents}
use Rattle.points.specs.Refusals.{first}
use Rattle.basis.specs.Lists.{IsIn}
use Rattle.ledger.specs.Ledger.{Holding, Known, free, entered, Ledger, is_in, is_taken, inner_places, counted, has_child, no_point}
use Rattle.ledger.specs.Calls.{Call}
use Rattle.ledger.specs.Making.{Figures, figure_causes, make_by, make}
use Rattle.ledger.specs.Course.{event, end_from}
use Rattle.ledger.specs.History.{Enters, Removes}
use Rattle.ledger.specs.Sound.{Sound, StaysSound}
use Rattle.ledger.specs.Guarantees.{ticket_of}
use Rattle.basis.proofs.Lists.{every_listed, any_has, any_none}
use Rattle.ledger.proofs.Lists.{count_at_most}
use Rattle.ledger.proofs.Places.{listed_points}
use Rattle.ledger.proofs.Known.{new_free, in_entered, entered_in, taken_cases}
use Rattle.ledger.proofs.Steps.{next_grows, first_none, then, dims_stay}
use Rattle.ledger.proofs.Entries.{enters_was, entered_next, entered_before}
use Rattle.ledger.proofs.Holdings.{Before, before, out_now}
use Rattle.ledger.proofs.Lawful.{at_most_four, taken_listed}
use Rattle.ledger.proofs.Sources.{Source, source}
use Rattle.ledger.proofs.Counts.{places_after}

module _ {M : Type 0} (fits : M → Bool) where
  -- a parent of what is in or out has a child
  no_orphan : (L : Ledger M) → Sound fits L → (p q : ℕ) → is_taken (L.known p) ≡ true → IsIn q (parents p) → has_child L q ≡ false → ⊥
  unfolding has_child
  no_orphan L h p q a e f =
      both_ways (is_taken (L.known p) && list_any (eqb q) (parents p))
      (any_none (λ r. is_taken (L.known r) && list_any (eqb q) (parents r)) (inner_places L.dims) f p (taken_listed fits L h p a))
      (and_from (is_taken (L.known p)) _ a (any_has (eqb q) (parents p) q e (eq-eqb q q refl)))

  -- a parent of what is in or out after a call is in after it
  parent_stays : (L : Ledger M) → Sound fits L → (c : Call M) (p q : ℕ) → IsIn q (parents p) → Source fits L c p → is_in ((then fits L c).known q) ≡ true
  unfolding event
  parent_stays L h c p q e b = by b (entered_in (L.known q) (was b))
    where
      was : Source fits L c p → is_in (L.known q) ≡ true
      was (inl a) = h.parents_in p a q e
      was (inr d) = every_listed (λ r. is_in (L.known r)) (parents p) d.drawable.parents_in q e

      -- a removal draws nothing
      lost : Removes q (event fits L c) → has_child L q ≡ false → Source fits L c p → ⊥
      lost r n (inl a) = no_orphan L h p q a e n
      lost r n (inr d) = cc (r.0, d.call)

      by : Source fits L c p → (x : M) × (L.known q ≡ entered x) → is_in ((then fits L c).known q) ≡ true
      by b w = elim (entered_next fits L c q w.0 w.1) [ inl k ↦ in_entered ((then fits L c).known q) w.0 k | inr r ↦ absurd (lost r.0 r.1 b) ]

  -- a sound ledger is sound after any call
  sound_on : (L : Ledger M) → Sound fits L → (c : Call M) → Sound fits (then fits L c)
  sound_on L h c = record {
    dimensions = ap (within 1 4) same ∙ h.dimensions;
    lawful = λ p a. ap (λ d. first (no_point d p)) same ∙ good p (source fits L c p a);
    parents_in = λ p a q e. parent_stays L h c p q e (source fits L c p a);
    fit = λ p x e. fit p x (entered_before fits L c p x e);
    within_room = places_after fits L h c;
    issued = λ p o e. issued p o (before fits L c p o e);
  }
    where
      same : (then fits L c).dims ≡ L.dims
      same = dims_stay fits L c

      good : (p : ℕ) → Source fits L c p → first (no_point L.dims p) ≡ None
      good p (inl a) = h.lawful p a
      good p (inr d) = d.drawable.lawful

      fit : (p : ℕ) (x : M) → (L.known p ≡ entered x) ⊎ Enters p x (event fits L c) → fits x ≡ true
      fit p x (inl k) = h.fit p x k
      fit p x (inr w) = (enters_was fits L c p x w).3

      issued : (p : ℕ) (o : Holding) → Before fits L p o (event fits L c) → o.ticket < (then fits L c).next
      issued p o (inl w) = omega (arith, h.issued p o w.0, next_grows fits L c)
      issued p o (inr w) = (out_now fits L c (ticket_of L p o) o.session w.0).1

  new_dimensions : (f : Figures) → within 1 4 (make {M = M} f).dims ≡ true
  unfolding make make_by
  new_dimensions f = elim (first (figure_causes f)) as (λ v. first (figure_causes f) ≡ v → within 1 4 (make_by {M = M} v f).dims ≡ true) [
    | None ↦ λ e. not-false _ (first_none (figure_causes f) e).0
    | Some r ↦ λ e. refl
  ] refl

  -- nothing is in or out of a new ledger
  none_taken : (k : Known M) → k ≡ free → is_taken k ≡ true → ⊥
  none_taken k e t = elim (taken_cases k t) [ inl w ↦ cc w.1 | inr w ↦ cc w.1 ]

  new_places : (f : Figures) → counted is_taken (make {M = M} f) ≤ (make {M = M} f).room
  unfolding counted
  new_places f =
      let n = count_at_most (λ q. is_taken ((make {M = M} f).known q)) (inner_places (make {M = M} f).dims) [] (listed_points _ (at_most_four _ (new_dimensions f))).once (λ q m t. none_taken _ (new_free f q) t) in
      omega arith

  new_sound : (f : Figures) → Sound fits (make f)
  new_sound f = record {
    dimensions = new_dimensions f;
    lawful = λ p a. absurd (none_taken _ (new_free f p) a);
    parents_in = λ p a q e. absurd (none_taken _ (new_free f p) a);
    fit = λ p x e. cc (new_free f p, e);
    within_room = new_places f;
    issued = λ p o e. cc (new_free f p, e);
  }

  pub stays_sound : StaysSound fits
  stays_sound = record { new = new_sound; on = sound_on }

  sound_after : (L : Ledger M) → Sound fits L → (cs : List (Call M)) → Sound fits (end_from fits L cs)
  unfolding end_from
  sound_after L h [] = h
  sound_after L h (c ∷ cs) = sound_after (then fits L c) (sound_on L h c) cs

  -- so the ledger at the end of a course is sound
  pub sound_end : (f : Figures) (cs : List (Call M)) → Sound fits (end_from fits (make f) cs)
  sound_end f cs = sound_after (make f) (new_sound f) cs
