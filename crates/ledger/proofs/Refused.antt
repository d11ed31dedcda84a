-- A refused call leaves the ledger, or frees the point of a sample that does not fit.
use Rattle.std.proofs.Common.{◌≡◌, Bool, false, true, ◌⊎◌, refl, inl, inr}
use Rattle.points.specs.declared.refusal.Refusal.{Refusal}
use Rattle.points.specs.declared.refusal.Refusal.TheVariants.{Sample}
use Rattle.ledger.specs.Ledger.{free, Ledger, Ticket, is_held}
use Rattle.ledger.specs.Calls.{Call, enter, refused, Outcome, with_point, step}
use Rattle.ledger.specs.Refused.{RefusalsLeave}
use Rattle.ledger.proofs.Steps.{Way, refuses, draws, takes, spoils, returns, sweeps, removes, way}

module _ {M : Type 0} (fits : M → Bool) (L : Ledger M) where
  -- a refusal is for no sample and leaves the ledger, or is for one that does not fit
  abbrev Refusing : Call M → Outcome M → Refusal → Type 0
  Refusing c o e =
      ((e ≡ Sample → ⊥) × (o.after ≡ L))
      ⊎ ((e ≡ Sample) × ((t : Ticket) × (x : M) × (c ≡ enter t x) × (is_held L t ≡ true) × (fits x ≡ false) × (o.after ≡ with_point L t.point free)))

  refused_along : (c : Call M) (o : Outcome M) → Way fits L c o → (e : Refusal) → o.answer ≡ refused e → Refusing c o e
  refused_along c o (refuses b r k) e a = inl ((λ s. k (cc)), refl)
  refused_along c o (draws p s k) e a = cc
  refused_along c o (takes t x h f) e a = cc
  refused_along c o (spoils t x h f) e a = inr (cc, (t, x, refl, h, f, refl))
  refused_along c o (returns t h) e a = cc
  refused_along c o (sweeps s m) e a = cc
  refused_along c o (removes p k) e a = cc

pub refusals_leave : {M : Type 0} (fits : M → Bool) → RefusalsLeave fits
refusals_leave fits = record {
  same = λ L c e a n. elim (refused_along fits L c (step fits L c) (way fits L c) e a) [ inl w ↦ w.1 | inr w ↦ absurd (n w.0) ];
  frees = λ L c a. elim (refused_along fits L c (step fits L c) (way fits L c) Sample a) [ inl w ↦ absurd (w.0 refl) | inr w ↦ w.1 ];
}
