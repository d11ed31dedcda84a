-- Two ledgers with the same points in and equal samples answer the same.
use Rattle.std.proofs.Common.{◌≡◌, ℕ, Bool, false, not, List, [], ◌∷◌, ◌++◌, filter, sym, refl, ap, ◌∙◌, inl, inr}
use Rattle.std.proofs.lemmas.Bool.{both_ways, cases_Bool, false_from_ne_true}
use Rattle.kinds.specs.Group.{Group}
use Rattle.kinds.specs.Halving.{Halving}
use Rattle.points.specs.Points.{coords, number}
use Rattle.points.specs.Refusals.{cause, first}
use Rattle.points.specs.declared.refusal.Refusal.TheVariants.{PointNotIn}
use Rattle.basis.specs.Axis.{four_axes}
use Rattle.basis.specs.Grid.{places}
use Rattle.basis.specs.Surplus.{surplus}
use Rattle.basis.specs.Interpolant.{value, integral}
use Rattle.ledger.specs.Ledger.{Known, free, drawn, entered, Ledger, is_in, no_point, no_place}
use Rattle.ledger.specs.Questions.{reply, points_in, sample_or, sample_at, surplus_at, value_at, integral_of, ask_surplus, ask_value}
use Rattle.ledger.specs.Interpolation.{Agree, Alike}
use Rattle.ledger.specs.Sound.{In}
use Rattle.ledger.proofs.Known.{entered_in, in_entered}

-- two ledgers with the same dimensions, points in and samples
module _ (G : Group) (H : Halving G) (L K : Ledger G.Member) (alike : Alike L K (In L) (In K)) where
  same_in : (p : ℕ) → is_in (L.known p) ≡ is_in (K.known p)
  same_in p = elim (cases_Bool (is_in (L.known p))) [
    | inl a ↦ let w = entered_in (L.known p) a in a ∙ sym (in_entered (K.known p) w.0 (alike.there p w.0 w.1))
    | inr a ↦ a ∙ sym (false_from_ne_true (is_in (K.known p)) (λ b. let w = entered_in (K.known p) b in both_ways (is_in (L.known p)) a (in_entered (L.known p) w.0 (alike.back p w.0 w.1))))
  ]

  no_sample : (k : Known G.Member) → is_in k ≡ false → sample_or G.zero k ≡ G.zero
  unfolding is_in sample_or
  no_sample free e = refl
  no_sample (drawn o) e = refl
  no_sample (entered x) e = cc e

  same_sample : (p : ℕ) → sample_at G L p ≡ sample_at G K p
  unfolding sample_at
  same_sample p = elim (cases_Bool (is_in (L.known p))) [ inl a ↦ let w = entered_in (L.known p) a in ap (sample_or G.zero) (w.1 ∙ sym (alike.there p w.0 w.1)) | inr a ↦ no_sample (L.known p) a ∙ sym (no_sample (K.known p) (sym (same_in p) ∙ a)) ]

  -- all that the questions look at: the dimensions, which points are in, and the samples
  abbrev View : Type 0
  View = ℕ × (ℕ → Bool) × (ℕ → G.Member)

  same_view : ◌≡◌ {A = View} (L.dims, (λ p. is_in (L.known p)), sample_at G L) (K.dims, (λ p. is_in (K.known p)), sample_at G K)
  same_view = λ i. (alike.dims i, (λ p. same_in p i), λ p. same_sample p i)

  abbrev listed : View → List (List ℕ)
  listed v = filter (λ q. v.1 (number q)) (places (four_axes v.0))

  pub agree : Agree G H L K
  unfolding ask_surplus ask_value integral_of surplus_at value_at points_in
  agree = record {
    surpluses = λ p. ap (λ (v : View). reply (first (no_point v.0 p ++ cause PointNotIn (not (v.1 p)) ∷ [])) (surplus G H (four_axes v.0) (λ q. v.2 (number q)) (coords p))) same_view;
    values = λ y. ap (λ (v : View). reply (first (no_place v.0 y)) (value G H (four_axes v.0) (listed v) (λ q. v.2 (number q)) (coords y))) same_view;
    integrals = ap (λ (v : View). integral G H (four_axes v.0) (listed v) (λ q. v.2 (number q))) same_view;
  }
