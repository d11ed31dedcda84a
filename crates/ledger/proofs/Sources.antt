-- What is in or out after a call was so before it, or is drawn by it.
use Rattle.std.proofs.Common.{◌≡◌, ℕ, Bool, true, ◌⊎◌, sym, ap, ◌∙◌, inl, inr}
use Rattle.ledger.specs.Ledger.{Ledger, is_taken}
use Rattle.ledger.specs.Calls.{Call, draw, step}
use Rattle.ledger.specs.Course.{event}
use Rattle.ledger.proofs.Known.{taken_in, taken_out, taken_cases}
use Rattle.ledger.proofs.Steps.{Drawable, then}
use Rattle.ledger.proofs.Entries.{enters_was, entered_before}
use Rattle.ledger.proofs.Holdings.{before}
use Rattle.ledger.proofs.Tickets.{draw_accepted}

module _ {M : Type 0} (fits : M → Bool) where
  -- the call is an accepted draw of q
  pub record DrawsNow (L : Ledger M) (c : Call M) (q : ℕ) : Type 0 where
    pub session : ℕ
    pub call : c ≡ draw q session
    pub drawable : Drawable L q

  -- in or out before, or drawn now
  abbrev pub Source : Ledger M → Call M → ℕ → Type 0
  Source L c q = (is_taken (L.known q) ≡ true) ⊎ DrawsNow L c q

  -- so is what is in or out after a call
  pub source : (L : Ledger M) (c : Call M) (q : ℕ) → is_taken ((then fits L c).known q) ≡ true → Source L c q
  unfolding event
  source L c q e = elim (taken_cases ((then fits L c).known q) e) [
    | inl w ↦ elim (entered_before fits L c q w.0 w.1) [
      | inl k ↦ inl (taken_in (L.known q) w.0 k)
      | inr v ↦ let u = enters_was fits L c q w.0 v in inl (taken_out (L.known q) u.0 u.1)
    ]
    | inr w ↦ elim (before fits L c q w.0 w.1) [
      | inl v ↦ inl (taken_out (L.known q) w.0 v.0)
      | inr v ↦ let call = v.0.0 in
          inr (record { session = w.0.session; call = call; drawable = draw_accepted fits L q w.0.session _ (ap (λ b. (step fits L b).answer) (sym call) ∙ v.0.1) })
    ]
  ]
