-- What a refused call leaves.
use Rattle.std.specs.Prelude.{◌≡◌, Bool, true, false, ◌≢◌}
use Rattle.kinds.specs.Group.{Group}
use Rattle.kinds.specs.Halving.{Halving}
use Rattle.points.specs.declared.refusal.Refusal.{Refusal}
use Rattle.points.specs.declared.refusal.Refusal.TheVariants.{Sample}
use Rattle.ledger.specs.Ledger.{free, Ledger, Ticket, is_held}
use Rattle.ledger.specs.Calls.{Call, enter, refused, with_point, step}

-- fits is the test of fit
pub record RefusalsLeave {M : Type 0} (fits : M → Bool) : Type 0 where
  -- A refusal leaves the ledger as it was, unless it is for a sample.
  pub same : (L : Ledger M) (c : Call M) (e : Refusal) → (step fits L c).answer ≡ refused e → (e ≢ Sample) → (step fits L c).after ≡ L
  -- That one comes for a sample that does not fit, entered with a ticket that is held, and frees the ticket's point.
  pub frees :
      (L : Ledger M) (c : Call M) → (step fits L c).answer ≡ refused Sample
      → (t : Ticket) × (x : M) × (c ≡ enter t x) × (is_held L t ≡ true) × (fits x ≡ false) × ((step fits L c).after ≡ with_point L t.point free)

-- Of a group, whatever halving does off doubles: every refusal leaves the ledger, or frees a point.
abbrev pub EveryRefusal : Group → Type 0
EveryRefusal G = (H : Halving G) → RefusalsLeave H.fits
