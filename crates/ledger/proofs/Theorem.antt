-- The guarantees, over every course.
use Rattle.std.proofs.Common.{ℕ, Bool, List}
use Rattle.kinds.specs.Group.{Group, Laws}
use Rattle.kinds.specs.Halving.{Halving}
use Rattle.ledger.specs.Ledger.{Ledger}
use Rattle.ledger.specs.Making.{make}
use Rattle.ledger.specs.Course.{Course, history, end}
use Rattle.ledger.specs.History.{LastEntered}
use Rattle.ledger.specs.Interpolation.{Listing, Interpolates, SoleCoefficients, Agree, Alike}
use Rattle.ledger.specs.Sound.{In, SoundInterpolate}
use Rattle.ledger.specs.Guarantees.{TrueToHistory, Guarantees}
use Rattle.ledger.proofs.Entries.{history_in, in_history}
use Rattle.ledger.proofs.Tickets.{outstanding_out, out_outstanding, tickets_hold}
use Rattle.ledger.proofs.Soundness.{sound_end}
use Rattle.ledger.proofs.Agreement.{agree}
use Rattle.ledger.proofs.Sampled as sampled

-- what holds of the points in by one account holds by another that says the same
module _ (G : Group) (H : Halving G) (L : Ledger G.Member) (P Q : ℕ → G.Member → Type 0)
    (there : (p : ℕ) (x : G.Member) → P p x → Q p x) (back : (p : ℕ) (x : G.Member) → Q p x → P p x) where
  listing_by : (points : List (List ℕ)) (u : List ℕ → G.Member) → Listing P points u → Listing Q points u
  listing_by points u l = record {
    once = l.once;
    only = λ q m. let w = l.only q m in (w.0, w.1, w.2, there w.0 w.1 w.3);
    all = λ p x e. l.all p x (back p x e);
    sampled = λ p x e. l.sampled p x (back p x e);
  }

  interpolates_by : Interpolates G H L Q → Interpolates G H L P
  interpolates_by i = record {
    value_is_sample = λ p x e. i.value_is_sample p x (there p x e);
    sample_told = λ p x e. i.sample_told p x (there p x e);
    value_told = i.value_told;
    integral_is_sum = i.integral_is_sum;
  }

module _ (G : Group) (laws : Laws G) (H : Halving G) where
  pub sound_interpolate : SoundInterpolate G H
  sound_interpolate = record { interpolates = sampled.interpolates G laws H; sole = sampled.sole G laws H; agree = agree G H }

  abbrev fits : G.Member → Bool
  fits = H.fits

  true_to_history : (c : Course G.Member) → TrueToHistory fits c
  true_to_history c = record {
    in_only = in_history fits c.figures c.calls;
    in_all = history_in fits (make c.figures) c.calls;
    out_only = out_outstanding fits c;
    out_all = outstanding_out fits (make c.figures) c.calls;
  }

  interpolates : (c : Course G.Member) → Interpolates G H (end fits c) (LastEntered (history fits c))
  interpolates c =
      let t = true_to_history c in
      interpolates_by G H (end fits c) (LastEntered (history fits c)) (In (end fits c)) t.in_all t.in_only
      (sampled.interpolates G laws H (end fits c) (sound_end fits c.figures c.calls))

  sole : (c : Course G.Member) → SoleCoefficients G H (end fits c) (LastEntered (history fits c))
  sole c =
      let t = true_to_history c in
      let s = sampled.sole G laws H (end fits c) (sound_end fits c.figures c.calls) in
      let read : (points : List (List ℕ)) (u : List ℕ → G.Member) → Listing (LastEntered (history fits c)) points u → Listing (In (end fits c)) points u = listing_by G H (end fits c) _ _ t.in_all t.in_only in
      let told : (points : List (List ℕ)) (u : List ℕ → G.Member) → Listing (In (end fits c)) points u → Listing (LastEntered (history fits c)) points u = listing_by G H (end fits c) _ _ t.in_only t.in_all in
      record {
        listed = (s.listed.0, s.listed.1, told _ _ s.listed.2);
        counted = λ points u l. s.counted points u (read points u l);
        surplus_told = λ p x e. s.surplus_told p x (t.in_all p x e);
        meet = λ points u l. s.meet points u (read points u l);
        no_other = λ points u l k m p x e. s.no_other points u (read points u l) k m p x (t.in_all p x e);
      }

  courses_agree : (b c : Course G.Member) → Alike (end fits b) (end fits c) (LastEntered (history fits b)) (LastEntered (history fits c)) → Agree G H (end fits b) (end fits c)
  courses_agree b c a =
      let s = true_to_history b in
      let t = true_to_history c in
      agree G H (end fits b) (end fits c)
      (record {
        dims = a.dims;
        there = λ p x e. t.in_all p x (a.there p x (s.in_only p x e));
        back = λ p x e. s.in_all p x (a.back p x (t.in_only p x e));
      })

  pub guarantees : Guarantees G H
  guarantees = record { true_to_history = true_to_history; interpolates = interpolates; sole = sole; agree = courses_agree; tickets = tickets_hold fits }
