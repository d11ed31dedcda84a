-- Counts of points, and that the places suffice.
use Rattle.std.proofs.Common.{◌≡◌, ℕ, ◌+◌, ◌≤◌, Bool, true, false, List, [], ◌∷◌, ◌++◌, length, length-append, filter, sym, refl, ◌∙◌, inl, inr, arith}
use Rattle.std.proofs.lemmas.List.Sums.{length-filter}
use Rattle.basis.specs.Lists.{IsIn}
use Rattle.ledger.specs.Ledger.{Known, free, drawn, entered, Ledger, is_taken, knowing, inner_places, counted}
use Rattle.ledger.specs.Calls.{Call, draw, Outcome, step}
use Rattle.ledger.specs.Sound.{Sound, CountsPoints}
use Rattle.ledger.proofs.Lists.{kept_only, kept_all, kept_distinct, count_at_most}
use Rattle.basis.proofs.Lists.{listed_left, listed_right}
use Rattle.basis.proofs.Sets.{same_length}
use Rattle.ledger.proofs.Known.{taken_in, taken_out}
use Rattle.ledger.proofs.Steps.{then, Way, refuses, draws, takes, spoils, returns, sweeps, removes, way}
use Rattle.ledger.proofs.Lawful.{listed, taken_listed}
use Rattle.ledger.proofs.Sources.{Source, source}

module _ {M : Type 0} (fits : M → Bool) where
  -- what a test passes that no free point passes is in or out
  passed_taken : (f : Known M → Bool) → f free ≡ false → (k : Known M) → f k ≡ true → is_taken k ≡ true
  passed_taken f n free e = cc
  passed_taken f n (drawn o) e = taken_out (drawn o) o refl
  passed_taken f n (entered x) e = taken_in (entered x) x refl

  pub counts_points : CountsPoints fits
  unfolding counted
  counts_points L h f n points l =
      let test : ℕ → Bool = λ q. f (L.known q) in
      sym (length-filter test (inner_places L.dims))
      ∙ same_length (filter test (inner_places L.dims)) points (kept_distinct test (inner_places L.dims) (listed fits L h).once) l.once
      (record {
        there = λ p m. l.all p (kept_only test (inner_places L.dims) p m).1;
        back = λ p m. kept_all test (inner_places L.dims) p (taken_listed fits L h p (passed_taken f n (L.known p) (l.only p m))) (l.only p m);
      })

  -- The places suffice along each way of a call. What is in or out after it was so before or is drawn by it.
  module _ (L : Ledger M) (h : Sound fits L) (c : Call M) where
    -- after the call there are at most as many more as it draws
    more : (f : ℕ → Known M) → ((q : ℕ) → is_taken (f q) ≡ true → Source fits L c q) → (drawn_now : List ℕ) → ((q s : ℕ) → c ≡ draw q s → IsIn q drawn_now)
        → counted is_taken (knowing L f) ≤ length drawn_now + counted is_taken L
    unfolding counted
    more f from drawn_now only =
        let test : ℕ → Bool = λ q. is_taken (L.known q) in
        let before = filter test (inner_places L.dims) in
        let all = count_at_most (λ q. is_taken (f q)) (inner_places L.dims) (drawn_now ++ before) (listed fits L h).once (λ q m t. elim (from q t) [
          | inl b ↦ listed_right q drawn_now before (kept_all test (inner_places L.dims) q m b)
          | inr d ↦ listed_left q drawn_now before (only q d.session d.call)
        ]) in
        omega (arith, all, length-append drawn_now before, length-filter test (inner_places L.dims))

    -- a call that draws nothing takes no place
    no_more : (f : ℕ → Known M) → ((q : ℕ) → is_taken (f q) ≡ true → Source fits L c q) → ((q s : ℕ) → c ≡ draw q s → ⊥) → counted is_taken (knowing L f) ≤ L.room
    no_more f from none = omega (arith, more f from [] none, h.within_room)

  places_along : (L : Ledger M) → Sound fits L → (c : Call M) (o : Outcome M) → Way fits L c o → ((q : ℕ) → is_taken (o.after.known q) ≡ true → Source fits L c q) → counted is_taken o.after ≤ o.after.room
  unfolding counted
  places_along L h c o (refuses b r n) from = h.within_room
  places_along L h c o (draws p s k) from = omega (arith, more L h c _ from (p ∷ []) (λ q r e. inl (cc)), k.room_left)
  places_along L h c o (takes t x g f) from = no_more L h c _ from (λ q r e. cc)
  places_along L h c o (spoils t x g f) from = no_more L h c _ from (λ q r e. cc)
  places_along L h c o (returns t g) from = no_more L h c _ from (λ q r e. cc)
  places_along L h c o (sweeps s n) from = no_more L h c _ from (λ q r e. cc)
  places_along L h c o (removes p k) from = no_more L h c _ from (λ q r e. cc)

  -- the points in and out have places after a call
  pub places_after : (L : Ledger M) → Sound fits L → (c : Call M) → counted is_taken (then fits L c) ≤ (then fits L c).room
  places_after L h c = places_along L h c (step fits L c) (way fits L c) (source fits L c)
