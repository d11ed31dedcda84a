-- The laws of the basis at a sound ledger.
use Rattle.std.proofs.Common.{◌≡◌, ℕ, ◌-◌, ◌*◌, ◌≤◌, List, None, sym, ap, ◌∙◌, subst, ap₂, arith}
use Rattle.std.proofs.lemmas.Bool.{lt-ltb, le-ltb, not_from_true}
use Rattle.kinds.specs.Group.{Group, Laws, doubled}
use Rattle.kinds.specs.Halving.{Halving, Fits}
use Rattle.points.specs.Points.{coords, number, parents}
use Rattle.points.specs.Refusals.{first}
use Rattle.points.proofs.Points.{numbered}
use Rattle.basis.specs.Lists.{IsIn, SameSet}
use Rattle.basis.specs.Sums.{taken}
use Rattle.basis.specs.Axis.{Axis}
use Rattle.basis.specs.Grid as grid
use Rattle.basis.specs.Grid.{Inside, places, exponents, numerators}
use Rattle.basis.specs.Surplus.{surplus}
use Rattle.basis.specs.Interpolant.{value}
use Rattle.basis.specs.Laws.{Sampled, Shallow}
use Rattle.basis.specs.Numbers.{SameByNumber}
use Rattle.basis.specs.Shapes.{InnerPlaces}
use Rattle.basis.proofs.Algebra.{sum_ext, sum_map}
use Rattle.basis.proofs.Counts as counts
use Rattle.basis.proofs.Lists.{listed_map}
use Rattle.basis.proofs.Local.{order_free}
use Rattle.basis.proofs.Numbers.{numbers_agree}
use Rattle.basis.proofs.Theorems.{reconstruction, existence, uniqueness, integration}
use Rattle.ledger.specs.Ledger.{Ledger, is_in, axes_of, inner_places, no_place}
use Rattle.ledger.specs.Questions.{reply, point_in_causes, points_in, count_of, sample_or, sample_at, samples, surpluses, surplus_at, value_at, integral_of, ask_sample, ask_surplus, ask_value}
use Rattle.ledger.specs.Interpolation.{Listing, Interpolates, SoleCoefficients}
use Rattle.ledger.specs.Sound.{Sound, In}
use Rattle.ledger.proofs.Lists.{kept_only, kept_all, kept_distinct}
use Rattle.basis.proofs.Sets.{same_length}
use Rattle.ledger.proofs.Places.{point_place, parent_inside}
use Rattle.ledger.proofs.Known.{entered_in, in_entered, taken_in}
use Rattle.ledger.proofs.Steps.{none_first}
use Rattle.ledger.proofs.Lawful.{LawfulPoint}
use Rattle.ledger.proofs.Lawful as sound

-- two lists of the same points
listings_same : {M : Type 0} (P : ℕ → M → Type 0) (points others : List (List ℕ)) (u v : List ℕ → M) → Listing P points u → Listing P others v → SameSet points others
listings_same {M} P points others u v l k = record { there = through points others u v l k; back = through others points v u k l }
  where
    through : (xs ys : List (List ℕ)) (f g : List ℕ → M) → Listing P xs f → Listing P ys g → (q : List ℕ) → IsIn q xs → IsIn q ys
    through xs ys f g a b q m = let w = a.only q m in subst (λ r. IsIn r ys) (sym w.2) (b.all w.0 w.1 w.3)

module _ (G : Group) (laws : Laws G) (H : Halving G) (L : Ledger G.Member) (h : Sound H.fits L) where
  abbrev d : ℕ
  d = L.dims

  abbrev ax : List Axis
  ax = axes_of L

  low : d ≤ 4
  low = sound.low H.fits L h

  same : SameByNumber d
  same = numbers_agree d low

  lawful : (p : ℕ) (x : G.Member) → In L p x → LawfulPoint d p
  lawful p x e = sound.lawful H.fits L h p (taken_in (L.known p) x e)

  inside : (p : ℕ) (x : G.Member) → In L p x → Inside ax (coords p)
  inside p x e = same.inside p (lawful p x e).point

  inner : InnerPlaces d (4 - d)
  inner = counts.inner_places d (4 - d)

  -- a parent by coordinates is one by number
  parent_number : (p : ℕ) (x : G.Member) (r : List ℕ) → In L p x → IsIn r (grid.parents ax (coords p)) → IsIn (number r) (parents p)
  parent_number p x r e m = subst (IsIn (number r)) (same.parents_of p (lawful p x e).point) (listed_map number r (grid.parents ax (coords p)) m)

  -- any list of the points in is a sampled grid
  module _ (points : List (List ℕ)) (u : List ℕ → G.Member) (l : Listing (In L) points u) where
    listed_inside : (q : List ℕ) → IsIn q points → Inside ax q
    listed_inside q m = let w = l.only q m in subst (Inside ax) (sym w.2) (inside w.0 w.1 w.3)

    closed : (q r : List ℕ) → IsIn q points → IsIn r (grid.parents ax q) → IsIn r points
    closed q r m e =
        let w = l.only q m in
        let k = h.parents_in w.0 (taken_in (L.known w.0) w.1 w.3) (number r) (parent_number w.0 w.1 r w.3 (subst (λ s. IsIn r (grid.parents ax s)) w.2 e)) in
        let v = entered_in (L.known (number r)) k in
        subst (λ s. IsIn s points) (same.back r (parent_inside d q r (listed_inside q m) e)) (l.all (number r) v.0 v.1)

    sampled : Sampled G d (4 - d) points u
    sampled = record {
      most = omega (arith, low);
      grid = record { distinct = l.once; inside = listed_inside; closed = closed };
      fit = λ q m. let w = l.only q m in subst (Fits G) (sym (ap u w.2 ∙ l.sampled w.0 w.1 w.3)) (H.fits_only w.1 (h.fit w.0 w.1 w.3));
    }

    shallow : Shallow d (4 - d) points
    shallow q m = let w = l.only q m in subst (λ s. grid.level_sum ax s ≤ 16) (sym w.2) (omega (arith, same.levels w.0, (lawful w.0 w.1 w.3).shallow))

  sample_in : (p : ℕ) (x : G.Member) → In L p x → samples G L (coords p) ≡ x
  unfolding sample_at sample_or
  sample_in p x e = ap (sample_at G L) (numbered.back p (lawful p x e).small) ∙ ap (sample_or G.zero) e

  -- the points in are one
  pub all_in : Listing (In L) (points_in L) (samples G L)
  unfolding points_in
  all_in = record {
    once = kept_distinct _ (places ax) inner.distinct;
    only = λ q m.
        let w = kept_only (λ r. is_in (L.known (number r))) (places ax) q m in
        let v = entered_in (L.known (number q)) w.1 in
        (number q, v.0, sym (same.back q (inner.only q w.0)), v.1);
    all = λ p x e. kept_all (λ r. is_in (L.known (number r))) (places ax) (coords p) (inner.all (coords p) (inside p x e)) (ap (λ n. is_in (L.known n)) (numbered.back p (lawful p x e).small) ∙ in_entered (L.known p) x e);
    sampled = sample_in;
  }

  -- a point in is not refused
  in_place : (p : ℕ) (x : G.Member) → In L p x → first (no_place d p) ≡ None
  in_place p x e = let w = lawful p x e in none_first (no_place d p) (not_from_true _ (lt-ltb p _ w.small), (not_from_true _ (point_place d p w.point), tt))

  in_point : (p : ℕ) (x : G.Member) → In L p x → first (point_in_causes L p) ≡ None
  in_point p x e =
      let w = lawful p x e in
      none_first (point_in_causes L p)
      (not_from_true _ (lt-ltb p _ w.small), (not_from_true _ w.point, (le-ltb 16 _ w.shallow, (not_from_true _ (in_entered (L.known p) x e), tt))))

  value_in : (p : ℕ) (x : G.Member) → In L p x → value_at G H L p ≡ x
  unfolding value_at
  value_in p x e = reconstruction G laws H d (4 - d) (points_in L) (samples G L) (sampled _ _ all_in) (coords p) (all_in.all p x e) ∙ sample_in p x e

  pub interpolates : Interpolates G H L (In L)
  unfolding ask_value ask_sample reply
  interpolates = record {
    value_is_sample = λ p x e. ap₂ reply (in_place p x e) (value_in p x e);
    sample_told = λ p x e. ap₂ reply (in_point p x e) (unfold sample_at sample_or in ap (sample_or G.zero) e);
    value_told = λ y e. ap (λ v. reply v (value_at G H L y)) e;
    integral_is_sum = unfold integral_of inner_places value_at in
        (integration G laws H d (4 - d) (points_in L) (samples G L) (sampled _ _ all_in) (shallow _ _ all_in)
        ∙ sum_ext G laws (places ax) _ (λ y. value_at G H L (number y)) (λ y m. ap (value G H ax (points_in L) (samples G L)) (sym (same.back y (inner.only y m))))
        ∙ sym (sum_map G laws number (places ax) (value_at G H L)));
  }

  -- the surpluses are those of any list of the points in
  same_surplus : (points : List (List ℕ)) (u : List ℕ → G.Member) → Listing (In L) points u → (q : List ℕ) → IsIn q points → surplus G H ax u q ≡ surpluses G H L q
  same_surplus points u l =
      (order_free G laws H d (4 - d) points points u (samples G L) (sampled points u l).grid l.once (record { there = λ q m. m; back = λ q m. m })
      (λ q m. let w = l.only q m in ap u w.2 ∙ l.sampled w.0 w.1 w.3 ∙ sym (ap (samples G L) w.2 ∙ sample_in w.0 w.1 w.3))
      ).surpluses

  pub sole : SoleCoefficients G H L (In L)
  unfolding ask_surplus reply count_of surplus_at
  sole = record {
    listed = (points_in L, samples G L, all_in);
    counted = λ points u l. same_length (points_in L) points all_in.once l.once (listings_same (In L) _ _ _ _ all_in l);
    surplus_told = λ p x e. ap (λ v. reply v (surplus_at G H L p)) (in_point p x e);
    meet = λ points u l p m.
        sum_ext G laws points _ _ (λ q k. ap (λ c. doubled G (7 * d - exponents ax q) (taken G (numerators ax q p) c)) (sym (same_surplus points u l q k)))
        ∙ existence G laws H d (4 - d) points u (sampled points u l) p m;
    no_other = λ points u l c k p x e.
        uniqueness G laws H d (4 - d) points u (sampled points u l) c k (coords p) (l.all p x e)
        ∙ same_surplus points u l (coords p) (l.all p x e);
  }
