-- The inner places and the ways: how many there are, and that each stands once.
use Rattle.std.proofs.Common.{◌≡◌, ℕ, zero, suc, ◌*◌, ◌^◌, List, [], ◌∷◌, length, sym, refl, ap, ◌∙◌, subst, inl, inr, mul_comm, one-mul, pow-suc, arith}
use Rattle.basis.specs.Lists.{IsIn, AllDistinct, choices}
use Rattle.basis.specs.Axis.{Axis, zero_border, trivial, down_from, directions}
use Rattle.basis.specs.Grid.{Inside, places}
use Rattle.basis.specs.Surplus.{Move, stay, go_left, go_right, ways}
use Rattle.basis.specs.Shapes.{InnerPlaces, AllWays}
use Rattle.basis.proofs.Lists.{before_listed, listed_before, before_distinct, before_length}
use Rattle.basis.proofs.AxisLaws.{AllLawful}
use Rattle.basis.proofs.Directions.{lawful, length_of}

places_all : (ax : List Axis) (y : List ℕ) → Inside ax y → IsIn y (places ax)
unfolding places choices
places_all [] [] i = inl refl
places_all [] (k ∷ ks) i = absurd i
places_all (a ∷ ax) [] i = absurd i
places_all (a ∷ ax) (k ∷ ks) i = before_listed k ks a.coords (places ax) i.0 (places_all ax ks i.1)

places_only : (ax : List Axis) (y : List ℕ) → IsIn y (places ax) → Inside ax y
unfolding places choices
places_only [] y (inl e) = subst (Inside []) (sym e) tt
places_only [] y (inr h) = absurd h
places_only (a ∷ ax) y h =
    let w = listed_before y a.coords (places ax) h in
    subst (Inside (a ∷ ax)) (sym w.4) (w.2, places_only ax w.1 w.3)

places_distinct : (ax : List Axis) → AllLawful ax → AllDistinct (places ax)
unfolding places choices
places_distinct [] laws = ((λ h. h), tt)
places_distinct (a ∷ ax) laws = before_distinct a.coords (places ax) laws.0.distinct (places_distinct ax laws.1)

places_count : (d n : ℕ) → length (places (directions d n)) ≡ 127 ^ d
unfolding directions places choices zero_border trivial down_from
places_count zero zero = refl
places_count zero (suc n) = before_length (0 ∷ []) (places (directions zero n)) ∙ one-mul _ ∙ places_count zero n
places_count (suc d) n =
    before_length (down_from 127) (places (directions d n)) ∙ ap (λ m. 127 * m) (places_count d n) ∙ mul_comm 127 (127 ^ d) ∙ sym (pow-suc 127 d)

pub inner_places : (d n : ℕ) → InnerPlaces d n
inner_places d n = record {
  count = places_count d n;
  distinct = places_distinct (directions d n) (lawful d n);
  only = places_only (directions d n);
  all = places_all (directions d n);
}

-- the three moves
abbrev three : List Move
three = stay ∷ go_left ∷ go_right ∷ []

three_all : (m : Move) → IsIn m three
three_all stay = inl refl
three_all go_left = inr (inl refl)
three_all go_right = inr (inr (inl refl))

three_distinct : AllDistinct three
three_distinct = (first, (second, ((λ h. h), tt)))
  where
    first : IsIn stay (go_left ∷ go_right ∷ []) → ⊥
    first (inl e) = cc
    first (inr (inl e)) = cc
    first (inr (inr h)) = h

    second : IsIn go_left (go_right ∷ []) → ⊥
    second (inl e) = cc
    second (inr h) = h

ways_all : (ax : List Axis) (w : List Move) → length w ≡ length ax → IsIn w (ways ax)
unfolding ways choices
ways_all [] [] e = inl refl
ways_all [] (m ∷ w) e = absurd (omega arith)
ways_all (a ∷ ax) [] e = absurd (omega arith)
ways_all (a ∷ ax) (m ∷ w) e = before_listed m w three (ways ax) (three_all m) (ways_all ax w (omega arith))

ways_only : (ax : List Axis) (w : List Move) → IsIn w (ways ax) → length w ≡ length ax
unfolding ways choices
ways_only [] w (inl e) = ap length e
ways_only [] w (inr h) = absurd h
ways_only (a ∷ ax) w h = let v = listed_before w three (ways ax) h in ap length v.4 ∙ ap suc (ways_only ax v.1 v.3)

ways_distinct : (ax : List Axis) → AllDistinct (ways ax)
unfolding ways choices
ways_distinct [] = ((λ h. h), tt)
ways_distinct (a ∷ ax) = before_distinct three (ways ax) three_distinct (ways_distinct ax)

ways_count : (ax : List Axis) → length (ways ax) ≡ 3 ^ length ax
unfolding ways choices
ways_count [] = refl
ways_count (a ∷ ax) = before_length three (ways ax) ∙ ap (λ m. 3 * m) (ways_count ax) ∙ mul_comm 3 (3 ^ length ax) ∙ sym (pow-suc 3 (length ax))

pub all_ways : (d n : ℕ) → AllWays d n
all_ways d n = record {
  count = ways_count (directions d n) ∙ ap (λ m. 3 ^ m) (length_of d n);
  distinct = ways_distinct (directions d n);
  only = λ w h. ways_only (directions d n) w h ∙ length_of d n;
  all = λ w e. ways_all (directions d n) w (e ∙ sym (length_of d n));
}
