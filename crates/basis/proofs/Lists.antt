-- Membership in lists, and lists without repeats.
use Rattle.std.proofs.Common.{◌≡◌, ◌*◌, Bool, true, false, ◌⊎◌, List, [], ◌∷◌, ◌++◌, map, length, sym, refl, ap, ◌∙◌, subst, inl, inr, suc-mul, zero-mul, length-append, arith}
use Rattle.std.specs.List.{list_all, list_any}
use Rattle.std.proofs.lemmas.Bool.{both_ways, and_parts, or_left, or_right, false_from_ne_true}
use Rattle.std.proofs.lemmas.List.{length-map}
use Rattle.basis.specs.Lists.{IsIn, AllDistinct, before}

module _ {X : Type 0} where
  pub listed_left : (x : X) (xs ys : List X) → IsIn x xs → IsIn x (xs ++ ys)
  listed_left x [] ys h = absurd h
  listed_left x (y ∷ xs) ys (inl e) = inl e
  listed_left x (y ∷ xs) ys (inr h) = inr (listed_left x xs ys h)

  pub listed_right : (x : X) (xs ys : List X) → IsIn x ys → IsIn x (xs ++ ys)
  listed_right x [] ys h = h
  listed_right x (y ∷ xs) ys h = inr (listed_right x xs ys h)

  pub listed_split : (x : X) (xs ys : List X) → IsIn x (xs ++ ys) → IsIn x xs ⊎ IsIn x ys
  listed_split x [] ys h = inr h
  listed_split x (y ∷ xs) ys (inl e) = inl (inl e)
  listed_split x (y ∷ xs) ys (inr h) = elim (listed_split x xs ys h) [ inl a ↦ inl (inr a) | inr b ↦ inr b ]

  pub distinct_append : (xs ys : List X) → AllDistinct xs → AllDistinct ys → ((x : X) → IsIn x xs → IsIn x ys → ⊥) → AllDistinct (xs ++ ys)
  distinct_append [] ys d e n = e
  distinct_append (x ∷ xs) ys d e n = (
    (λ h. elim (listed_split x xs ys h) [ inl a ↦ d.0 a | inr b ↦ n x (inl refl) b ]),
    distinct_append xs ys d.1 e (λ z a b. n z (inr a) b),
  )

module _ {X Y : Type 0} (g : X → Y) where
  pub listed_map : (x : X) (xs : List X) → IsIn x xs → IsIn (g x) (map g xs)
  listed_map x [] h = absurd h
  listed_map x (y ∷ xs) (inl e) = inl (ap g e)
  listed_map x (y ∷ xs) (inr h) = inr (listed_map x xs h)

  pub map_listed : (y : Y) (xs : List X) → IsIn y (map g xs) → (x : X) × IsIn x xs × (y ≡ g x)
  map_listed y [] h = absurd h
  map_listed y (x ∷ xs) (inl e) = (x, inl refl, e)
  map_listed y (x ∷ xs) (inr h) = let w = map_listed y xs h in (w.0, inr w.1, w.2)

  -- a map that keeps the elements apart repeats nothing
  pub distinct_map : (xs : List X) → ((a b : X) → IsIn a xs → IsIn b xs → g a ≡ g b → a ≡ b) → AllDistinct xs → AllDistinct (map g xs)
  distinct_map [] apart d = tt
  distinct_map (x ∷ xs) apart d = (
    (λ h. let w = map_listed (g x) xs h in d.0 (subst (λ z. IsIn z xs) (sym (apart x w.0 (inl refl) (inr w.1) w.2)) w.1)),
    distinct_map xs (λ a b h k. apart a b (inr h) (inr k)) d.1,
  )

-- elements before lists
module _ {X : Type 0} where
  pub before_listed : (x : X) (ys : List X) (xs : List X) (yss : List (List X)) → IsIn x xs → IsIn ys yss → IsIn (x ∷ ys) (before xs yss)
  unfolding before
  before_listed x ys [] yss h m = absurd h
  before_listed x ys (z ∷ xs) yss (inl e) m = listed_left (x ∷ ys) (map (λ t. z ∷ t) yss) (before xs yss) (subst (λ t. IsIn (t ∷ ys) (map (λ s. z ∷ s) yss)) (sym e) (listed_map (λ t. z ∷ t) ys yss m))
  before_listed x ys (z ∷ xs) yss (inr h) m = listed_right (x ∷ ys) (map (λ t. z ∷ t) yss) (before xs yss) (before_listed x ys xs yss h m)

  -- the first element and the rest of one of them
  pub listed_before : (ts : List X) (xs : List X) (yss : List (List X)) → IsIn ts (before xs yss) → (x : X) × (ys : List X) × IsIn x xs × IsIn ys yss × (ts ≡ x ∷ ys)
  unfolding before
  listed_before ts [] yss h = absurd h
  listed_before ts (z ∷ xs) yss h = elim (listed_split ts (map (λ t. z ∷ t) yss) (before xs yss) h) [
    | inl m ↦ let w = map_listed (λ t. z ∷ t) ts yss m in (z, w.0, inl refl, w.1, w.2)
    | inr m ↦ let w = listed_before ts xs yss m in (w.0, w.1, inr w.2, w.3, w.4)
  ]

  pub before_distinct : (xs : List X) (yss : List (List X)) → AllDistinct xs → AllDistinct yss → AllDistinct (before xs yss)
  unfolding before
  before_distinct [] yss d e = tt
  before_distinct (z ∷ xs) yss d e =
      distinct_append (map (λ t. z ∷ t) yss) (before xs yss) (distinct_map (λ t. z ∷ t) yss (λ a b h k q. cc) e) (before_distinct xs yss d.1 e)
      (λ ts m h.
      let w = map_listed (λ t. z ∷ t) ts yss m in
      let v = listed_before ts xs yss h in
      let q : z ≡ v.0 = cc (w.2, v.4) in
      d.0 (subst (λ t. IsIn t xs) (sym q) v.2))

  pub before_length : (xs : List X) (yss : List (List X)) → length (before xs yss) ≡ length xs * length yss
  unfolding before
  before_length [] yss = sym (zero-mul (length yss))
  before_length (z ∷ xs) yss =
      omega (arith, length-append (map (λ t. z ∷ t) yss) (before xs yss), length-map yss (λ (t : List X). z ∷ t), before_length xs yss, suc-mul (length xs) (length yss))

-- what passes everywhere passes at each element
pub every_listed : {X : Type 0} (f : X → Bool) (xs : List X) → list_all f xs ≡ true → (x : X) → IsIn x xs → f x ≡ true
every_listed f [] t x h = absurd h
every_listed f (y ∷ ys) t x (inl e) = ap f e ∙ (and_parts (f y) (list_all f ys) t).0
every_listed f (y ∷ ys) t x (inr h) = every_listed f ys (and_parts (f y) (list_all f ys) t).1 x h

-- what passes at an element passes somewhere
pub any_has : {X : Type 0} (f : X → Bool) (xs : List X) (x : X) → IsIn x xs → f x ≡ true → list_any f xs ≡ true
any_has f [] x h e = absurd h
any_has f (y ∷ ys) x (inl q) e = or_left (f y) (list_any f ys) (ap f (sym q) ∙ e)
any_has f (y ∷ ys) x (inr h) e = or_right (f y) (list_any f ys) (any_has f ys x h e)

pub any_none : {X : Type 0} (f : X → Bool) (xs : List X) → list_any f xs ≡ false → (x : X) → IsIn x xs → f x ≡ false
any_none f xs e x h = false_from_ne_true (f x) (λ t. both_ways (list_any f xs) e (any_has f xs x h t))
