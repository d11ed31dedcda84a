-- Lists as sets, and all choices of one element from each of several lists.
use Rattle.std.specs.Prelude.{◌≡◌, ◌⊎◌, List, [], ◌∷◌, ◌++◌, map}

-- x stands in the list
abbrev pub IsIn : {X : Type 0} → X → List X → Type 0
IsIn x [] = ⊥
IsIn x (y ∷ ys) = (x ≡ y) ⊎ IsIn x ys

-- no element stands twice
abbrev pub AllDistinct : {X : Type 0} → List X → Type 0
AllDistinct [] = Unit {0}
AllDistinct (x ∷ xs) = (IsIn x xs → ⊥) × AllDistinct xs

-- two lists have the same elements
pub record SameSet {X : Type 0} (xs ys : List X) : Type 0 where
  pub there : (x : X) → IsIn x xs → IsIn x ys
  pub back : (x : X) → IsIn x ys → IsIn x xs

-- each of the elements before each of the lists
unfoldable pub before : {X : Type 0} → List X → List (List X) → List (List X)
before [] yss = []
before (x ∷ xs) yss = map (λ ys. x ∷ ys) yss ++ before xs yss

-- the lists that have an element of the first list, then one of the second, and so on
unfoldable pub choices : {X : Type 0} → List (List X) → List (List X)
choices [] = [] ∷ []
choices (xs ∷ xss) = before xs (choices xss)
