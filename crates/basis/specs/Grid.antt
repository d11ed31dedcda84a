-- Points and places of a grid. Each is the list of its coordinates, one for each axis.
use Rattle.std.specs.Prelude.{ℕ, ◌+◌, ◌*◌, List, [], ◌∷◌, ◌++◌, map}
use Rattle.basis.specs.Lists.{IsIn, AllDistinct, choices}
use Rattle.basis.specs.Axis.{Axis}

-- a coordinate of each axis
abbrev pub Inside : List Axis → List ℕ → Type 0
Inside [] [] = Unit {0}
Inside [] (k ∷ ks) = ⊥
Inside (a ∷ ax) [] = ⊥
Inside (a ∷ ax) (k ∷ ks) = IsIn k a.coords × Inside ax ks

-- all inner places
unfoldable pub places : List Axis → List (List ℕ)
places ax = choices (map (λ (a : Axis). a.coords) ax)

-- the numbers f of the coordinates together
unfoldable pub total : (Axis → ℕ → ℕ) → List Axis → List ℕ → ℕ
total f [] p = 0
total f (a ∷ ax) [] = 0
total f (a ∷ ax) (k ∷ ks) = f a k + total f ax ks

-- the level sum of a point
abbrev pub level_sum : List Axis → List ℕ → ℕ
level_sum = total (λ (a : Axis). a.level)

-- the product of a point's widths is 2 to this power: s
abbrev pub exponents : List Axis → List ℕ → ℕ
exponents = total (λ (a : Axis). a.exponent)

-- the integral of a point's hat is 1 over 2 to this power
abbrev pub scales : List Axis → List ℕ → ℕ
scales = total (λ (a : Axis). a.scale)

-- the product of the numerators of a point's hats at a place: N
unfoldable pub numerators : List Axis → List ℕ → List ℕ → ℕ
numerators [] p y = 1
numerators (a ∷ ax) [] y = 0
numerators (a ∷ ax) (k ∷ ks) [] = 0
numerators (a ∷ ax) (k ∷ ks) (j ∷ js) = a.numerator k j * numerators ax ks js

-- the parents of a point in all directions: one coordinate is replaced by a parent of it
unfoldable pub parents : List Axis → List ℕ → List (List ℕ)
parents [] p = []
parents (a ∷ ax) [] = []
parents (a ∷ ax) (k ∷ ks) = map (λ j. j ∷ ks) (a.parents k) ++ map (λ q. k ∷ q) (parents ax ks)

-- a set has with each point every parent of it
abbrev pub Closed : List Axis → (List ℕ → Type 0) → Type 0
Closed ax In = (p q : List ℕ) → In p → IsIn q (parents ax p) → In q

-- points of these axes, none twice, and with each point its parents
pub record SparseGrid (ax : List Axis) (points : List (List ℕ)) : Type 0 where
  pub distinct : AllDistinct points
  pub inside : (p : List ℕ) → IsIn p points → Inside ax p
  pub closed : Closed ax (λ p. IsIn p points)
