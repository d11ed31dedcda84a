-- The hierarchical surplus of a point.
use Rattle.std.specs.Prelude.{◌≡◌, ℕ, suc, List, [], ◌∷◌, map, Some, None, Option}
use Rattle.std.specs.Option.{option_map, option_zip}
use Rattle.kinds.specs.Group.{Group}
use Rattle.kinds.specs.Halving.{Halving}
use Rattle.basis.specs.Lists.{IsIn, choices}
use Rattle.basis.specs.Sums.{sum_over, halved, signed}
use Rattle.basis.specs.Axis.{Axis}

-- what a way does in one direction
pub data Move : Type 0 where
  stay go_left go_right : Move

-- all ways: a move for each direction
unfoldable pub ways : List Axis → List (List Move)
ways ax = choices (map (λ a. stay ∷ go_left ∷ go_right ∷ []) ax)

-- the number of directions moved
unfoldable pub moves : List Move → ℕ
moves [] = 0
moves (stay ∷ w) = moves w
moves (go_left ∷ w) = suc (moves w)
moves (go_right ∷ w) = suc (moves w)

-- where a move leads from a coordinate, unless that is on the border
abbrev pub next : Axis → ℕ → Move → Option ℕ
next a k stay = Some k
next a k go_left = a.left k
next a k go_right = a.right k

-- where a way leads from a point, unless it meets the border
unfoldable pub reached : List Axis → List ℕ → List Move → Option (List ℕ)
reached [] [] [] = Some []
reached [] [] (m ∷ w) = None
reached [] (k ∷ ks) w = None
reached (a ∷ ax) [] w = None
reached (a ∷ ax) (k ∷ ks) [] = None
reached (a ∷ ax) (k ∷ ks) (m ∷ w) = option_map (λ c. c.0 ∷ c.1) (option_zip (next a k m) (reached ax ks w))

-- what a way of n moves adds: nothing if it meets the border, else the sample found there, halved once for each move, and negated if these are odd in number
unfoldable pub added : (G : Group) → Halving G → (List ℕ → G.Member) → ℕ → Option (List ℕ) → G.Member
added G H u n None = G.zero
added G H u n (Some y) = signed G n (halved G H n (u y))

-- the surplus of a point for the samples u
unfoldable pub surplus : (G : Group) → Halving G → List Axis → (List ℕ → G.Member) → List ℕ → G.Member
surplus G H ax u p = sum_over G (ways ax) (λ w. added G H u (moves w) (reached ax p w))

-- the surplus of p reads the sample at y: a way leads there
pub record Reads (ax : List Axis) (p y : List ℕ) : Type 0 where
  pub way : List Move
  pub among : IsIn way (ways ax)
  pub leads : reached ax p way ≡ Some y
