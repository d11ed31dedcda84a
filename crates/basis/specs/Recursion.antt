-- The surplus once more, direction by direction.
use Rattle.std.specs.Prelude.{◌≡◌, ℕ, suc, List, [], ◌∷◌, Some, None, Option}
use Rattle.kinds.specs.Group.{Group}
use Rattle.kinds.specs.Halving.{Halving}
use Rattle.basis.specs.Sums.{halved, signed}
use Rattle.basis.specs.Axis.{Axis}
use Rattle.basis.specs.Surplus.{surplus}

-- f at a coordinate, and nothing on the border
abbrev pub there : (G : Group) → Option ℕ → (ℕ → G.Member) → G.Member
there G None f = G.zero
there G (Some k) f = f k

-- the ways in these directions, after n moves in the directions before them
unfoldable pub surplus_after : (G : Group) → Halving G → List Axis → ℕ → (List ℕ → G.Member) → List ℕ → G.Member
surplus_after G H [] n u [] = signed G n (halved G H n (u []))
surplus_after G H [] n u (k ∷ ks) = G.zero
surplus_after G H (a ∷ ax) n u [] = G.zero
surplus_after G H (a ∷ ax) n u (k ∷ ks) =
    G.plus (surplus_after G H ax n (λ q. u (k ∷ q)) ks)
    (G.plus
    (there G (a.left k) (λ j. surplus_after G H ax (suc n) (λ q. u (j ∷ q)) ks))
    (there G (a.right k) (λ j. surplus_after G H ax (suc n) (λ q. u (j ∷ q)) ks)))

-- the surplus is the sum direction by direction
abbrev pub ByDirections : Group → Type 0
ByDirections G = (H : Halving G) (ax : List Axis) (u : List ℕ → G.Member) (p : List ℕ) → surplus G H ax u p ≡ surplus_after G H ax 0 u p
