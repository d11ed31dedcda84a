-- Sums, multiples, halves and signs in a group.
use Rattle.std.specs.Prelude.{ℕ, zero, suc, ◌%◌, cond, List, [], ◌∷◌, ◌==◌}
use Rattle.kinds.specs.Group.{Group}
use Rattle.kinds.specs.Halving.{Halving}

-- the sum of f over a list
unfoldable pub sum_over : (G : Group) {X : Type 0} → List X → (X → G.Member) → G.Member
sum_over G [] f = G.zero
sum_over G (x ∷ xs) f = G.plus (f x) (sum_over G xs f)

-- x taken n times
unfoldable pub taken : (G : Group) → ℕ → G.Member → G.Member
taken G zero x = G.zero
taken G (suc n) x = G.plus x (taken G n x)

-- x halved n times
unfoldable pub halved : (G : Group) → Halving G → ℕ → G.Member → G.Member
halved G H zero x = x
halved G H (suc n) x = halved G H n (H.halve x)

-- x, negated if n is odd
unfoldable pub signed : (G : Group) → ℕ → G.Member → G.Member
signed G n x = cond (n % 2 == 1) (G.minus x) x
