-- The parents of a point, direction by direction.
use Rattle.std.proofs.Common.{◌≡◌, ℕ, zero, suc, ◌<◌, List, [], ◌∷◌, map, length, get_or, set, sym, ap, ◌∙◌, subst, inl, inr, arith}
use Rattle.basis.specs.Lists.{IsIn}
use Rattle.basis.specs.Axis.{Axis, trivial}
use Rattle.basis.specs.Grid.{parents}
use Rattle.basis.specs.Shapes.{ParentInDirection, ParentsByDirection}
use Rattle.basis.proofs.Lists.{listed_left, listed_right, listed_split, listed_map, map_listed}

parents_only : (ax : List Axis) (p q : List ℕ) → IsIn q (parents ax p) → ParentInDirection ax p q
unfolding parents
parents_only [] p q h = absurd h
parents_only (a ∷ ax) [] q h = absurd h
parents_only (a ∷ ax) (k ∷ ks) q h = elim (listed_split q (map (λ j. j ∷ ks) (a.parents k)) (map (λ r. k ∷ r) (parents ax ks)) h) [
  | inl m ↦ let w = map_listed (λ j. j ∷ ks) q (a.parents k) m in record { direction = 0; within = omega arith; coord = w.0; is_parent = w.1; replaced = w.2 }
  | inr m ↦ let w = map_listed (λ r. k ∷ r) q (parents ax ks) m in
      let v = parents_only ax ks w.0 w.1 in
      record { direction = suc v.direction; within = omega (arith, v.within); coord = v.coord; is_parent = v.is_parent; replaced = w.2 ∙ ap (λ r. k ∷ r) v.replaced }
]

parents_all : (ax : List Axis) (p : List ℕ) → length p ≡ length ax → (i j : ℕ) → i < length ax → IsIn j ((get_or ax i trivial).parents (get_or p i 0)) → IsIn (set p i j) (parents ax p)
unfolding parents
parents_all [] p e i j l h = absurd (omega arith)
parents_all (a ∷ ax) [] e i j l h = absurd (omega arith)
parents_all (a ∷ ax) (k ∷ ks) e zero j l h = listed_left (j ∷ ks) (map (λ b. b ∷ ks) (a.parents k)) _ (listed_map (λ b. b ∷ ks) j (a.parents k) h)
parents_all (a ∷ ax) (k ∷ ks) e (suc i) j l h =
    listed_right (k ∷ set ks i j) (map (λ b. b ∷ ks) (a.parents k)) _
    (listed_map (λ r. k ∷ r) (set ks i j) (parents ax ks) (parents_all ax ks (omega arith) i j (omega arith) h))

pub parents_by_direction : ParentsByDirection
parents_by_direction ax p e = record {
  only = parents_only ax p;
  all = λ q w. subst (λ r. IsIn r (parents ax p)) (sym w.replaced) (parents_all ax p e w.direction w.coord w.within w.is_parent);
}
