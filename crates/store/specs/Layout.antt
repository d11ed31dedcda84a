-- How the items lie in the lent memory.
use Rattle.std.specs.Prelude.{◌≡◌, ℕ, List, map, length, take, Option, ◌≢◌}
use Rattle.std.specs.List.{slice_get, zip}
use Rattle.store.specs.declared.entry.Entry.{Entry}

-- the first n points of the entries, each beside the record of the same number
unfoldable pub held : {S : Type 0} → List Entry → List S → ℕ → List (ℕ × S)
held es ss n = take n (zip (map (λ e. e.point) es) ss)

-- o stands at i, and all else is as before
pub record Written {S : Type 0} (ss ts : List S) (i : ℕ) (o : Option S) : Type 0 where
  pub len : length ts ≡ length ss
  pub here : slice_get ts i ≡ o
  pub others : (k : ℕ) → (k ≢ i) → slice_get ts k ≡ slice_get ss k
