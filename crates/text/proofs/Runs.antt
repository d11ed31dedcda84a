-- The longest run at the front of a text, and its parts.
use Rattle.std.proofs.Common.{◌≡◌, ℕ, ◌≤◌, Bool, true, false, List, [], ◌∷◌, ◌++◌, length, take, drop, sym, refl, ap, ◌∙◌, subst, arith}
use Rattle.std.proofs.lemmas.List.Folds.{length-prefix_len}
use Rattle.std.proofs.lemmas.List.Sums.{prefix_len-le-length, take_while-cons}
use Rattle.std.proofs.lemmas.Bool.{cond-true, cond-false, and_parts, and_from}
use Rattle.std.specs.List.{list_all}
use Rattle.text.specs.Token.{longest_run}
use Rattle.text.specs.Longest.{Ends}

-- how many bytes of a class are at the front
abbrev pub count : (ℕ → Bool) → List ℕ → ℕ
count class bs = length (longest_run class bs)

-- a run is a front of its text
pub run_take : (class : ℕ → Bool) (bs : List ℕ) → take (count class bs) bs ≡ longest_run class bs
run_take class bs = ap (λ k. take k bs) (length-prefix_len class bs)

-- the run at a byte of the class, and at another
pub run_on : (class : ℕ → Bool) (b : ℕ) (bs : List ℕ) → class b ≡ true → longest_run class (b ∷ bs) ≡ b ∷ longest_run class bs
run_on class b bs e = take_while-cons class b bs ∙ cond-true (class b) _ _ e

pub run_off : (class : ℕ → Bool) (b : ℕ) (bs : List ℕ) → class b ≡ false → longest_run class (b ∷ bs) ≡ []
run_off class b bs e = take_while-cons class b bs ∙ cond-false (class b) _ _ e

-- the longest run, and what follows it
pub record Parts (class : ℕ → Bool) (bs run rest : List ℕ) : Type 0 where
  pub split : bs ≡ run ++ rest
  pub all : list_all class run ≡ true
  pub ends : Ends class rest

-- the longest run has these parts
pub run_parts : (class : ℕ → Bool) (bs : List ℕ) → Parts class bs (longest_run class bs) (drop (count class bs) bs)
run_parts class [] = record { split = refl; all = refl; ends = tt }
run_parts class (b ∷ bs) = go (class b) refl (run_parts class bs)
  where
    go : (v : Bool) → class b ≡ v → Parts class bs (longest_run class bs) (drop (count class bs) bs) → Parts class (b ∷ bs) (longest_run class (b ∷ bs)) (drop (count class (b ∷ bs)) (b ∷ bs))
    go true e h = subst (λ r. Parts class (b ∷ bs) r (drop (length r) (b ∷ bs))) (sym (run_on class b bs e)) (record { split = ap (λ l. b ∷ l) h.split; all = and_from _ _ e h.all; ends = h.ends })
    go false e h = subst (λ r. Parts class (b ∷ bs) r (drop (length r) (b ∷ bs))) (sym (run_off class b bs e)) (record { split = refl; all = refl; ends = e })

-- bytes of a class before others are the longest run
pub run_whole : (class : ℕ → Bool) (w rest : List ℕ) → list_all class w ≡ true → Ends class rest → longest_run class (w ++ rest) ≡ w
run_whole class [] [] e c = refl
run_whole class [] (b ∷ bs) e c = run_off class b bs c
run_whole class (b ∷ w) rest e c = let h = and_parts _ _ e in run_on class b (w ++ rest) h.0 ∙ ap (λ l. b ∷ l) (run_whole class w rest h.1 c)
