-- Products of few numbers, none of which is large, as a chain of calls takes them.
use Rattle.std.proofs.Common.{◌≡◌, ℕ, suc, ◌+◌, ◌*◌, ◌^◌, ◌<◌, ◌≤◌, List, [], ◌∷◌, length, Option, sym, refl, ap, ◌∙◌, subst, le_trans, mul_assoc, mul-le-mul_left, mul-le-mul_right, arith, pow_mono, pow-add}
use denote.Param.Members.{Mut}
use Rattle.std.specs.Fn.{Called}
use Rattle.std.specs.List.{fold}
use Rattle.std.specs.Iterator.{Yields}
use Rattle.std.specs.Iterator.Adapters.{map_source, map_callee, map_steps, zip_first, zip_steps}
use Rattle.std.specs.Iterator.Runs.{EachRunFrom, YieldsRun}
use Rattle.std.specs.declared.iter.Map.{Map}
use Rattle.std.specs.declared.iter.Zip.{Zip}
use Rattle.std.proofs.lemmas.Iterator.Adapters.{YieldsAtMost, at_most_from_Zip}

module _ {S A F : Type 0} (steps : S → Option A → S → Type 0) (g : Mut F (A × Unit {0}) ℕ) where
  -- as many calls of the source stand behind the calls of `map`
  source_run : (xs : List ℕ) (s t : Map S F) → Yields (map_steps steps g) s xs t → (ys : List A) × Yields steps (map_source s) ys (map_source t) × (length ys ≡ length xs)
  source_run [] s t y = ([], ap map_source y, refl)
  source_run (r ∷ xs) s t y = let rest = source_run xs y.0 t y.2 in (y.1.0 ∷ rest.0, (map_source y.0, y.1.1, rest.1), ap suc rest.2)

  module _ (f : F) (k : (x : A) (r : ℕ) (q : F) → Called g f (x, tt) r q → (q ≡ f) × (r ≤ 2 ^ 8)) where
    product_at_most : (xs : List ℕ) (a : ℕ) (s t : Map S F) → map_callee s ≡ f → Yields (map_steps steps g) s xs t → fold (λ b x. b * x) a xs ≤ a * 2 ^ (8 * length xs)
    product_at_most [] a s t e y = omega arith
    product_at_most (r ∷ xs) a s t e y =
        let c = k y.1.0 r _ (subst (λ h. Called g h (y.1.0, tt) r (map_callee y.0)) e y.1.2) in
        let rest = 2 ^ (8 * length xs) in
        let eight : 8 * suc (length xs) ≡ 8 + 8 * length xs = omega arith in
        let turn : a * 2 ^ 8 * rest ≡ a * 2 ^ (8 * suc (length xs)) = mul_assoc a (2 ^ 8) rest ∙ ap (λ m. a * m) (sym (pow-add 2 8 (8 * length xs)) ∙ ap (λ n. 2 ^ n) (sym eight)) in
        le_trans (product_at_most xs (a * r) y.0 t c.0 y.2) (subst (λ m. a * r * rest ≤ m) turn (mul-le-mul_right rest (mul-le-mul_left a c.1)))

-- what `product` requires after `map`, of at most four numbers of at most 2^8
pub product_fits : {S A F : Type 0} {steps : S → Option A → S → Type 0} {s : Map S F} (g : Mut F (A × Unit {0}) ℕ) (f : F)
    → YieldsAtMost steps (map_source s) 4 → map_callee s ≡ f → ((x : A) (r : ℕ) (q : F) → Called g f (x, tt) r q → (q ≡ f) × (r ≤ 2 ^ 8))
    → EachRunFrom (map_steps steps g) s (λ p. fold (λ a x. a * x) 1 p.items < 2 ^ 64)
unfolding YieldsRun
product_fits {steps = steps} {s = s} g f few e k = λ p _ at.
    let run = subst (λ u. Yields (map_steps steps g) u p.items p.gave.0.0) at p.gave.0.1 in
    let source = source_run steps g p.items s p.gave.0.0 run in
    let short : length p.items ≤ 4 = omega (arith, source.2, few.runs source.0 _ source.1) in
    let few_bits : 8 * length p.items ≤ 32 = omega (arith, short) in
    let small : 2 ^ (8 * length p.items) ≤ 2 ^ 32 = pow_mono few_bits in
    omega (arith, product_at_most steps g f k p.items 1 s p.gave.0.0 e run, small)

-- a product may begin with any factor
pub fold_times : (a : ℕ) (xs : List ℕ) → fold ◌*◌ a xs ≡ a * fold ◌*◌ 1 xs
fold_times a [] = omega arith
fold_times a (x ∷ xs) = let one : 1 * x ≡ x = omega arith in cc (fold_times (a * x) xs, mul_assoc a x (fold ◌*◌ 1 xs), fold_times x xs)

-- the same after `zip` with other items
pub zipped_product_fits : {S T A B F : Type 0} {steps : S → Option A → S → Type 0} (others : T → Option B → T → Type 0) {s : Map (Zip S T) F} (g : Mut F ((A × B) × Unit {0}) ℕ) (f : F)
    → YieldsAtMost steps (zip_first (map_source s)) 4 → map_callee s ≡ f → ((x : A × B) (r : ℕ) (q : F) → Called g f (x, tt) r q → (q ≡ f) × (r ≤ 2 ^ 8))
    → EachRunFrom (map_steps (zip_steps steps others) g) s (λ p. fold (λ a x. a * x) 1 p.items < 2 ^ 64)
zipped_product_fits others g f few e k = product_fits g f (at_most_from_Zip others few) e k
