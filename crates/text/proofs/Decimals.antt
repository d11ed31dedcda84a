-- The number that digits write, read digit by digit.
use Rattle.std.proofs.Common.{◌≡◌, ℕ, ◌+◌, ◌-◌, ◌*◌, ◌^◌, ◌<◌, ◌≤◌, true, List, [], ◌∷◌, ◌++◌, length, get_or, take, sym, ap, ◌∙◌, mul_assoc, pow-suc, add-one, arith}
use Rattle.std.proofs.lemmas.List.{take_more, length_push}
use Rattle.std.proofs.lemmas.List.Sums.{AllPass-from_list_all}
use Rattle.std.specs.List.{list_all}
use Rattle.std.proofs.lemmas.Bool.{and_parts, leb-true}
use Rattle.text.specs.Token.{is_digit}
use Rattle.text.specs.Number.{decimal}

-- one power of ten more
ten_more : (i : ℕ) → 10 ^ (i + 1) ≡ 10 ^ i * 10
ten_more i = ap (λ k. 10 ^ k) (add-one i) ∙ pow-suc 10 i

-- one more digit at the end
decimal_push : (ds : List ℕ) (d : ℕ) → decimal (ds ++ (d ∷ [])) ≡ decimal ds * 10 + (d - 48)
decimal_push [] d = omega arith
decimal_push (x ∷ ds) d =
    let power : 10 ^ length (ds ++ (d ∷ [])) ≡ 10 ^ length ds * 10 = ap (λ k. 10 ^ k) (length_push ds d) ∙ ten_more (length ds) in
    let weight : (x - 48) * 10 ^ length (ds ++ (d ∷ [])) ≡ (x - 48) * 10 ^ length ds * 10 = ap (λ p. (x - 48) * p) power ∙ sym (mul_assoc (x - 48) (10 ^ length ds) 10) in
    omega (arith, weight, decimal_push ds d)

module _ (ds : List ℕ) (all : list_all is_digit ds ≡ true) (i : ℕ) (inside : i < length ds) where
  pub digit_at : (48 ≤ get_or ds i 0) × (get_or ds i 0 ≤ 57)
  digit_at = let h = and_parts _ _ (AllPass-from_list_all is_digit ds all i 0 inside) in (leb-true 48 (get_or ds i 0) h.0, leb-true (get_or ds i 0) 57 h.1)

  pub decimal_more : (v x : ℕ) → x ≡ get_or ds i 0 - 48 → (v ≡ decimal (take i ds)) × (v < 10 ^ i) → (v * 10 + x ≡ decimal (take (i + 1) ds)) × (v * 10 + x < 10 ^ (i + 1))
  decimal_more v x digit sofar =
      let d = digit_at in
      let p = ten_more i in
      let step = ap decimal (take_more ds i 0 inside) ∙ decimal_push (take i ds) (get_or ds i 0) in
      (omega (arith, sofar.0, step), omega (arith, sofar.1))
