-- The laws of residues: sums, halves, fit and whole numbers, for every odd modulus that is wide enough.
use Rattle.std.specs.Prelude.{◌≡◌, ℕ, zero, suc, ◌+◌, ◌-◌, ◌/◌, ◌%◌, ◌<◌, ◌≤◌, true, cond, ◌⊎◌, ℤ, pos, negsuc, ◌+ℤ◌, ◌==◌, ◌≢◌, nat_lt}
use Rattle.std.proofs.Math.Path.{refl, ap}
use Rattle.std.proofs.Common.{sym, subst, ◌∙◌, inl, inr, zero-le, mod-eq_of_lt, add_assoc, add_comm, add-zero, arith, leb→le}
use Rattle.std.proofs.Math.Logic.{⊎_elim}
use Rattle.std.proofs.Math.Bridge.{le_prop}
use Rattle.std.proofs.Math.Nat.{mod_self, zero-mod, mod-add-mod, add-mod-mod, add-mod, add-mod_right, mod-mod}
use Rattle.std.proofs.Math.IntN.{sub_ℕ}
use Rattle.std.proofs.lemmas.Int.{ints}
use Rattle.std.proofs.lemmas.Bool.{cases_lt, cases_eq, eq-eqb, ne_eqb, cond-true, cond-false, lt-ltb, le-ltb}
use Rattle.kinds.specs.Group.{Laws, twice, doubled}
use Rattle.kinds.specs.Halving.{Halving, UniqueHalves, Fits}
use Rattle.kinds.specs.Numbers.{Numbers, InRange}
use Rattle.kinds.specs.Residues.{Modulus, ResidueClass, class, residues, whole_residue}

module _ (p : Modulus) where
  -- a residue is told by its least number
  pub residue_same : {x y : ResidueClass p} → x.least ≡ y.least → x ≡ y
  residue_same {x} {y} e =
      subst (λ (b : ℕ). (k : b < p.modulus) → x ≡ record { least = b; below = k }) e (λ k. ap (λ (q : x.least < p.modulus). record { least = x.least; below = q }) (le_prop x.below k)) y.below

  least_of : (x : ResidueClass p) → x.least % p.modulus ≡ x.least
  least_of x = mod-eq_of_lt x.below

  pub residue_laws : Laws (residues p)
  residue_laws = record {
    plus_assoc = λ x y z. residue_same (mod-add-mod (x.least + y.least) p.modulus z.least ∙ ap (λ n. n % p.modulus) (add_assoc x.least y.least z.least) ∙ sym (add-mod-mod x.least (y.least + z.least) p.modulus));
    plus_comm = λ x y. residue_same (ap (λ n. n % p.modulus) (add_comm x.least y.least));
    plus_zero = λ x. residue_same (ap (λ n. n % p.modulus) (ap (λ k. x.least + k) (zero-mod p.modulus) ∙ add-zero x.least) ∙ least_of x);
    plus_minus = λ x. residue_same (add-mod-mod x.least (p.modulus - x.least) p.modulus ∙ ap (λ n. n % p.modulus) (let h = x.below in let e : x.least + (p.modulus - x.least) ≡ p.modulus = omega arith in e) ∙ mod_self p.modulus ∙ sym (zero-mod p.modulus));
    size_zero = refl;
    size_minus = λ x. refl;
    size_plus = λ x y. zero-le;
  }

  -- a number below twice the modulus, and what is left of it
  once : (n : ℕ) → n < p.modulus + p.modulus → (n % p.modulus ≡ n) ⊎ (n % p.modulus + p.modulus ≡ n)
  once n h = ⊎_elim (λ l. inl (mod-eq_of_lt l)) (λ l. inr (over l)) (cases_lt n p.modulus)
    where
      over : p.modulus ≤ n → n % p.modulus + p.modulus ≡ n
      over l =
          let e : n - p.modulus + p.modulus ≡ n = omega arith in
          let r : (n - p.modulus) % p.modulus ≡ n - p.modulus = mod-eq_of_lt (omega arith) in
          let s : n % p.modulus ≡ n - p.modulus = ap (λ k. k % p.modulus) (sym e) ∙ add-mod_right (n - p.modulus) p.modulus ∙ r in
          omega arith

  pub residue_unique : UniqueHalves (residues p)
  residue_unique x y e =
      let h = x.below in
      let k = y.below in
      let o = p.odd in
      let s = ap (λ (z : ResidueClass p). z.least) e in
      let a = once (x.least + x.least) (omega arith) in
      let b = once (y.least + y.least) (omega arith) in
      residue_same (omega arith)

  half_least : ℕ → ℕ
  half_least a = cond (a % 2 == 0) (a / 2) ((a + p.modulus) / 2)

  half : ResidueClass p → ResidueClass p
  half x = class p (half_least x.least)

  half_exact : (x : ResidueClass p) → twice (residues p) (half x) ≡ x
  unfolding half half_least
  half_exact x = residue_same (sym (add-mod (half_least x.least) (half_least x.least) p.modulus) ∙ ⊎_elim even uneven (cases_eq (x.least % 2) 0))
    where
      even : x.least % 2 ≡ 0 → (half_least x.least + half_least x.least) % p.modulus ≡ x.least
      even e = let h = cond-true (x.least % 2 == 0) (x.least / 2) ((x.least + p.modulus) / 2) (eq-eqb (x.least % 2) 0 e) in ap (λ k. k % p.modulus) (omega arith) ∙ least_of x

      uneven : (x.least % 2 ≢ 0) → (half_least x.least + half_least x.least) % p.modulus ≡ x.least
      uneven e =
          let h = cond-false (x.least % 2 == 0) (x.least / 2) ((x.least + p.modulus) / 2) (ne_eqb (x.least % 2) 0 e) in
          let o = p.odd in
          ap (λ k. k % p.modulus) (let s : half_least x.least + half_least x.least ≡ x.least + p.modulus = omega arith in s) ∙ add-mod_right x.least p.modulus ∙ least_of x

  halved : ℕ → ResidueClass p → ResidueClass p
  halved zero x = x
  halved (suc n) x = halved n (half x)

  halved_back : (n : ℕ) (x : ResidueClass p) → doubled (residues p) n (halved n x) ≡ x
  unfolding halved doubled
  halved_back zero x = refl
  halved_back (suc n) x = ap (twice (residues p)) (halved_back n (half x)) ∙ half_exact x

  -- every residue fits
  pub residue_fits : (x : ResidueClass p) → Fits (residues p) x
  residue_fits x = record { small = zero-le; root = halved 28 x; rooted = halved_back 28 x }

  -- every residue is the double of one
  pub residue_half : (x : ResidueClass p) → (y : ResidueClass p) × (twice (residues p) y ≡ x)
  residue_half x = (half x, half_exact x)

  pub residue_halving : Halving (residues p)
  residue_halving = record {
    halve = half;
    halve_twice = λ x. residue_unique (half (twice (residues p) x)) x (half_exact (twice (residues p) x));
    size_twice = λ x. zero-le;
    fits = λ x. true;
    fits_only = λ x e. residue_fits x;
    fits_all = λ x f. refl;
  }

  -- a number of the range has its own residue below the modulus
  whole_below : (n : ℤ) → InRange n → whole_residue p n < p.modulus
  whole_below (pos a) r = let w = p.wide in omega (arith, ints)
  whole_below (negsuc a) r = let w = p.wide in omega (arith, ints)

  difference : (a b : ℕ) → b < p.modulus → whole_residue p (sub_ℕ a (suc b)) % p.modulus ≡ (a + (p.modulus - suc b)) % p.modulus
  difference a b h = ⊎_elim under over (cases_lt a (suc b))
    where
      under : a < suc b → whole_residue p (sub_ℕ a (suc b)) % p.modulus ≡ (a + (p.modulus - suc b)) % p.modulus
      under l =
          ap (λ z. whole_residue p z % p.modulus) (cond-true (nat_lt a (suc b)) (negsuc (suc b - suc a)) (pos (a - suc b)) (lt-ltb a (suc b) l))
          ∙ ap (λ n. n % p.modulus) (let e : p.modulus - suc (suc b - suc a) ≡ a + (p.modulus - suc b) = omega arith in e)

      over : suc b ≤ a → whole_residue p (sub_ℕ a (suc b)) % p.modulus ≡ (a + (p.modulus - suc b)) % p.modulus
      over l =
          ap (λ z. whole_residue p z % p.modulus) (cond-false (nat_lt a (suc b)) (negsuc (suc b - suc a)) (pos (a - suc b)) (le-ltb a (suc b) l))
          ∙ sym (add-mod_right (a - suc b) p.modulus)
          ∙ ap (λ n. n % p.modulus) (let e : a - suc b + p.modulus ≡ a + (p.modulus - suc b) = omega arith in e)

  whole_sums : (m n : ℤ) → InRange m → InRange n → whole_residue p (m +ℤ n) % p.modulus ≡ (whole_residue p m + whole_residue p n) % p.modulus
  whole_sums (pos a) (pos b) r s = refl
  whole_sums (pos a) (negsuc b) r s = difference a b (let w = p.wide in omega (arith, ints))
  whole_sums (negsuc a) (pos b) r s = difference b a (let w = p.wide in omega (arith, ints)) ∙ ap (λ n. n % p.modulus) (add_comm b (p.modulus - suc a))
  whole_sums (negsuc a) (negsuc b) r s =
      let w = p.wide in
      let e : p.modulus - suc (suc (a + b)) + p.modulus ≡ p.modulus - suc a + (p.modulus - suc b) = omega (arith, leb→le a 65535 r.low.le, leb→le b 65535 s.low.le) in
      sym (add-mod_right (p.modulus - suc (suc (a + b))) p.modulus) ∙ ap (λ n. n % p.modulus) e

  whole_apart : (m n : ℤ) → InRange m → InRange n → whole_residue p m ≡ whole_residue p n → m ≡ n
  whole_apart (pos a) (pos b) r s e = ap pos e
  whole_apart (pos a) (negsuc b) r s e = let w = p.wide in omega (arith, ints)
  whole_apart (negsuc a) (pos b) r s e = let w = p.wide in omega (arith, ints)
  whole_apart (negsuc a) (negsuc b) r s e = let w = p.wide in omega (arith, ints)

  pub residue_numbers : Numbers (residues p) (λ n. class p (whole_residue p n))
  residue_numbers = record {
    fit = λ n r. residue_fits (class p (whole_residue p n));
    sums = λ m n r s t. residue_same (whole_sums m n r s ∙ add-mod (whole_residue p m) (whole_residue p n) p.modulus);
    apart = λ m n r s e. whole_apart m n r s (sym (mod-eq_of_lt (whole_below m r)) ∙ ap (λ (z : ResidueClass p). z.least) e ∙ mod-eq_of_lt (whole_below n s));
  }

  -- a half as the code finds it, by its double
  pub half_told : (b h : ℕ) → (h + h ≡ b % p.modulus) ⊎ (h + h ≡ b % p.modulus + p.modulus) → twice (residues p) (class p h) ≡ class p b
  half_told b h d = residue_same (sym (add-mod h h p.modulus) ∙ go d)
    where
      go : (h + h ≡ b % p.modulus) ⊎ (h + h ≡ b % p.modulus + p.modulus) → (h + h) % p.modulus ≡ b % p.modulus
      go (inl e) = ap (λ n. n % p.modulus) e ∙ mod-mod b p.modulus
      go (inr e) = ap (λ n. n % p.modulus) e ∙ add-mod_right (b % p.modulus) p.modulus ∙ mod-mod b p.modulus

  -- the whole number of a residue as the code finds it
  pub back_told : {n : ℤ} (b : ℕ) → InRange n → (pos (b % p.modulus) ≡ n) ⊎ (pos (b % p.modulus) ≡ n +ℤ pos p.modulus) → InRange n × (class p (whole_residue p n) ≡ class p b)
  back_told {n} b r d = (r, residue_same (go n r d))
    where
      go : (n : ℤ) → InRange n → (pos (b % p.modulus) ≡ n) ⊎ (pos (b % p.modulus) ≡ n +ℤ pos p.modulus) → whole_residue p n % p.modulus ≡ b % p.modulus
      go (pos a) r (inl e) = ap (λ n. n % p.modulus) (let f : a ≡ b % p.modulus = omega (arith, ints) in f) ∙ mod-mod b p.modulus
      go (pos a) r (inr e) = absurd (let l = (class p b).below in omega (arith, ints))
      go (negsuc a) r (inl e) = absurd (omega (arith, ints))
      go (negsuc a) r (inr e) = ap (λ n. n % p.modulus) (let w = p.wide in let f : p.modulus - suc a ≡ b % p.modulus = omega (arith, ints) in f) ∙ mod-mod b p.modulus

  pub back_none : (b : ℕ) → 65536 < b % p.modulus → 65536 < p.modulus - b % p.modulus → (n : ℤ) → InRange n → class p (whole_residue p n) ≢ class p b
  back_none b low high n r e = go n r (sym (mod-eq_of_lt (whole_below n r)) ∙ ap (λ (z : ResidueClass p). z.least) e)
    where
      go : (n : ℤ) → InRange n → whole_residue p n ≢ b % p.modulus
      go (pos a) r f = omega (arith, ints)
      go (negsuc a) r f = omega (arith, ints)
