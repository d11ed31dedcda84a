-- The laws of a product of two groups, from those of its parts.
use Rattle.std.specs.Prelude.{◌≡◌, ℕ, zero, suc, Bool, true, false, ◌&&◌, ℤ}
use Rattle.std.proofs.Math.Path.{refl, ap}
use Rattle.std.proofs.Common.{sym, ap₂, ◌∙◌, arith}
use Rattle.std.proofs.lemmas.Bool.{and_parts, and_from, true≢false}
use Rattle.kinds.specs.Group.{Group, Laws, twice, doubled}
use Rattle.kinds.specs.Halving.{Halving, UniqueHalves, Fits}
use Rattle.kinds.specs.Numbers.{Numbers}
use Rattle.kinds.specs.Operations.{Fit}
use Rattle.kinds.specs.Product.{product}

module _ (G H : Group) where
  both : {x y : G.Member × H.Member} → x.0 ≡ y.0 → x.1 ≡ y.1 → x ≡ y
  both e f = ap₂ (λ a b. (a, b)) e f

  pub product_laws : Laws G → Laws H → Laws (product G H)
  product_laws g h = record {
    plus_assoc = λ x y z. both (g.plus_assoc x.0 y.0 z.0) (h.plus_assoc x.1 y.1 z.1);
    plus_comm = λ x y. both (g.plus_comm x.0 y.0) (h.plus_comm x.1 y.1);
    plus_zero = λ x. both (g.plus_zero x.0) (h.plus_zero x.1);
    plus_minus = λ x. both (g.plus_minus x.0) (h.plus_minus x.1);
    size_zero = omega (arith, g.size_zero, h.size_zero);
    size_minus = λ x. omega (arith, g.size_minus x.0, h.size_minus x.1);
    size_plus = λ x y. omega (arith, g.size_plus x.0 y.0, h.size_plus x.1 y.1);
  }

  pub product_unique : UniqueHalves G → UniqueHalves H → UniqueHalves (product G H)
  product_unique g h x y e = both (g x.0 y.0 (ap (λ z. z.0) e)) (h x.1 y.1 (ap (λ z. z.1) e))

  doubled_parts : (n : ℕ) (x : G.Member × H.Member) → doubled (product G H) n x ≡ (doubled G n x.0, doubled H n x.1)
  unfolding doubled
  doubled_parts zero x = refl
  doubled_parts (suc n) x = ap (twice (product G H)) (doubled_parts n x)

  fits_both : (x : G.Member × H.Member) → Fits G x.0 → Fits H x.1 → Fits (product G H) x
  fits_both x f k = record { small = omega (arith, f.small, k.small); root = (f.root, k.root); rooted = doubled_parts 28 (f.root, k.root) ∙ both f.rooted k.rooted }

  fits_first : (x : G.Member × H.Member) → Fits (product G H) x → Fits G x.0
  fits_first x f = record { small = omega (arith, f.small); root = f.root.0; rooted = ap (λ z. z.0) (sym (doubled_parts 28 f.root) ∙ f.rooted) }

  fits_second : (x : G.Member × H.Member) → Fits (product G H) x → Fits H x.1
  fits_second x f = record { small = omega (arith, f.small); root = f.root.1; rooted = ap (λ z. z.1) (sym (doubled_parts 28 f.root) ∙ f.rooted) }

  -- the test of fit as the code finds it: once the first part fits, the second tells; once it does not, the pair does not
  pub fit_second_told : (x : G.Member × H.Member) (b : Bool) → Fits G x.0 → Fit H x.1 b → Fit (product G H) x b
  fit_second_told x true f k = fits_both x f k
  fit_second_told x false f k = λ e. k (fits_second x e)

  pub fit_first_told : (x : G.Member × H.Member) (b : Bool) → b ≡ false → Fit G x.0 b → Fit (product G H) x b
  fit_first_told x true e f = absurd (true≢false e)
  fit_first_told x false e f = λ k. f (fits_first x k)

  pub product_halving : Halving G → Halving H → Halving (product G H)
  product_halving g h = record {
    halve = λ x. (g.halve x.0, h.halve x.1);
    halve_twice = λ x. both (g.halve_twice x.0) (h.halve_twice x.1);
    size_twice = λ x. omega (arith, g.size_twice x.0, h.size_twice x.1);
    fits = λ x. g.fits x.0 && h.fits x.1;
    fits_only = λ x e. let p = and_parts (g.fits x.0) (h.fits x.1) e in fits_both x (g.fits_only x.0 p.0) (h.fits_only x.1 p.1);
    fits_all = λ x f. and_from (g.fits x.0) (h.fits x.1) (g.fits_all x.0 (fits_first x f)) (h.fits_all x.1 (fits_second x f));
  }

  pub product_numbers : (i : ℤ → G.Member) (j : ℤ → H.Member) → Numbers G i → Numbers H j → Numbers (product G H) (λ n. (i n, j n))
  product_numbers i j g h = record {
    fit = λ n r. fits_both (i n, j n) (g.fit n r) (h.fit n r);
    sums = λ m n r s t. both (g.sums m n r s t) (h.sums m n r s t);
    apart = λ m n r s e. g.apart m n r s (ap (λ z. z.0) e);
  }
