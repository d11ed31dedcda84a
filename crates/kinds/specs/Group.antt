-- A commutative group whose members have sizes: what the values of a kind mean.
use Rattle.std.specs.Prelude.{◌≡◌, ℕ, zero, suc, ◌+◌, ◌≤◌}

pub record Group : Type 1 where
  pub Member : Type 0
  pub zero : Member
  pub plus : Member → Member → Member
  pub minus : Member → Member
  pub size : Member → ℕ

-- The laws of a commutative group, and those of sizes.
pub record Laws (G : Group) : Type 0 where
  pub plus_assoc : (x y z : G.Member) → G.plus (G.plus x y) z ≡ G.plus x (G.plus y z)
  pub plus_comm : (x y : G.Member) → G.plus x y ≡ G.plus y x
  pub plus_zero : (x : G.Member) → G.plus x G.zero ≡ x
  pub plus_minus : (x : G.Member) → G.plus x (G.minus x) ≡ G.zero
  pub size_zero : G.size G.zero ≡ 0
  pub size_minus : (x : G.Member) → G.size (G.minus x) ≡ G.size x
  pub size_plus : (x y : G.Member) → G.size (G.plus x y) ≤ G.size x + G.size y

-- x + x
abbrev pub twice : (G : Group) → G.Member → G.Member
twice G x = G.plus x x

-- x doubled n times
unfoldable pub doubled : (G : Group) → ℕ → G.Member → G.Member
doubled G zero x = x
doubled G (suc n) x = twice G (doubled G n x)
