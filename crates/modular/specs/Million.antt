-- An odd modulus just above a million.
use Rattle.std.specs.Prelude.{refl}
use Rattle.std.proofs.Common.{lit<}
use Rattle.kinds.specs.Residues.{Modulus}

abbrev pub million : Modulus
million = record { modulus = 1000003; low_half = 500001; odd = refl; wide = lit< tt }
