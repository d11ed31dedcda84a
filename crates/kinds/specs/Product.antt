-- The product of two groups, which pairs of values mean.
use Rattle.std.specs.Prelude.{max}
use Rattle.kinds.specs.Group.{Group}

-- part by part; the size is the greater of two
abbrev pub product : Group → Group → Group
product G H = record {
  Member = G.Member × H.Member;
  zero = (G.zero, H.zero);
  plus = λ x y. (G.plus x.0 y.0, H.plus x.1 y.1);
  minus = λ x. (G.minus x.0, H.minus x.1);
  size = λ x. max (G.size x.0) (H.size x.1);
}
