use Rattle.basis.proofs.Numbers.{numbers_agree}
use Rattle.basis.proofs.shapes.numbers_agree_with_coordinates.Goals as goal

pub returns : goal.returns
returns c = numbers_agree
