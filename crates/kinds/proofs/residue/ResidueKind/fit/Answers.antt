use Rattle.kinds.specs.Residues.{mersenne, class}
use Rattle.kinds.specs.ResiduesLemmas.{residue_fits}
use Rattle.kinds.proofs.residue.ResidueKind.fit.Goals as goal

pub returns : goal.returns
returns c = residue_fits mersenne (class mersenne c.args.self.bits)
