use Rattle.kinds.specs.Residues.{class}
use Rattle.kinds.specs.ResiduesLemmas.{residue_fits}
use Rattle.modular.specs.Million.{million}
use Rattle.modular.proofs.ModularKind.fit.Goals as goal

pub returns : goal.returns
returns c = residue_fits million (class million c.args.self.count)
