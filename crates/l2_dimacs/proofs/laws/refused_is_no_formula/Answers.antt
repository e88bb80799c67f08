use Rattle.l2_dimacs.proofs.Whole.{refused_is_no_file}
use Rattle.l2_dimacs.proofs.laws.refused_is_no_formula.Goals as goal

pub returns : goal.returns
returns c = refused_is_no_file
