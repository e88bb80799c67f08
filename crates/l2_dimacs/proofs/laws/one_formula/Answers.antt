use Rattle.l2_dimacs.specs.Tokens.{tokens}
use Rattle.l2_dimacs.proofs.Once.{one_formula}
use Rattle.l2_dimacs.proofs.laws.one_formula.Goals as goal

pub returns : goal.returns
returns c = λ text v w first second. one_formula (tokens text) v w first second
