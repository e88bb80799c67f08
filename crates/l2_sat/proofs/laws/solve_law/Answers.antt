use Rattle.l2_sat.proofs.Answered.{solve_law}
use Rattle.l2_sat.proofs.laws.solve_law.Goals as goal

pub returns : goal.returns
returns c = solve_law
