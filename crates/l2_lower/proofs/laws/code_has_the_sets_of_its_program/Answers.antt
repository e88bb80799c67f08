use Rattle.l2_lower.proofs.PointsTo.{closed_program, points_to}
use Rattle.l2_lower.proofs.laws.code_has_the_sets_of_its_program.Goals as goal

pub returns-clause-closed : goal.returns-clause-closed
returns-clause-closed c = closed_program

pub returns-clause-least : goal.returns-clause-least
returns-clause-least c = points_to
