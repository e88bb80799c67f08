use Rattle.l2_ssa_points.proofs.Ties as ties
use Rattle.l2_ssa_points.proofs.laws.points_test.Goals as goal

pub returns-clause-start : goal.returns-clause-start
returns-clause-start c = ties.points_start

pub returns-clause-test : goal.returns-clause-test
returns-clause-test c = ties.points_test
