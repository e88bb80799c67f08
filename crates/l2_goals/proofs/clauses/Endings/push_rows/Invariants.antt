use Rattle.std.proofs.Common.{◌≡◌, ◌++◌, map}
use Rattle.l2_gates.specs.Gates.{literals_of}
use Rattle.l2_ssa_points.specs.Goals.{goals_of_rows}
use Rattle.l2_goals.specs.Kept.{endings}
use Rattle.l2_goals.proofs.clauses.Endings.push_rows.Given as goal

abbrev pub invariant-loop-i : goal.invariant-loop-i
invariant-loop-i l = map literals_of l.last ≡ map literals_of l.initial.last ++ endings l.self (goals_of_rows l.of_loop 1 l.i)
