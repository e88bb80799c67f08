use Rattle.std.proofs.Common.{◌≡◌, ◌++◌, drop, map, suc}
use Rattle.l2_gates.specs.Gates.{literals_of}
use Rattle.l2_goals.specs.Formulas.{rows_of_kinds}
use Rattle.l2_goals.specs.Kept.{endings}
use Rattle.l2_goals.proofs.clauses.Endings.push_all_rows.Given as goal

abbrev pub invariant-loop-i : goal.invariant-loop-i
invariant-loop-i l = map literals_of l.initial.last ++ endings l.self (rows_of_kinds 1 l.kinds) ≡ map literals_of l.last ++ endings l.self (rows_of_kinds (suc l.i) (drop l.i l.kinds))
