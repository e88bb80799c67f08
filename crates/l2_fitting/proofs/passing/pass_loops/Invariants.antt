use Rattle.std.proofs.Common.{◌≡◌, drop, suc}
use Rattle.l2_program.specs.Programs.{program_tree}
use Rattle.l2_fitting.specs.Said.{loops_said}
use Rattle.l2_fitting.specs.Passing.{pass}
use Rattle.l2_fitting.proofs.passing.pass_loops.Given as goal

abbrev pub invariant-loop-i : goal.invariant-loop-i
invariant-loop-i l = pass (program_tree l.program) l.initial.line (loops_said 1 l.cert.point l.cert.ranks) ≡ pass (program_tree l.program) l.line (loops_said (suc l.i) (drop l.i l.cert.point) (drop l.i l.cert.ranks))
