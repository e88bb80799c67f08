use Rattle.std.proofs.Common.{ℕ, ◌<◌, get_or}
use Rattle.std.specs.Prelude.{pos}
use Rattle.l2_cnf.specs.Assignment.{MakesTrue}
use Rattle.l2_cnf.proofs.assignment.has_true.Given as goal

abbrev pub invariant-loop-literal : goal.invariant-loop-literal
invariant-loop-literal l = (k : ℕ) → k < l.literal-index → ¬ MakesTrue l.a (get_or l.clause k (pos 0))
