use Rattle.std.proofs.Common.{◌≡◌, ◌<◌, ℕ, length, get_or}
use Rattle.std.specs.Prelude.{pos}
use Rattle.l2_cnf.specs.Assignment.{MakesTrue}
use Rattle.l2_cdcl.proofs.model.assignment_of.Given as goal

abbrev pub invariant-loop-i : goal.invariant-loop-i
invariant-loop-i l = record {
  len : length l.values ≡ l.watch.variables;
  made : (k : ℕ) → k < l.i → MakesTrue l.values (get_or l.watch.past.literals k (pos 0));
}
