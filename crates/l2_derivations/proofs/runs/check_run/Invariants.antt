use Rattle.std.proofs.Common.{◌≡◌, ◌≤◌}
use Rattle.l2_derivations.specs.Goals.{AllHold}
use Rattle.l2_derivations.specs.Problems.{goals_of}
use Rattle.l2_derivations.proofs.runs.check_run.Given as goal

-- the goals so far hold, and the checker is of this base
abbrev pub invariant-loop-i : goal.invariant-loop-i
invariant-loop-i g l = record {
  held : AllHold (goals_of l.all) l.from l.i;
  base : l.checker.base ≡ l.all.base.now;
  variables : l.checker.variables ≡ l.all.variables;
  passed : l.from ≤ l.i;
}
