use Rattle.std.proofs.Common.{◌≡◌, take}
use Rattle.l2_cnf.specs.Steps.{IsDerivation}
use Rattle.l2_rup.specs.Checked.{formula_of}
use Rattle.l2_derivations.proofs.Accepted.{state}
use Rattle.l2_sat.proofs.checking.check_steps.Given as goal

-- the steps so far were accepted
abbrev pub invariant-loop-i : goal.invariant-loop-i
invariant-loop-i l = record {
  checked : l.checker ≡ state l.initial.checker l.steps l.i;
  derived : IsDerivation (formula_of l.initial.checker) l.initial.checker.variables (take l.i l.steps);
}
