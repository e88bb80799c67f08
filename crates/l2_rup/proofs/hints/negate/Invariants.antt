use Rattle.std.proofs.Common.{◌≡◌, map, take}
use Rattle.std.specs.Prelude.{neg_ℤ}
use Rattle.l2_cnf.specs.Trail.{AreOver, AreApart}
use Rattle.l2_rup.proofs.hints.negate.Given as goal

abbrev pub invariant-loop-literal : goal.invariant-loop-literal
invariant-loop-literal l = record {
  variables : l.trail.variables ≡ l.initial.trail.variables;
  literals : l.trail.literals ≡ map neg_ℤ (take l.literal-index l.clause);
  over : AreOver l.trail.variables (take l.literal-index l.clause);
  apart : AreApart (take l.literal-index l.clause);
}
