use Rattle.std.proofs.Common.{◌≡◌, ◌++◌, drop, map}
use Rattle.l2_lower.specs.Code.{code_check}
use Rattle.l2_lower.proofs.tables.checks.Given as goal

abbrev pub invariant-loop-c : goal.invariant-loop-c
invariant-loop-c l = l.checks.items ++ map code_check (drop l.c-index l.all) ≡ map code_check l.initial.all
