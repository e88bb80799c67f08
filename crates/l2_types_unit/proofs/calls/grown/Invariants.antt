use Rattle.std.proofs.Common.{◌≡◌, drop}
use Rattle.l2_types_unit.specs.Calls.{grown}
use Rattle.l2_types_unit.proofs.calls.grown.Given as goal

abbrev pub invariant-loop-c : goal.invariant-loop-c
invariant-loop-c l = grown (drop l.c-index l.calls) l.functions.items ≡ grown l.calls l.initial.functions.items
