use Rattle.std.proofs.Common.{◌≡◌, ◌++◌, drop, map}
use Rattle.l2_code.specs.Sets.{family}
use Rattle.l2_ssa.specs.Views.{steps_of}
use Rattle.l2_short_goals.specs.Taken.{choice_of, choices_of}
use Rattle.l2_short_goals.proofs.taking.all_taken.Given as goal

abbrev pub invariant-loop-i : goal.invariant-loop-i
invariant-loop-i l = map choice_of l.all.items ++ choices_of l.words l.i (steps_of (family l.ssa.sets.now) (drop l.i l.ssa.steps.items)) ≡ choices_of l.words 0 (steps_of (family l.ssa.sets.now) l.ssa.steps.items)
