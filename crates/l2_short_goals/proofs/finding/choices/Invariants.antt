use Rattle.std.proofs.Common.{◌≡◌, ◌++◌, drop, map}
use Rattle.l2_short_goals.specs.Taken.{choice_of, values_of, made_choices}
use Rattle.l2_short_goals.proofs.finding.choices.Given as goal

abbrev pub invariant-loop-taken : goal.invariant-loop-taken
invariant-loop-taken l = l.made.items ++ made_choices (values_of l.a) (map choice_of (drop l.taken-index l.all)) ≡ made_choices (values_of l.a) (map choice_of l.all)
