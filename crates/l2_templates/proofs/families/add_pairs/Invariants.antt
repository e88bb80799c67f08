use Rattle.std.proofs.Common.{◌≡◌, ◌++◌, take, length}
use Rattle.l2_templates.specs.Domains.{pairs}
use Rattle.l2_templates.proofs.families.add_pairs.Given as goal

abbrev pub invariant-loop-v : goal.invariant-loop-v
invariant-loop-v l = take 1024 (l.initial.forms.items ++ pairs l.family l.vars) ≡ take 1024 (l.forms.items ++ pairs l.family l.rest)

abbrev pub decreases-loop-v : goal.decreases-loop-v
decreases-loop-v l = length l.rest
