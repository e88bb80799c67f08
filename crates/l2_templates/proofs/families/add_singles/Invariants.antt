use Rattle.std.proofs.Common.{◌≡◌, ◌++◌, drop}
use Rattle.l2_templates.specs.Domains.{singles}
use Rattle.l2_templates.proofs.families.add_singles.Given as goal

abbrev pub invariant-loop-v : goal.invariant-loop-v
invariant-loop-v l = l.initial.forms.items ++ singles l.family l.vars ≡ l.forms.items ++ singles l.family (drop l.v-index l.vars)
