use Rattle.std.proofs.Common.{◌≡◌, ◌++◌, drop}
use Rattle.l2_templates.specs.Domains.{with_later}
use Rattle.l2_templates.proofs.families.add_with_later.Given as goal

abbrev pub invariant-loop-w : goal.invariant-loop-w
invariant-loop-w l = l.initial.forms.items ++ with_later l.family l.v l.later ≡ l.forms.items ++ with_later l.family l.v (drop l.w-index l.later)
