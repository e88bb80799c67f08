use Rattle.std.proofs.Common.{◌≡◌, drop}
use Rattle.l2_templates.specs.Forms.{lower_than}
use Rattle.l2_templates.proofs.form.lower_than.Given as goal

abbrev pub invariant-loop-form : goal.invariant-loop-form
invariant-loop-form l = lower_than l.ranking l.before l.after ≡ lower_than (drop l.form-index l.ranking) l.before l.after
