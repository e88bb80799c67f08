use Rattle.std.proofs.Common.{ℕ, ◌<◌, get_or}
use Rattle.l2_templates.specs.declared.form.Form.{Form}
use Rattle.l2_goal_laws.specs.Fits.{IsFormOf}
use Rattle.l2_ending_certificates.proofs.over.are_over.Given as goal

abbrev pub invariant-loop-form : goal.invariant-loop-form
invariant-loop-form l = (k : ℕ) (d : Form) → k < l.form-index → IsFormOf l.vars (get_or l.forms k d)
