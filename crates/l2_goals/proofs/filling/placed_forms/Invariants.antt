use Rattle.std.proofs.Common.{◌≡◌, ◌++◌, drop, map}
use Rattle.l2_ssa_points.specs.Places.{placed}
use Rattle.l2_goals.proofs.filling.placed_forms.Given as goal

abbrev pub invariant-loop-form : goal.invariant-loop-form
invariant-loop-form l = l.all.items ++ map (placed l.vars) (drop l.form-index l.forms) ≡ map (placed l.vars) l.forms
