use Rattle.std.proofs.Common.{◌≡◌, drop, map}
use Rattle.l2_program.specs.Programs.{program_tree}
use Rattle.l2_fitting.specs.Said.{Component}
use Rattle.l2_fitting.specs.Passing.{pass}
use Rattle.l2_fitting.proofs.passing.pass_components.Given as goal

abbrev pub invariant-loop-form : goal.invariant-loop-form
invariant-loop-form l = pass (program_tree l.program) l.initial.line (map (Component l.number) l.forms) ≡ pass (program_tree l.program) l.line (map (Component l.number) (drop l.form-index l.forms))
