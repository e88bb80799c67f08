use Rattle.std.proofs.Common.{◌≡◌, drop}
use Rattle.l2_templates.specs.Domains.{is_in}
use Rattle.l2_row_engine.proofs.fitting.is_in.Given as goal

abbrev pub invariant-loop-var : goal.invariant-loop-var
invariant-loop-var l = is_in (drop l.var-index l.vars) l.variable ≡ is_in l.vars l.variable
