use Rattle.std.proofs.Common.{◌≡◌, drop}
use Rattle.std.specs.Prelude.{◌↔◌}
use Rattle.l2_cnf.specs.Steps.{Leads}
use Rattle.l2_rup.specs.Checked.{known_of}
use Rattle.l2_rup.proofs.hints.follow.Given as goal

abbrev pub invariant-loop-i : goal.invariant-loop-i
invariant-loop-i l = record {
  variables : l.trail.variables ≡ l.initial.trail.variables;
  leads : Leads (known_of l.known) l.initial.trail.literals l.hints ↔ Leads (known_of l.known) l.trail.literals (drop l.i l.hints);
}
