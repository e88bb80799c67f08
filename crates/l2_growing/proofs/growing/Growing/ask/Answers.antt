use Rattle.std.proofs.Common.{subst}
use Rattle.l2_gates.specs.Gates.{Made, literals_of}
use Rattle.l2_short_goals.specs.Taken.{values_of}
use Rattle.l2_growing.specs.Models.{HasModelWith, IsModelWith}
use Rattle.l2_growing.proofs.Asking.{sat_case, unsat_case}
use Rattle.l2_growing.proofs.growing.Growing.ask.Goals as goal

pub returns-in-Sat-clause-is : goal.returns-in-Sat-clause-is
returns-in-Sat-clause-is c =
    subst (λ (m : Made). IsModelWith (values_of c.in-Sat.values) m (literals_of c.args.literals.now)) c.self.view_is
    (sat_case c.self.inside.variables c.self.inside.session.list c.self.invariant c.args.literals.now c.in_ok-check_literals.ensures c.in_ok-values.field-0 c.in-Sat.values _ _ c.in_ok-values.ensures.answer c.in-Sat.is)

pub returns-clause-is : goal.returns-clause-is
returns-clause-is c =
    subst (λ (m : Made). ¬ HasModelWith m (literals_of c.args.literals.now)) c.self.view_is
    (unsat_case c.self.inside.variables c.self.inside.session.list c.self.invariant c.args.literals.now c.in_ok-check_literals.ensures c.in_ok-values.field-0 c.in-Unsat.field-0 _ _ c.in_ok-values.ensures.answer c.in-Unsat.is)
