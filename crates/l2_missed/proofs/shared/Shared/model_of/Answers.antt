use Rattle.std.proofs.Common.{List, ◌++◌, ◌∷◌, [], refl, sym, subst}
use Rattle.std.specs.Prelude.{ℤ}
use Rattle.l2_cnf.specs.Assignment.{IsSatisfied}
use Rattle.l2_missed.specs.Meeting.{HasModel}
use Rattle.l2_missed.proofs.Asking.{sat_case, unsat_case}
use Rattle.l2_missed.proofs.shared.Shared.model_of.Goals as goal

pub returns-in-Sat-clause-is : goal.returns-in-Sat-clause-is
returns-in-Sat-clause-is c =
    subst (λ (x : List (List ℤ)). IsSatisfied c.in-Sat.values (x ++ (c.args.literal ∷ []) ∷ [])) c.self.view_is (sat_case _ c.in_ok-values.field-0 c.in-Sat.values c.args.literal _ _ c.in_ok-values.ensures.answer c.in-Sat.is)

pub returns-clause-is : goal.returns-clause-is
returns-clause-is c = λ h.
    unsat_case _ c.in_ok-values.field-0 _ c.args.literal _ _ c.in_ok-values.ensures.answer c.in-Unsat.is (subst (λ (x : List (List ℤ)). HasModel (x ++ (c.args.literal ∷ []) ∷ [])) (sym c.self.view_is) h)
