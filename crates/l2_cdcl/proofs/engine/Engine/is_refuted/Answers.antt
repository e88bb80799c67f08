use Rattle.std.proofs.Common.{[], sym, subst}
use Rattle.std.specs.Prelude.{Contains}
use Rattle.l2_cdcl.proofs.engine.Engine.is_refuted.Goals as goal

pub returns : goal.returns
returns c = (
  (λ t. subst (λ s. Contains s.learnt []) c.self.view_is (c.self.invariant.found t)),
  (λ h. c.self.invariant.told (subst (λ s. Contains s.learnt []) (sym c.self.view_is) h)),
)
