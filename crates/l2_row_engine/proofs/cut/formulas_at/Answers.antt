use Rattle.std.proofs.Common.{◌∙◌}
use Rattle.l2_row_engine.proofs.Formulas.{all_at}
use Rattle.l2_row_engine.proofs.cut.formulas_at.Goals as goal

pub returns : goal.returns
returns c = all_at c.formulas_with.result _ _ _ _ _ (c.deref.ensures.value ∙ c.in_ok-kinds.ensures) c.formulas_with.ensures.ok
