use Rattle.std.proofs.Common.{arith, subst, sym, ◌∙◌}
use Rattle.l2_code.specs.Sets.{Rises}
use Rattle.l2_inclusions.specs.Rows.{RowsValue, Grows}
use Rattle.l2_inclusions.proofs.Sharing.{grows_push, rows_push, value_push}
use Rattle.l2_inclusions.proofs.rows.Rows.keep.Goals as goal

pub invariant_of-self-2 : goal.invariant_of-self-2
invariant_of-self-2 c =
    rows_push c.self.inside.sets.items c.push.new.self.items c.self.inside.at.items _ (omega arith) c.in_ok-push.ensures.items c.self.invariant (subst Rises (sym c.new.ensures) c.requires)

pub returns-clause-grows : goal.returns-clause-grows
returns-clause-grows c =
    let g = grows_push c.self.inside.sets.items c.push.new.self.items c.self.inside.at.items _ c.in_ok-push.ensures.items in
    subst (λ (r : RowsValue). Grows r (record { sets = c.push.new.self.items; at = c.self.inside.at.items })) c.self.view_is g

pub returns-clause-value : goal.returns-clause-value
returns-clause-value c = value_push c.self.inside.sets.items c.push.new.self.items c.len-2.result _ c.in_ok-push.ensures.items (omega (arith, c.len-2.ensures)) ∙ c.new.ensures
