use Rattle.std.proofs.Common.{◌∙◌, ap, is_some, rules}
use Rattle.std.proofs.lemmas.List.Elements.{filter_from_retain}
use Rattle.l2_templates.specs.Rows.{bounded_rows}
use Rattle.l2_templates.proofs.lists.RowList.keep_bounded.Goals as goal

pub returns : goal.returns
returns c =
    filter_from_retain _ (λ row. is_some row.bound) (λ p x b q h. search rules) _ c.self.inside.rows.items c.retain.new.self.items c.retain.ensures.filtered
    ∙ ap bounded_rows c.self.view_is
