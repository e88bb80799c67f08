use Rattle.std.proofs.Common.{◌≡◌, ◌++◌, List, OnOk, ap, sym, subst, ◌∙◌}
use Rattle.l2_code.specs.declared.code.Item.{Item}
use Rattle.l2_code.specs.Trees.{tree_of, items_of}
use Rattle.l2_code.proofs.Items.{tree_of-Loop}
use Rattle.l2_inclusions.specs.declared.inclusion.Inclusion.{Inclusion}
use Rattle.l2_points.specs.Gathering.{of_node, of_nodes}
use Rattle.l2_points.proofs.gather.+gathers.Goals as goal

pub of_item-returns-in-Loop : goal.of_item-returns-in-Loop
of_item-returns-in-Loop t c =
    let e = ap (λ (xs : List Item). of_nodes (items_of xs)) c.deref-in-Loop.ensures.value ∙ sym (ap of_node (ap tree_of c.in-Loop.is ∙ tree_of-Loop c.in-Loop.field-0 c.in-Loop.items)) in
    subst (λ (added : List Inclusion). OnOk c.of_items-in-Loop.result (c.of_items-in-Loop.new.list.items ≡ c.args.list.now.items ++ added)) e c.of_items-in-Loop.ensures
