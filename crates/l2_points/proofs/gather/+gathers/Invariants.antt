use Rattle.std.proofs.Common.{◌≡◌, ◌++◌, drop}
use Rattle.l2_code.specs.Trees.{items_of}
use Rattle.l2_points.specs.Gathering.{of_nodes}
use Rattle.l2_points.proofs.gather.+gathers.Given as goal

abbrev pub invariant-of_items-loop-item : goal.invariant-of_items-loop-item
invariant-of_items-loop-item l =
    l.list.items ++ of_nodes (items_of (drop l.item-index l.items)) ≡ l.initial.list.items ++ of_nodes (items_of l.items)
