use Rattle.std.proofs.Common.{◌≡◌, drop, Some}
use Rattle.l2_code.specs.Trees.{Loop, items_of}
use Rattle.l2_ssa.specs.Views.{kind_of}
use Rattle.l2_walker.specs.Made.{state_of, temps_of}
use Rattle.l2_walk.specs.Nodes.{after_node, after_nodes, turns_left}
use Rattle.l2_walk.proofs.nodes.+walks.Given as goal

abbrev pub invariant-node-loop-left : goal.invariant-node-loop-left
invariant-node-loop-left l =
    turns_left (state_of l.walker) l.turns.number (items_of l.items.items) (kind_of (Some l.turns.kind)) l.turns.back l.turns.counting (temps_of l.turns.temps.items) l.left
    ≡ after_node (state_of l.fn.walker) l.fn.counting (Loop l.turns.number (items_of l.items.items))

abbrev pub decreases-node-loop-left : goal.decreases-node-loop-left
decreases-node-loop-left l = l.left

abbrev pub invariant-nodes-loop-item : goal.invariant-nodes-loop-item
invariant-nodes-loop-item l = after_nodes (state_of l.walker) l.counting (items_of (drop l.item-index l.items)) ≡ after_nodes (state_of l.fn.walker) l.counting (items_of l.items)
