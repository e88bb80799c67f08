-- Code, node by node.
use Rattle.std.proofs.Common.{◌≡◌}
use Rattle.l2_code.specs.declared.action.Operand.{Operand}
use Rattle.l2_code.specs.Trees.{Node, Nodes, more}
use Rattle.l2_ssa.specs.Walks.{nothing, past, walk, walk_node}
use Rattle.l2_walker.specs.Made.{State, setting}
use Rattle.l2_walker.proofs.States.{put_joined}
use Rattle.l2_walk.specs.Nodes.{after_node, after_nodes}

pub nodes_more : (s : State) (c : Operand) (x : Node) (rest : Nodes) → after_nodes s c (more x rest) ≡ after_nodes (after_node s c x) c rest
nodes_more s c x rest =
    let o = walk_node (setting s) x s.frames c s.names s.walk in
    put_joined s nothing o (walk (setting s) rest s.frames c (past s.names o.steps) o.after)
