-- How an elaboration goes on from what its first part came to.
use Rattle.l2_program.proofs.Trees.{checked_tree-Block}
use Rattle.l2_small.proofs.SmallTrees.{small_stmt_tree-Block}
use Rattle.l2_small.proofs.Steps.{some_then, none_then, some_map, none_map}
use Rattle.l2_small_check.proofs.Rows.{none_after, chain_of_trees}

pub ruleset steps = (some_then, none_then, some_map, none_map, none_after, chain_of_trees, checked_tree-Block, small_stmt_tree-Block)
