-- Trees of blocks.
use Rattle.l2_program.proofs.Trees.{checked_tree-Block}

pub ruleset steps = (checked_tree-Block)
