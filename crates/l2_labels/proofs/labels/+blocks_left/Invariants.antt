use Rattle.l2_labels.proofs.labels.+blocks_left.Given as goal

abbrev pub decreases-blocks_left : goal.decreases-blocks_left
decreases-blocks_left l = l.depth
