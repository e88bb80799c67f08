use Rattle.std.proofs.Common.{◌≡◌, drop}
use Rattle.l2_code.specs.Trees.{items_of, join}
use Rattle.l2_labels.specs.Spliced.{singles}
use Rattle.l2_labels.proofs.labels.+labels.Given as goal

-- what is done, and what is left
abbrev pub invariant-merged-loop-item : goal.invariant-merged-loop-item
invariant-merged-loop-item l = join (items_of l.all.items) (singles l.stays (items_of (drop l.item-index l.before))) ≡ singles l.stays (items_of l.before)
