use Rattle.std.proofs.Common.{◌≡◌, min, ◌≤◌, ◌+◌, drop}
use Rattle.l2_code.specs.Trees.{items_of}
use Rattle.l2_code.specs.Sizes.{instructions}
use Rattle.l2_listing.proofs.counting.+counts.Given as goal

abbrev pub invariant-count-loop-item : goal.invariant-count-loop-item
invariant-count-loop-item l =
    (min (l.total + instructions (items_of (drop l.item-index l.items))) 18446744073709551615 ≡ min (instructions (items_of l.initial.items)) 18446744073709551615)
    × (l.total ≤ 18446744073709551615)
