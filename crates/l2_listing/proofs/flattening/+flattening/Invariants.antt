use Rattle.std.proofs.Common.{◌≡◌, ◌+◌, ◌-◌, ◌*◌, ◌++◌, drop}
use Rattle.l2_code.specs.Trees.{tree_of, items_of}
use Rattle.l2_code.specs.Sizes.{instructions}
use Rattle.l2_listing.specs.Flat.{flat}
use Rattle.l2_listing.proofs.Items.{weight, weights}
use Rattle.l2_listing.proofs.flattening.+flattening.Given as goal

abbrev pub invariant-flatten-loop-i : goal.invariant-flatten-loop-i
invariant-flatten-loop-i l =
    (l.f.at + instructions (items_of (drop (l.i-end - l.i) l.items)) ≡ l.initial.f.at)
    × (l.f.ends ≡ l.initial.f.ends)
    × (l.f.later ≡ flat l.f.at l.initial.f.ends (items_of (drop (l.i-end - l.i) l.items)) ++ l.initial.f.later)

abbrev pub decreases-flatten_item : goal.decreases-flatten_item
decreases-flatten_item l = 2 * weight (tree_of l.item.now)

abbrev pub decreases-flatten : goal.decreases-flatten
decreases-flatten l = 2 * weights (items_of l.items.now) + 1
