use Rattle.std.proofs.Common.{◌≡◌, ◌≤◌, ◌+◌, drop}
use Rattle.l2_code.specs.Trees.{code_of, items_of}
use Rattle.l2_code.specs.Sets.{family}
use Rattle.l2_code.specs.Sizes.{nodes_size}
use Rattle.l2_size.specs.Capped.{capped}
use Rattle.l2_size.proofs.sizes.+sizes.Given as goal

abbrev pub invariant-nodes_size-loop-item : goal.invariant-nodes_size-loop-item
invariant-nodes_size-loop-item l =
    let s = l.initial.s in
    (l.s ≡ s)
    × (capped (l.total + nodes_size (code_of s.code) (family s.sets) s.copies s.rows (items_of (drop l.item-index l.items))) ≡ capped (nodes_size (code_of s.code) (family s.sets) s.copies s.rows (items_of l.items)))
    × (l.total ≤ 18446744073709551615)
