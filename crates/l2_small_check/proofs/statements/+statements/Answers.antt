use Rattle.std.proofs.Common.{arith, sym}
use Rattle.l2_small.specs.SmallTrees.{none}
use Rattle.l2_small_check.proofs.Kept.{kept_all}
use Rattle.l2_small_check.proofs.Rows.{items_onto, item_fails}
use Rattle.l2_small_check.proofs.Weights.{weight_at}
use Rattle.l2_small_check.proofs.statements.+statements.Goals as goal

pub items-item-requires : goal.items-item-requires
items-item-requires t c =
    let w = weight_at none c.args.all.now c.loop-s.s-index c.s-item.result c.loop-s-test.true c.s-item.is in
    (omega arith, tt)

pub items-loop-s-init : goal.items-loop-s-init
items-loop-s-init t c = record { keeps = kept_all _; so_far = rw c.new-out.ensures.items (sym (items_onto c.args.table.now.scope c.args.table.now.found none c.args.all.now)) }

pub items-returns-in_err-next-clause-not_small : goal.items-returns-in_err-next-clause-not_small
items-returns-in_err-next-clause-not_small t c = λ h.
    item_fails _ _ _ _ _ c.loop-s.invariant.so_far c.loop-s-test.true c.s-item.is (c.in_err-next.ensures.not_small (grind arith))
