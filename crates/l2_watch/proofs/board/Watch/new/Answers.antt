use Rattle.std.proofs.Common.{arith}
use Rattle.l2_watch.specs.Visit.{items_of}
use Rattle.l2_watch.proofs.Boards.{IsKept-new}
use Rattle.l2_watch.proofs.Entries.{all_none, items_length}
use Rattle.l2_watch.proofs.Singles.{singles_none}
use Rattle.l2_watch.proofs.board.Watch.new.Goals as goal

pub invariant_of-result : goal.invariant_of-result
invariant_of-result c = (
  IsKept-new c.new.result c.new-2.result.items (items_of c.widen.new.lists.items) c.in_ok-new.field-0 c.new-5.result.items c.new.ensures c.new-2.ensures.items
      (omega (arith, c.in_ok-widen.ensures.len, items_length c.widen.new.lists.items)) c.in_ok-new.ensures.variables c.in_ok-new.ensures.literals c.new-5.ensures.items,
  c.widen.ensures.entered c.new.result (rw c.new-lists.ensures.items (all_none c.new.result)),
  singles_none c.new.result c.new-3.result.items c.new.ensures,
)
