use Rattle.std.proofs.Common.{take}
use Rattle.std.specs.List.{All}
use Rattle.l2_inclusions.specs.Closing.{AreParts, StoreHolds}
use Rattle.l2_inclusions.proofs.closed.stores_hold.Given as goal

abbrev pub invariant-loop-member : goal.invariant-loop-member
invariant-loop-member l = record {
  pairs : AreParts l.rows l.pairs.items;
  holds : All (StoreHolds l.rows l.from) (take l.member-index l.members);
}
