use Rattle.std.proofs.Common.{take}
use Rattle.std.specs.List.{All}
use Rattle.l2_inclusions.specs.Closing.{AreParts, LoadHolds}
use Rattle.l2_inclusions.proofs.closed.loads_hold.Given as goal

abbrev pub invariant-loop-member : goal.invariant-loop-member
invariant-loop-member l = record {
  pairs : AreParts l.rows l.pairs.items;
  holds : All (LoadHolds l.rows l.to) (take l.member-index l.members);
}
