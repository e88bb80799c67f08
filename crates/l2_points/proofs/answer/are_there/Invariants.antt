use Rattle.std.proofs.Common.{take}
use Rattle.std.specs.List.{All}
use Rattle.l2_points.specs.Entries.{IsThere}
use Rattle.l2_points.proofs.answer.are_there.Given as goal

abbrev pub invariant-loop-member : goal.invariant-loop-member
invariant-loop-member l = All (IsThere l.objects) (take l.member-index l.members)
