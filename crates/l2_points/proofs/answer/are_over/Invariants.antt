use Rattle.std.proofs.Common.{take}
use Rattle.std.specs.List.{All}
use Rattle.l2_points.specs.Entries.{IsThere}
use Rattle.l2_points.proofs.answer.are_over.Given as goal

abbrev pub invariant-loop-set : goal.invariant-loop-set
invariant-loop-set l = All (λ s. All (IsThere l.objects) s.members) (take l.set-index l.sets)
