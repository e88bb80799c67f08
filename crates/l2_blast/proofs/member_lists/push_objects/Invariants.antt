use Rattle.std.proofs.Common.{◌≡◌, ◌+◌, ◌-◌, ◌++◌}
use Rattle.l2_code.specs.Sets.{family}
use Rattle.l2_blast.specs.Words.{objects_from}
use Rattle.l2_blast.specs.Kept.{set_at}
use Rattle.l2_blast.proofs.member_lists.push_objects.Given as goal

abbrev pub invariant-loop-index : goal.invariant-loop-index
invariant-loop-index l =
    l.list.items ++ objects_from (set_at (family l.sets) l.of) (1 + l.index) (l.count - l.index) ≡ l.initial.list.items ++ objects_from (set_at (family l.sets) l.of) 1 l.count
