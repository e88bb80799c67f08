use Rattle.std.proofs.Common.{◌≡◌, ◌++◌, drop}
use Rattle.l2_meaning.specs.Execution.{first_objects}
use Rattle.l2_replay.proofs.start.first_store.Given as goal

abbrev pub invariant-loop-o : goal.invariant-loop-o
invariant-loop-o l = l.store.items ++ first_objects l.values (drop l.o-index l.o-items) ≡ first_objects l.initial.values l.o-items
