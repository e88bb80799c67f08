use Rattle.std.proofs.Common.{◌≤◌, ◌-◌, List, length}
use Rattle.std.specs.Prelude.{ℤ}
use Rattle.l2_watch.specs.Visit.{items_of, entries_of, AreMore, AreAllEntries}
use Rattle.l2_watch.proofs.attach.widen.Given as goal

abbrev pub invariant-loop-alloc : goal.invariant-loop-alloc
invariant-loop-alloc l = record {
  more : AreMore (items_of l.initial.lists.items) (items_of l.lists.items);
  longer : length l.initial.lists.items ≤ length l.lists.items;
  entered : (clauses : List (List ℤ)) → AreAllEntries clauses (entries_of l.initial.lists.items) → AreAllEntries clauses (entries_of l.lists.items);
}

abbrev pub decreases-loop-alloc : goal.decreases-loop-alloc
decreases-loop-alloc l = l.count - length l.lists.items
