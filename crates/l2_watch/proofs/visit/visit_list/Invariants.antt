use Rattle.std.proofs.Common.{◌≡◌, ◌≤◌, take, drop, length}
use Rattle.l2_watch.specs.Past.{IsGrown}
use Rattle.l2_watch.specs.Watch.{IsConsistent}
use Rattle.l2_watch.specs.Visit.{items_of, entries_of, indices_of, ArePairs, AreFound, AreGuarded, AreVisited, AreEntries, AreAllEntries, KeepsParts}
use Rattle.l2_watch.proofs.visit.visit_list.Given as goal

abbrev pub invariant-loop-i : goal.invariant-loop-i
invariant-loop-i l = record {
  kept : l.kept ≤ l.i;
  len : length l.list.items ≡ length l.initial.list.items;
  grown : IsGrown l.clauses l.initial.history l.history;
  consistent : IsConsistent l.history.literals;
  lists : length l.lists.items ≡ length l.initial.lists.items;
  pairs : ArePairs l.clauses l.initial.history.variables l.pairs.items;
  found : AreFound l.pairs.items (items_of l.lists.items) l.a;
  guarded : AreGuarded l.clauses l.pairs.items (take l.seen l.initial.history.literals) l.history.literals;
  parts : KeepsParts l.clauses l.initial.history.literals l.initial.pairs.items l.pairs.items;
  visited : AreVisited l.clauses l.pairs.items l.history.literals l.a (take l.kept (indices_of l.list.items)) (drop l.i (indices_of l.list.items));
  entered : AreAllEntries l.clauses (entries_of l.lists.items);
  entries : AreEntries l.clauses l.list.items;
}
