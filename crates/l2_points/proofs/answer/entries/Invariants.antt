use Rattle.std.proofs.Common.{◌≡◌, ◌+◌, ◌*◌, length}
use Rattle.l2_points.specs.Entries.{AreThose}
use Rattle.l2_points.proofs.answer.entries.Given as goal

abbrev pub invariant-loop : goal.invariant-loop
invariant-loop l = record {
  count : length l.entries.items ≡ l.counter;
  node : l.node ≡ 3 * l.counter + l.rest;
  those : AreThose l.rows l.rest l.entries.items;
}
