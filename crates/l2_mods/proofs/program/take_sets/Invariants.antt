use Rattle.std.proofs.Common.{◌≡◌, ◌≤◌, ◌<◌, length}
use Rattle.l2_meaning.specs.Changes.{take_sets}
use Rattle.l2_mods.proofs.program.take_sets.Given as goal

abbrev pub invariant-loop-s : goal.invariant-loop-s
invariant-loop-s l = record {
  taken : l.loops.items ≡ take_sets l.fn.loops.items l.yielded;
  index : l.index ≤ length l.yielded;
  last : l.index < length l.fn.loops.items → l.index ≡ length l.yielded;
}
