use Rattle.std.proofs.Common.{◌≡◌, drop}
use Rattle.l2_types_unit.specs.Words.{with_known}
use Rattle.l2_types_unit.proofs.words.with_known.Given as goal

abbrev pub invariant-loop-w : goal.invariant-loop-w
invariant-loop-w l = with_known l.number (drop l.w-index l.names) l.table ≡ with_known 0 l.names l.initial.table
