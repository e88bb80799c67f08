use Rattle.std.proofs.Common.{◌≡◌, ◌++◌, drop, map}
use Rattle.l2_listing.specs.Backwards.{instruction_of}
use Rattle.l2_listing.specs.Texts.{instruction_line, lines_from}
use Rattle.l2_listing.proofs.printing.push_instructions.Given as goal

abbrev pub invariant-loop-n : goal.invariant-loop-n
invariant-loop-n l = l.out.items ++ lines_from instruction_line l.n (map instruction_of (drop l.n l.list)) ≡ l.initial.out.items ++ lines_from instruction_line 0 (map instruction_of l.list)
