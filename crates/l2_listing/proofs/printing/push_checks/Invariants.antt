use Rattle.std.proofs.Common.{◌≡◌, ◌+◌, ◌++◌, drop}
use Rattle.l2_listing.specs.Texts.{check_line, lines_from}
use Rattle.l2_listing.proofs.printing.push_checks.Given as goal

abbrev pub invariant-loop-i : goal.invariant-loop-i
invariant-loop-i l = l.out.items ++ lines_from check_line (l.i + 1) (drop l.i l.checks) ≡ l.initial.out.items ++ lines_from check_line 1 l.checks
