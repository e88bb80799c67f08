use Rattle.std.proofs.Common.{◌≡◌, ◌-◌, drop, length}
use Rattle.l2_gates.specs.Gates.{literal_of}
use Rattle.l2_row_circuits.specs.Words.{words_of}
use Rattle.l2_row_circuits.specs.Rows.{lower_bit}
use Rattle.l2_row_circuits.proofs.rows.lower_bit.Given as goal

abbrev pub invariant-loop-i : goal.invariant-loop-i
invariant-loop-i l =
    lower_bit (drop (length l.forms - l.i) l.forms) (words_of l.before) (words_of l.after) l.initial.gates ≡ record { bit = literal_of l.low; made = l.gates }
