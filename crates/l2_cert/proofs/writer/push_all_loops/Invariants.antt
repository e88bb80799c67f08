use Rattle.std.proofs.Common.{◌≡◌, ◌++◌, suc, drop}
use Rattle.l2_cert.specs.Words.{text_of}
use Rattle.l2_cert.specs.Certificate.{loops_lines}
use Rattle.l2_cert.proofs.writer.push_all_loops.Given as goal

-- what is written and what is to come
abbrev pub invariant-loop-i : goal.invariant-loop-i
invariant-loop-i l = l.initial.bytes.items ++ text_of (loops_lines 1 l.cert.point l.cert.ranks) ≡ l.bytes.items ++ text_of (loops_lines (suc l.i) (drop l.i l.cert.point) (drop l.i l.cert.ranks))
