use Rattle.std.proofs.Common.{◌≡◌, ◌++◌, map, drop}
use Rattle.l2_cert.specs.Words.{text_of}
use Rattle.l2_cert.specs.Certificate.{step_line}
use Rattle.l2_cert.proofs.writer.push_goal.Given as goal

-- what is written and what is to come
abbrev pub invariant-loop-i : goal.invariant-loop-i
invariant-loop-i l = l.initial.bytes.items ++ text_of (map step_line l.steps) ≡ l.bytes.items ++ text_of (map step_line (drop l.i l.steps))
