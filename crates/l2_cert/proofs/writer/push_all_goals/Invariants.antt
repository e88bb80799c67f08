use Rattle.std.proofs.Common.{◌≡◌, ◌++◌, suc, drop}
use Rattle.l2_cert.specs.Words.{text_of}
use Rattle.l2_cert.specs.Certificate.{goals_lines}
use Rattle.l2_cert.proofs.writer.push_all_goals.Given as goal

-- what is written and what is to come
abbrev pub invariant-loop-i : goal.invariant-loop-i
invariant-loop-i l = l.initial.bytes.items ++ text_of (goals_lines 1 l.goals) ≡ l.bytes.items ++ text_of (goals_lines (suc l.i) (drop l.i l.goals))
