use Rattle.std.proofs.Common.{◌≡◌, ◌++◌, map, drop}
use Rattle.l2_cert.specs.Words.{text_of}
use Rattle.l2_cert.specs.Certificate.{row_line}
use Rattle.l2_cert.proofs.writer.push_rows.Given as goal

-- what is written and what is to come
abbrev pub invariant-loop-row : goal.invariant-loop-row
invariant-loop-row l = l.initial.bytes.items ++ text_of (map row_line l.rows) ≡ l.bytes.items ++ text_of (map row_line (drop l.row-index l.rows))
