use Rattle.std.proofs.Common.{◌≡◌, ◌++◌, map, drop}
use Rattle.l2_cert.specs.Words.{text_of}
use Rattle.l2_cert.specs.Certificate.{rank_line}
use Rattle.l2_cert.proofs.writer.push_ranking.Given as goal

-- what is written and what is to come
abbrev pub invariant-loop-form : goal.invariant-loop-form
invariant-loop-form l = l.initial.bytes.items ++ text_of (map rank_line l.forms) ≡ l.bytes.items ++ text_of (map rank_line (drop l.form-index l.forms))
