use Rattle.std.proofs.Common.{◌≡◌, ◌+◌, drop}
use Rattle.std.specs.List.{prefix_len}
use Rattle.l2_lex.specs.Lexing.{is_on_line}
use Rattle.l2_lex.proofs.lexing.line_length.Given as goal

abbrev pub invariant-loop-piece : goal.invariant-loop-piece
invariant-loop-piece l = (l.count + prefix_len (is_on_line l.line) (drop l.piece-index l.rest) ≡ prefix_len (is_on_line l.line) l.rest) × (l.count ≡ l.piece-index)
