use Rattle.std.proofs.Common.{◌≡◌, drop}
use Rattle.l2_lex.specs.Lexing.{open_comment}
use Rattle.l2_lex.proofs.lexing.open_comment.Given as goal

abbrev pub invariant-loop-piece : goal.invariant-loop-piece
invariant-loop-piece l = open_comment (drop l.piece-index l.line) ≡ open_comment l.line
