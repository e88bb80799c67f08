use Rattle.std.proofs.Common.{◌≡◌, ◌*◌, drop}
use Rattle.l2_pieces.specs.Pieces.{behind_all, first_place}
use Rattle.l2_lex.specs.Lexing.{lex, tokens_of}
use Rattle.l2_lex.specs.Code.{state_of, Bounded}
use Rattle.l2_lex.proofs.lexing.tokens.Given as goal

abbrev pub invariant-loop-at : goal.invariant-loop-at
invariant-loop-at l = (lex l.text (behind_all l.text first_place) (drop l.at l.pieces.items) (state_of l.lexer) ≡ tokens_of l.text) × Bounded (14 * l.at) (state_of l.lexer)
