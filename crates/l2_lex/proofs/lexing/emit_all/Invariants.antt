use Rattle.std.proofs.Common.{◌≡◌, drop}
use Rattle.l2_lex.specs.States.{emit_all}
use Rattle.l2_lex.specs.Code.{state_of}
use Rattle.l2_lex.proofs.lexing.emit_all.Given as goal

abbrev pub invariant-loop-kind : goal.invariant-loop-kind
invariant-loop-kind l = emit_all (drop l.kind-index l.kinds) l.piece (state_of l.lexer) ≡ emit_all l.kinds l.piece (state_of l.fn.lexer)
