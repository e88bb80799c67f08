use Rattle.std.proofs.Common.{◌≡◌, map, drop}
use Rattle.l2_directives.specs.Headers.{entry}
use Rattle.l2_lex.specs.Lexing.{defines_one}
use Rattle.l2_lex.specs.Code.{state_of}
use Rattle.l2_lex.proofs.lexing.defines_one.Given as goal

abbrev pub invariant-loop-entry : goal.invariant-loop-entry
invariant-loop-entry l = defines_one (map (λ e. entry e.0.now e.1) (drop l.entry-index l.entries)) (state_of l.lexer) ≡ defines_one (map (λ e. entry e.0.now e.1) l.entries) (state_of l.lexer)
