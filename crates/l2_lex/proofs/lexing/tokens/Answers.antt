use Rattle.std.proofs.Common.{◌≡◌, ◌+◌, ◌∙◌, sym, ap, List, drop}
use Rattle.l2_pieces.specs.Pieces.{behind_all, first_place}
use Rattle.l2_pieces.specs.declared.piece.Piece.{Piece}
use Rattle.l2_lex.specs.Lexing.{lex, step}
use Rattle.l2_lex.specs.Code.{state_of, turn_of}
use Rattle.l2_lex.proofs.Walks.{walked_on, bounded_on}
use Rattle.l2_lex.proofs.lexing.tokens.Goals as goal

pub loop-at-preserved : goal.loop-at-preserved
loop-at-preserved c =
    let text = c.args.text.now in
    let s = state_of c.loop-at.lexer in
    let t = state_of c.step.new.lexer in
    let x = c.part.result.0 in
    let all = c.deref.result.now in
    let rest = drop (c.loop-at.at + 1) all in
    let r = c.in_ok-refusal.field-0 in
    let end = behind_all text first_place in
    let h : turn_of c.step.new.lexer r ≡ step text x rest s = c.in_ok-refusal.ensures ∙ ap (λ (l : List Piece). step text x l s) c.part.ensures.rest in
    let d : all ≡ c.in_ok-pieces.pieces.items = c.deref.ensures.value in (
      sym (ap (λ (l : List Piece). lex text end (drop (c.loop-at.at + 1) l) t) d) ∙ walked_on text end (drop c.loop-at.at all) rest x s t r c.part.ensures.here h c.in_default.is
          ∙ ap (λ (l : List Piece). lex text end (drop c.loop-at.at l) s) d ∙ c.loop-at.invariant.0,
      bounded_on c.loop-at.at text rest x s t r h c.loop-at.invariant.1,
    )
