use Rattle.std.proofs.Common.{subst, sym, ap, ◌∙◌, ◌<◌, ◌≤◌, length, slice_index_or}
use Rattle.l2_syntax.specs.declared.token.TokenKind.TheVariants.{Word}
use Rattle.l2_syntax.specs.declared.refusal.Rule.TheVariants.{Syntax}
use Rattle.l2_syntax.specs.declared.token.Token.{Token}
use Rattle.l2_lex.specs.Code.{lexed_of}
use Rattle.l2_parse_unit.specs.Reading.{last_place, start}
use Rattle.l2_parse_expr.specs.Reading.{IsRefusedFrom}
use Rattle.l2_parse_expr.proofs.Places.{stopped_at, lexical_at, ended_at}
use Rattle.l2_parse_expr.proofs.reading.syntax_at.Goals as goal

abbrev none : Token
none = record { kind = Word 0; place = record { offset = 0; line = 0; col = 0 }; length = 0 }

pub returns-then-index-list : goal.returns-then-index-list
returns-then-index-list c =
    subst (λ xs. IsRefusedFrom c.args.level c.args.depth (lexed_of c.args.tokens.now) c.args.at (record { place = (slice_index_or xs c.args.index none).place; rule = Syntax })) (sym c.as_slice-list.ensures)
    (stopped_at c.args.level c.args.depth (lexed_of c.args.tokens.now) c.args.plain.now c.args.at c.args.index none c.requires.plain (subst (λ xs. c.args.index < length xs) c.as_slice-list.ensures c.if-index-list.true) c.requires.stops)

pub returns-in-Some : goal.returns-in-Some
returns-in-Some c =
    lexical_at c.args.level c.args.depth (lexed_of c.args.tokens.now) c.args.plain.now c.args.at c.args.index c.in-Some.refusal c.requires.plain (subst (λ xs. length xs ≤ c.args.index) c.as_slice-list.ensures c.if-index-list.false) c.requires.stops c.in-Some.is

pub returns-in-None : goal.returns-in-None
returns-in-None c =
    subst (λ p. IsRefusedFrom c.args.level c.args.depth (lexed_of c.args.tokens.now) c.args.at (record { place = p; rule = Syntax })) (sym (c.last_place.ensures ∙ ap (last_place start) c.as_slice-list.ensures))
    (ended_at c.args.level c.args.depth (lexed_of c.args.tokens.now) c.args.plain.now c.args.at c.args.index c.requires.plain (subst (λ xs. length xs ≤ c.args.index) c.as_slice-list.ensures c.if-index-list.false) c.requires.stops c.in-None.is)
