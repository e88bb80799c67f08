use Rattle.std.proofs.Common.{subst, sym, ◌<◌, slice_index_or}
use Rattle.l2_syntax.specs.declared.token.TokenKind.TheVariants.{Word}
use Rattle.l2_syntax.specs.declared.refusal.Rule.TheVariants.{Nesting}
use Rattle.l2_syntax.specs.declared.token.Token.{Token}
use Rattle.l2_lex.specs.Code.{lexed_of}
use Rattle.l2_parse_unit.proofs.Places.{same_length}
use Rattle.l2_reader.specs.Turns.{InRest, IsExpressionRefusal}
use Rattle.l2_parse_expr.specs.Reading.{IsRefusedFrom}
use Rattle.l2_parse_expr.proofs.Places.{nested_at}
use Rattle.l2_parse_expr.proofs.reading.refusal.Goals as goal

abbrev none : Token
none = record { kind = Word 0; place = record { offset = 0; line = 0; col = 0 }; length = 0 }

pub returns-in-Nesting : goal.returns-in-Nesting
returns-in-Nesting c =
    let w = subst (InRest c.args.at c.args.plain.now) c.in-Nesting.is c.requires.within in
    let h = subst (IsExpressionRefusal c.args.level c.args.depth c.args.plain.now c.args.at) c.in-Nesting.is c.requires.refused in
    subst (λ xs. IsRefusedFrom c.args.level c.args.depth (lexed_of c.args.tokens.now) c.args.at (record { place = (slice_index_or xs c.in-Nesting.index none).place; rule = Nesting })) (sym c.as_slice.ensures)
    (nested_at c.args.level c.args.depth (lexed_of c.args.tokens.now) c.args.plain.now c.args.at c.in-Nesting.index none c.requires.plain (subst (λ n. c.in-Nesting.index < n) (same_length c.args.tokens.now.list c.args.plain.now c.requires.plain) w.1) h)
