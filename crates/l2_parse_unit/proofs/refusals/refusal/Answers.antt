use Rattle.std.proofs.Common.{subst, sym, ◌<◌, slice_index_or}
use Rattle.l2_syntax.specs.declared.token.TokenKind.TheVariants.{Word}
use Rattle.l2_syntax.specs.declared.refusal.Rule.TheVariants.{Nesting}
use Rattle.l2_syntax.specs.declared.token.Token.{Token}
use Rattle.l2_lex.specs.Code.{lexed_of}
use Rattle.l2_parse_unit.specs.Reading.{IsRefused}
use Rattle.l2_reader.specs.Readings.{InText, IsRefusal}
use Rattle.l2_parse_unit.proofs.Places.{nested_at, same_length}
use Rattle.l2_parse_unit.proofs.refusals.refusal.Goals as goal

abbrev none : Token
none = record { kind = Word 0; place = record { offset = 0; line = 0; col = 0 }; length = 0 }

pub returns-in-Nesting : goal.returns-in-Nesting
returns-in-Nesting c =
    let w = subst (InText c.args.plain.now) c.in-Nesting.is c.requires.within in
    let h = subst (IsRefusal c.args.plain.now) c.in-Nesting.is c.requires.refused in
    subst (λ xs. IsRefused (lexed_of c.args.tokens.now) (record { place = (slice_index_or xs c.in-Nesting.index none).place; rule = Nesting })) (sym c.as_slice.ensures)
    (nested_at (lexed_of c.args.tokens.now) c.args.plain.now c.in-Nesting.index none c.requires.plain (subst (λ n. c.in-Nesting.index < n) (same_length c.args.tokens.now.list c.args.plain.now c.requires.plain) w) h)
