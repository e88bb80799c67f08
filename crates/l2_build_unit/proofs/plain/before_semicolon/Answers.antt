use Rattle.std.proofs.Common.{◌≡◌, true, false, cond, Some, None, refl, ap, sym, ◌∙◌, take, length, ◌-◌, arith}
use Rattle.l2_syntax.specs.declared.token.Mark.TheVariants as mark
use Rattle.l2_grammar.specs.Marks.{is}
use Rattle.l2_build.specs.Parts.{parts_of}
use Rattle.l2_build_unit.proofs.Lasts.{ends_token}
use Rattle.l2_build_unit.proofs.plain.before_semicolon.Goals as goal

pub returns-then-is : goal.returns-then-is
returns-then-is c =
    let e : is mark.Semicolon c.in-Token.token.kind ≡ true = cc in
    sym (ends_token c.args.parts.now (length c.args.parts.now - 1) c.index-parts-count.result c.in-Token.token (omega arith) refl c.index-parts-count.is c.in-Token.is
    ∙ ap (λ b. cond b (Some (parts_of (take (length c.args.parts.now - 1) c.args.parts.now))) None) e)

pub returns-else-is : goal.returns-else-is
returns-else-is c =
    let e : is mark.Semicolon c.in-Token.token.kind ≡ false = cc in
    sym (ends_token c.args.parts.now (length c.args.parts.now - 1) c.index-parts-count.result c.in-Token.token (omega arith) refl c.index-parts-count.is c.in-Token.is
    ∙ ap (λ b. cond b (Some (parts_of (take (length c.args.parts.now - 1) c.args.parts.now))) None) e)
