use Rattle.std.proofs.Common.{Err, ap, subst, sym}
use Rattle.l2_lex.specs.Code.{lexed_of}
use Rattle.l2_tree.specs.Units.{unit_tree}
use Rattle.l2_parse_unit.specs.Reading.{IsRefused, OnRefusal}
use Rattle.l2_front.specs.Programs.{IsNoProgram, IsRefusalOf}
use Rattle.l2_front.proofs.Texts.{is_not_built, is_unread}
use Rattle.l2_front.proofs.program.program_of.Goals as goal

pub returns-in-Err-NotSmall-clause-refused : goal.returns-in-Err-NotSmall-clause-refused
returns-in-Err-NotSmall-clause-refused c =
    is_not_built c.args.text.now (lexed_of c.in_ok-tokens.tokens) (unit_tree c.in-Ok.unit) c.unique_unit_law.ensures c.in_ok-tokens.ensures c.in-Ok.ensures.ok
    (c.in-Err-NotSmall.ensures.not_small (ap Err c.in-Err-NotSmall.field-0-is))

pub returns-in-Err-At-clause-refused : goal.returns-in-Err-At-clause-refused
returns-in-Err-At-clause-refused c =
    subst (λ f. IsNoProgram c.args.text.now × IsRefusalOf c.args.text.now f) (sym c.in-Err-At.refusal-is)
    (is_unread c.args.text.now (lexed_of c.in_ok-tokens.tokens) c.in-Err-At.refusal c.refused_law.ensures c.in_ok-tokens.ensures
    (subst (λ e. OnRefusal e (λ f. IsRefused (lexed_of c.in_ok-tokens.tokens) f)) c.in-Err-At.field-0-is c.in-Err-At.ensures.refused))
