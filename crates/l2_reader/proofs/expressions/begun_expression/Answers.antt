use Rattle.std.proofs.Common.{sym, ap, ◌∙◌}
use Rattle.l2_grammar.specs.declared.states.State.TheVariants.{Fresh as fresh}
use Rattle.l2_grammar.specs.Networks.{on_token}
use Rattle.l2_grammar.specs.Nesting.{stands}
use Rattle.l2_grammar.proofs.Expressions.{first_refused}
use Rattle.l2_reader.specs.Parts.{seen}
use Rattle.l2_reader.proofs.expressions.begun_expression.Goals as goal

pub returns-else-stands-clause-err : goal.returns-else-stands-clause-err
returns-else-stands-clause-err c = λ n ts.
    first_refused c.args.level c.args.depth (seen c.args.token) ts (sym c.is_bracket_too_deep.ensures ∙ c.if-is_bracket_too_deep.false)
    (ap (λ s. stands s (on_token s fresh c.args.token.kind)) (sym c.sort_at-sort.ensures) ∙ ap (λ q. stands c.sort_at-sort.result q) (sym c.on_token-state.ensures) ∙ sym c.stands.ensures ∙ c.if-stands.false)
