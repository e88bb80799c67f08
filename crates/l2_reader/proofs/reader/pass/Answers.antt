use Rattle.std.proofs.Common.{rules, ◌≤◌, sym, ap, ◌∙◌, subst, arith}
use Rattle.l2_grammar.specs.Limits.{most, exceeds}
use Rattle.l2_reader.specs.Parts.{seen, tree_of}
use Rattle.l2_reader.specs.Stacks.{trees_of}
use Rattle.l2_reader.specs.Turns.{Turns}
use Rattle.l2_reader.proofs.Counting.{step_more}
use Rattle.l2_reader.proofs.Turning.{neither}
use Rattle.l2_reader.proofs.reader.pass.Goals as goal

pub exceeds-requires-clause-room : goal.exceeds-requires-clause-room
exceeds-requires-clause-room c =
    let leads = subst (λ z. Turns (trees_of c.args.progress.stack) (tree_of c.args.progress.run) (seen c.args.token) z) c.in-Ok-Further.field-0-is c.in-Ok-Further.ensures.ok in
    let e = step_more (trees_of c.args.progress.stack) (tree_of c.args.progress.run) (seen c.args.token) (tree_of c.in-Ok-Further.run') (trees_of c.in-Ok-Further.stack) leads.0 in
    omega arith

pub returns-else-exceeds-clause-ok : goal.returns-else-exceeds-clause-ok
returns-else-exceeds-clause-ok c =
    let leads = subst (λ z. Turns (trees_of c.args.progress.stack) (tree_of c.args.progress.run) (seen c.args.token) z) c.in-Ok-Further.field-0-is c.in-Ok-Further.ensures.ok in
    let within : c.brackets_behind-brackets.result ≤ most = search rules in (
      neither _ _ (sym c.is_bracket_too_deep.ensures ∙ c.if-is_bracket_too_deep.false) (ap exceeds leads.0 ∙ sym c.exceeds.ensures ∙ c.if-exceeds.false),
      (
        leads.0,
        c.brackets_behind-brackets.ensures,
        record { run = leads.1; stack = leads.2; within = within },
        step_more (trees_of c.args.progress.stack) (tree_of c.args.progress.run) (seen c.args.token) (tree_of c.in-Ok-Further.run') (trees_of c.in-Ok-Further.stack) leads.0,
      ),
    )
