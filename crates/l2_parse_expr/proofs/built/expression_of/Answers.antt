use Rattle.std.proofs.Common.{◌≡◌, ap, sym, ◌∙◌}
use Rattle.l2_tree.specs.Build.{expr_of}
use Rattle.l2_tree.specs.Spelling.{run_expr}
use Rattle.l2_tree.specs.Units.{expr_tree}
use Rattle.l2_grammar.specs.Expressions.{sort_at}
use Rattle.l2_build.specs.Parts.{parts_of}
use Rattle.l2_build.specs.declared.error.BuildError.TheVariants as error
use Rattle.l2_parse_expr.proofs.BuiltExpressions.{never_unbuilt, built_run}
use Rattle.l2_parse_expr.proofs.built.expression_of.Goals as goal

pub returns-in-Ok : goal.returns-in-Ok
returns-in-Ok c =
    ap (λ e. run_expr (sort_at c.args.level) (expr_tree e)) c.into_inner.ensures
    ∙ built_run c.expression_run_law.ensures c.args.level c.args.text.now (expr_tree c.in-Ok.value.value) c.requires.whole c.requires.keeps
    (ap (λ xs. expr_of (parts_of xs)) (sym c.deref.ensures.value) ∙ c.in-Ok.ensures.ok)

pub unreachable-requires : goal.unreachable-requires
unreachable-requires c =
    never_unbuilt c.expression_built_law.ensures c.args.level c.args.text.now c.requires.whole c.requires.keeps (ap (λ xs. expr_of (parts_of xs)) (sym c.deref.ensures.value) ∙ c.in-Err.ensures.err (λ h. let e : error.Misfit ≡ error.NoMemory = sym c.in-Misfit.is ∙ h in cc))
