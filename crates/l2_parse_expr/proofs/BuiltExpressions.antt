-- The expression that was read is built.
use Rattle.std.proofs.Common.{◌≡◌, Some, None, ap, ◌∙◌}
use Rattle.l2_grammar.specs.declared.states.Level.{Level}
use Rattle.l2_grammar.specs.Expressions.{IsExpression, sort_at}
use Rattle.l2_reader.specs.declared.syntax.Open.{Open}
use Rattle.l2_reader.specs.Parts.{tree_of}
use Rattle.l2_tree.specs.Trees.{ExprTree}
use Rattle.l2_tree.specs.Spelling.{Keeps, run_expr}
use Rattle.l2_tree.specs.Build.{expr_of}
use Rattle.l2_tree_laws.specs.Law.{ExpressionBuiltLaw, ExpressionRunLaw}
use Rattle.l2_build.specs.Parts.{parts_of}
use Rattle.l2_build.proofs.Nodes.{open_parts}

pub never_unbuilt : ExpressionBuiltLaw → (l : Level) (o : Open) → IsExpression l (tree_of o) → Keeps (tree_of o) → expr_of (parts_of o.parts.items) ≡ None → ⊥
never_unbuilt law l o u k e = law l (tree_of o) u k (ap expr_of (open_parts o) ∙ e)

pub built_run : ExpressionRunLaw → (l : Level) (o : Open) (x : ExprTree) → IsExpression l (tree_of o) → Keeps (tree_of o) → expr_of (parts_of o.parts.items) ≡ Some x → run_expr (sort_at l) x ≡ tree_of o
built_run law l o x u k e = law l (tree_of o) x u k (ap expr_of (open_parts o) ∙ e)
