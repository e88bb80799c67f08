-- What holds of the typed tree of a text or of an expression.
use Rattle.std.specs.Prelude.{◌≡◌, List, Some, None}
use Rattle.l2_grammar.specs.declared.states.Level.{Level}
use Rattle.l2_grammar.specs.declared.states.Sort.{Sort}
use Rattle.l2_grammar.specs.Trees.{Seen, Tree}
use Rattle.l2_grammar.specs.Law.{IsUnit, Spells}
use Rattle.l2_grammar.specs.Expressions.{IsExpression, sort_at}
use Rattle.l2_tree.specs.Trees.{ExprTree, ExternalTree}
use Rattle.l2_tree.specs.Spelling.{Keeps, run_expr, run_unit}
use Rattle.l2_tree.specs.Build.{parts_of, expr_of, unit_of}

-- ---- a unit

-- a unit that was read, of tokens as trees keep them, is built
abbrev pub UnitBuiltLaw : Type 0
UnitBuiltLaw = (u : Tree) → IsUnit u → Keeps u → unit_of (parts_of u) ≡ None → ⊥

-- what is built has the run that it was built from
abbrev pub UnitRunLaw : Type 0
UnitRunLaw = (u : Tree) (xs : List ExternalTree) → IsUnit u → Keeps u → unit_of (parts_of u) ≡ Some xs → run_unit xs ≡ u

-- what is built of a unit's run is the unit
abbrev pub UnitBackLaw : Type 0
UnitBackLaw = (xs : List ExternalTree) → unit_of (parts_of (run_unit xs)) ≡ Some xs

-- two units never have one run
abbrev pub UniqueRunLaw : Type 0
UniqueRunLaw = (xs ys : List ExternalTree) → run_unit xs ≡ run_unit ys → xs ≡ ys

-- tokens spell at most one unit
abbrev pub UniqueTreeLaw : Type 0
UniqueTreeLaw = (ts : List Seen) (xs ys : List ExternalTree) → Spells ts (run_unit xs) → Spells ts (run_unit ys) → xs ≡ ys

-- ---- an expression

abbrev pub ExpressionBuiltLaw : Type 0
ExpressionBuiltLaw = (l : Level) (r : Tree) → IsExpression l r → Keeps r → expr_of (parts_of r) ≡ None → ⊥

abbrev pub ExpressionRunLaw : Type 0
ExpressionRunLaw = (l : Level) (r : Tree) (e : ExprTree) → IsExpression l r → Keeps r → expr_of (parts_of r) ≡ Some e → run_expr (sort_at l) e ≡ r

abbrev pub ExpressionBackLaw : Type 0
ExpressionBackLaw = (s : Sort) (e : ExprTree) → expr_of (parts_of (run_expr s e)) ≡ Some e
