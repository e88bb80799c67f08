-- What a statement is with its types, with its faults: statements go in the order of the text (C11 6.8).
use Rattle.l2_tree.specs.Trees as tree
use Rattle.l2_tree.specs.Trees.{StmtTree, StmtTrees, no_stmts, and_stmt, BranchTree, BranchTrees, first_branch, and_branch, FirstTree}
use Rattle.l2_tree_laws.specs.Places.{first_place}
use Rattle.l2_types.specs.States.{State, Seen, saw, next}
use Rattle.l2_types.specs.Scopes.{entered, left}
use Rattle.l2_types.specs.Switches.{begun}
use Rattle.l2_types.specs.Meant.{valued}
use Rattle.l2_types.specs.Founds.{new_loop, named_between, with_label}
use Rattle.l2_types_expr.specs.Enumerators.{constant}
use Rattle.l2_types_expr.specs.Expressions.{judge}
use Rattle.l2_types_declarations.specs.Declarations.{declaration}
use Rattle.l2_types_statements.specs.declared.checked.Setting.{Setting}
use Rattle.l2_types_statements.specs.Trees as checked
use Rattle.l2_types_statements.specs.Trees.{CheckedTree, CheckedTrees, no_statements, and_statement, ArmTree, ArmTrees, no_arms, and_arm}
use Rattle.l2_types_statements.specs.Parts.{inside, behind_label, apart, looping, switching, case_label, case_value, default_label, declared, unless_may, ended, evaluated, tested, perhaps_tested, perhaps_evaluated, switched, cases_of, returned, nothing_returned}

-- the first part of a `for`
abbrev pub first_part : FirstTree → State → Seen CheckedTree
first_part tree.NoFirst s = saw checked.Empty s
first_part (tree.FirstExpression e) s = next (valued (judge e s)) (λ x t. saw (evaluated x) t)
first_part (tree.FirstDeclaration d) s = next (declaration d s) (λ xs t. saw (checked.Declare xs) t)

-- the statement of a branch, a loop or a switch is a block of its own
abbrev pub scoped : State → Seen CheckedTree → Seen CheckedTree
scoped s r = next r (λ y t. saw y (left s t))

abbrev mutual
  pub statement : Setting → StmtTree → State → Seen CheckedTree
  statement w (tree.Declare d) s = next (declaration d s) (λ xs t. saw (checked.Declare xs) (declared w.cases t))
  statement w (tree.Block p all) s = next (items (inside w) all (entered s)) (λ xs t. saw (checked.Block xs) (left s t))
  statement w (tree.Evaluate e) s = next (valued (judge e s)) (λ x t. saw (evaluated x) t)
  statement w tree.Empty s = saw checked.Empty s
  -- each `if` is a block, and an `else if` stands in the one before (C11 6.8.4)
  statement w (tree.If bs) s = next (branches w bs s) (λ xs t. saw (checked.If xs) (left s t))
  statement w (tree.IfElse bs x) s = next (branches w bs s) (λ xs t. next (scoped t (statement (apart w) x (entered t))) (λ y u. saw (checked.IfElse xs y) (left s u)))
  statement w (tree.While p q e x) s =
      next (new_loop p s) (λ k t. next (tested e (entered t)) (λ c u. next (scoped u (statement (looping w) x (entered u))) (λ y v.
      saw (checked.While k (named_between t v) c y) (left t v))))
  statement w (tree.Do p x r q e) s =
      next (new_loop p s) (λ k t. next (scoped (entered t) (statement (looping w) x (entered (entered t)))) (λ y u. next (tested e u) (λ c v.
      saw (checked.Do k (named_between t v) y c) (left t v))))
  -- what a `for` declares is in scope up to its end (C11 6.8.5)
  statement w (tree.For p q f c e x) s =
      next (first_part f (entered s)) (λ i t. next (new_loop p t) (λ k u. next (perhaps_tested c u) (λ y v.
      next (perhaps_evaluated e v) (λ z a. next (scoped a (statement (looping w) x (entered a))) (λ b d.
      saw (checked.For k (named_between u d) i y z b) (left s d))))))
  statement w (tree.Switch p q e x) s =
      next (valued (judge e (entered s))) (λ o t. next (cases_of (first_place e) o t) (λ c u.
      next (scoped (begun u) (statement (switching c w) x (entered (begun u)))) (λ y v. saw (checked.Switch (switched o) y) (left s (ended u v)))))
  statement w (tree.Case p e x) s =
      next (constant (first_place e) (judge e s) s) (λ v t. next (statement (behind_label w) x (case_label w.cases p v t)) (λ y u.
      saw (checked.Case (case_value w.cases v) y) u))
  statement w (tree.Default p x) s =
      next (statement (behind_label w) x (default_label w.cases p s)) (λ y u. saw (checked.Default y) u)
  statement w (tree.Label n p x) s = next (statement (behind_label w) x (with_label n p s)) (λ y u. saw (checked.Label n y) u)
  statement w (tree.Break p) s = saw checked.Break (unless_may w.breaks p s)
  statement w (tree.Continue p) s = saw checked.Continue (unless_may w.continues p s)
  statement w (tree.Return p) s = saw checked.Return (nothing_returned w.result p s)
  statement w (tree.ReturnValue p e) s = next (valued (judge e s)) (λ x t. returned w.result p (first_place e) x t)

  pub items : Setting → StmtTrees → State → Seen CheckedTrees
  items w no_stmts s = saw no_statements s
  items w (and_stmt all x) s = next (items w all s) (λ xs t. next (statement w x t) (λ y u. saw (and_statement xs y) u))

  pub branch : Setting → BranchTree → State → Seen ArmTree
  branch w (tree.Branch p q e x) s = next (tested e (entered s)) (λ c t. next (scoped t (statement (apart w) x (entered t))) (λ y u. saw (checked.Arm c y) u))

  pub branches : Setting → BranchTrees → State → Seen ArmTrees
  branches w (first_branch b) s = next (branch w b s) (λ y t. saw (and_arm no_arms y) t)
  branches w (and_branch bs b) s = next (branches w bs s) (λ xs t. next (branch w b t) (λ y u. saw (and_arm xs y) u))

abbrev pub body : Setting → StmtTree → State → Seen CheckedTree
body w x s = scoped s (statement w x (entered s))
