-- How large trees are: what the recursion goes down in; and operands of typed trees.
use Rattle.std.proofs.Common.{◌≡◌, ℕ, zero, suc, ◌+◌, ◌<◌, ◌≤◌, List, [], ◌∷◌, length, get_or, ap, sym, subst, arith}
use Rattle.l2_runs.specs.declared.cells.CellType.{CellType}
use Rattle.l2_runs.specs.Fits.{Layout}
use Rattle.l2_program.specs.declared.checked.Checked.{Checked}
use Rattle.l2_program.specs.Checked as checked
use Rattle.l2_program.specs.Checked.{CheckedTree, CheckedTrees, checked_tree, checked_trees}
use Rattle.l2_meaning.specs.Lawful.{IsTypedStatement, AreTyped}
use Rattle.l2_program.specs.Checked.{TypedTree, Constant, Choice, Read, Unary, Binary, Convert, Assign, Assert}

abbrev pub weight : TypedTree → ℕ
weight (Constant ty v) = 1
weight (Choice ty) = 1
weight (Read ty l) = 1
weight (Unary op ty c e) = 1 + weight e
weight (Binary op ty c x y) = 1 + (weight x + weight y)
weight (Convert ty e) = 1 + weight e
weight (Assign ty l e) = 1 + weight e
weight (Assert c e) = 1 + weight e

abbrev mutual
  pub size : CheckedTree → ℕ
  size (checked.Block all) = 1 + sizes all
  size (checked.Declare n) = 1
  size (checked.Static n) = 1
  size (checked.Initialise n e) = 1
  size (checked.Label n) = 1
  size (checked.Evaluate e) = 1
  size (checked.If e s) = 1 + size s
  size (checked.IfElse e s t) = 1 + (size s + size t)
  size (checked.While l named e s) = 1 + size s
  size (checked.Return e) = 1

  pub sizes : CheckedTrees → ℕ
  sizes checked.none = 0
  sizes (checked.more s rest) = size s + sizes rest

-- an item weighs at most what its list does
pub size_at : (all : List Checked) (i : ℕ) (s : Checked) → i < length all → s ≡ get_or all i s → size (checked_tree s) ≤ sizes (checked_trees all)
size_at [] i s h e = omega arith
size_at (first ∷ rest) zero s h e = let w = ap (λ x. size (checked_tree x)) e in omega arith
size_at (first ∷ rest) (suc i) s h e = let w = size_at rest i s (omega arith) e in omega arith

-- an item is typed where its list is
pub typed_at : (cells : Layout) (result : List CellType) (all : List Checked) (i : ℕ) (s : Checked) → i < length all → s ≡ get_or all i s → AreTyped cells result (checked_trees all) → IsTypedStatement cells result (checked_tree s)
typed_at cells result [] i s h e t = absurd (omega arith)
typed_at cells result (first ∷ rest) zero s h e (t, u) = subst (λ x. IsTypedStatement cells result (checked_tree x)) (sym e) t
typed_at cells result (first ∷ rest) (suc i) s h e (t, u) = typed_at cells result rest i s (omega arith) e u
