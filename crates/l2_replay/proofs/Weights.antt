-- How large a tree is: what the interpreter's recursion goes down in; and what holds of the items of lists.
use Rattle.std.proofs.Common.{◌≡◌, ℕ, zero, suc, ◌+◌, ◌<◌, ◌≤◌, List, [], ◌∷◌, length, get_or, drop, ap, arith, sym, subst, ◌∙◌}
use Rattle.std.proofs.lemmas.List.{drop_more}
use Rattle.l2_runs.specs.declared.cells.CellType.{CellType}
use Rattle.l2_runs.specs.declared.cells.CellValue.{CellValue}
use Rattle.l2_runs.specs.Fits.{Layout, CellFits, FitsAt}
use Rattle.l2_program.specs.declared.program.Program.{Program}
use Rattle.l2_replay.specs.Reach.{IsTypedIn, AreTypedIn}
use Rattle.l2_program.specs.declared.checked.Checked.{Checked}
use Rattle.l2_program.specs.Checked.{CheckedTree, Block, Declare, Static, Initialise, Label, Evaluate, If, IfElse, While, Return, CheckedTrees, none, more, checked_tree, checked_trees}

abbrev mutual
  pub weight : CheckedTree → ℕ
  weight (Block all) = 1 + weights all
  weight (Declare n) = 1
  weight (Static n) = 1
  weight (Initialise n e) = 1
  weight (Label n) = 1
  weight (Evaluate e) = 1
  weight (If e s) = 1 + weight s
  weight (IfElse e s t) = 1 + (weight s + weight t)
  weight (While l named e s) = 1 + weight s
  weight (Return e) = 1

  pub weights : CheckedTrees → ℕ
  weights none = 0
  weights (more s rest) = weight s + weights rest

-- an item weighs at most what its list does
pub weight_at : (all : List Checked) (i : ℕ) (s : Checked) → i < length all → s ≡ get_or all i s → weight (checked_tree s) ≤ weights (checked_trees all)
weight_at [] i s h e = omega arith
weight_at (first ∷ rest) zero s h e = let w = ap (λ x. weight (checked_tree x)) e in omega arith
weight_at (first ∷ rest) (suc i) s h e = let w = weight_at rest i s (omega arith) e in omega arith

-- an item is typed where its list is
pub typed_at : (p : Program) (all : List Checked) (i : ℕ) (s : Checked) → i < length all → s ≡ get_or all i s → AreTypedIn p (checked_trees all) → IsTypedIn p (checked_tree s)
typed_at p [] i s h e t = absurd (omega arith)
typed_at p (first ∷ rest) zero s h e (t, u) = subst (λ x. IsTypedIn p (checked_tree x)) (sym e) t
typed_at p (first ∷ rest) (suc i) s h e (t, u) = typed_at p rest i s (omega arith) e u

-- a value fits where the type there is its own
pub fits_there : (cells : Layout) (types : List CellType) (i : ℕ) (t : CellType) (v : CellValue) → t ≡ get_or types i t → CellFits cells t v → FitsAt cells types i v
fits_there cells [] i t v e h = tt
fits_there cells (u ∷ types) zero t v e h = subst (λ x. CellFits cells x v) e h
fits_there cells (u ∷ types) (suc i) t v e h = fits_there cells types i t v e h

-- an item and those behind it
pub items_from : {A : Type 0} (xs : List A) (i : ℕ) (x : A) → i < length xs → x ≡ get_or xs i x → drop i xs ≡ x ∷ drop (i + 1) xs
items_from xs i x h e = drop_more xs i x h ∙ ap (λ y. y ∷ drop (i + 1) xs) (sym e)
