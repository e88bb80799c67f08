-- What a statement becomes.
use Rattle.std.specs.Prelude.{ℕ, suc, ◌≤◌, List, [], ◌∷◌, length}
use Rattle.l2_runs.specs.declared.cells.CellType.{CellType}
use Rattle.l2_runs.specs.declared.cells.CellType.TheVariants.{Integer, Pointer}
use Rattle.l2_runs.specs.declared.cells.CellValue.TheVariants.{Invalid}
use Rattle.l2_runs.specs.Fits.{Layout}
use Rattle.l2_program.specs.Checked as tree
use Rattle.l2_program.specs.Checked.{TypedTree, CheckedTree, CheckedTrees}
use Rattle.l2_program.specs.Types.{type_of}
use Rattle.l2_program.specs.Programs.{ProgramTree}
use Rattle.l2_meaning.specs.Execution.{cells_of}
use Rattle.l2_meaning.specs.Meaning.{declared}
use Rattle.l2_meaning.specs.Scopes as scopes
use Rattle.l2_code.specs.declared.action.Operand.{Operand}
use Rattle.l2_code.specs.declared.action.Operand.TheVariants.{Constant, Temp}
use Rattle.l2_code.specs.declared.action.Action.TheVariants.{Write, Choice, Unless, Goto, Live, Dead, End}
use Rattle.l2_code.specs.Trees.{Do, Block, Loop, Nodes, none, more, join}
use Rattle.l2_lower.specs.Emitting.{only, Emitted, Part, part, cell, expression, condition}

abbrev pub behind : Nodes → Part → Part
behind xs p = record { nodes = join xs p.nodes; next = p.next }

-- the items of an expression, and what follows with its operand
abbrev pub using : Emitted → (ℕ → Operand → Part) → Part
using x f = behind x.nodes (f x.next x.operand)

abbrev pub followed : Part → (ℕ → Part) → Part
followed p f = behind p.nodes (f p.next)

-- a condition, and what is done where it holds; past it the innermost block is left
abbrev pub guard : Emitted → (ℕ → Part) → Part
guard x f = using x (λ m a. behind (only (Unless a 0)) (f m))

-- one item of these
abbrev pub as_block : Part → Part
as_block p = part p.next (more (Block p.nodes) none)

abbrev pub as_loop : ℕ → Part → Part
as_loop l p = part p.next (more (Loop l p.nodes) none)

-- the first side of a choice, which jumps over the second
abbrev pub first_side : Part → Part
first_side p = as_block (followed p (λ k. part k (only (Goto 1))))

-- ---- declarations

-- each cell without an initialiser takes a choice, or is Invalid
abbrev pub filled : ℕ → ℕ → ℕ → List CellType → Part
filled n o f [] = part n none
filled n o f (Integer ty ∷ types) =
    behind (more (Do (Choice n ty)) (only (Write (Integer ty) (cell o f) (Temp n)))) (filled (suc n) o (suc f) types)
filled n o f (Pointer ∷ types) = behind (only (Write Pointer (cell o f) (Constant Invalid))) (filled n o (suc f) types)

abbrev pub declaration : Layout → ℕ → ℕ → Part
declaration cells n o = behind (only (Live o)) (filled n o 0 (cells o))

-- the cell of a scalar object takes an operand
abbrev pub initialised : ℕ → List CellType → Operand → Nodes
initialised o [] a = none
initialised o (ty ∷ rest) a = only (Write ty (cell o 0) a)

-- these objects die
abbrev pub deads : List ℕ → Nodes
deads [] = none
deads (o ∷ os) = more (Do (Dead o)) (deads os)

-- ---- statements

abbrev mutual
  -- where these objects are in scope
  pub statement : Layout → List ℕ → ℕ → CheckedTree → Part
  statement cells scope n (tree.Block all) = followed (statements cells scope n all) (λ m. part m (deads (declared all)))
  statement cells scope n (tree.Declare o) = declaration cells n o
  statement cells scope n (tree.Static o) = part n none
  statement cells scope n (tree.Initialise o e) =
      behind (only (Live o)) (using (expression n e) (λ m a. part m (initialised o (type_of e) a)))
  statement cells scope n (tree.Label l) = part n none
  statement cells scope n (tree.Evaluate e) = using (expression n e) (λ m a. part m none)
  statement cells scope n (tree.If e s) = as_block (guard (condition n e) (λ m. statement cells scope m s))
  statement cells scope n (tree.IfElse e s t) =
      as_block (followed (first_side (guard (condition n e) (λ m. statement cells scope m s))) (λ m. statement cells scope m t))
  statement cells scope n (tree.While l named e s) = as_block (as_loop l (guard (condition n e) (λ m. statement cells scope m s)))
  -- `return` of `main`: what is in scope dies, and the execution ends
  statement cells scope n (tree.Return e) = using (expression n e) (λ m a. part m (join (deads scope) (only End)))

  pub statements : Layout → List ℕ → ℕ → CheckedTrees → Part
  statements cells scope n tree.none = part n none
  statements cells scope n (tree.more s rest) = followed (statement cells scope n s) (λ m. statements cells (scopes.behind scope s) m rest)

abbrev pub guarded : Layout → List ℕ → ℕ → TypedTree → CheckedTree → Part
guarded cells scope n e s = guard (condition n e) (λ m. statement cells scope m s)

abbrev pub both_sides : Layout → List ℕ → ℕ → TypedTree → CheckedTree → CheckedTree → Part
both_sides cells scope n e s t = followed (first_side (guarded cells scope n e s)) (λ m. statement cells scope m t)

-- no object has more cells than a program may have
abbrev pub HaveFewCells : ProgramTree → Type 0
HaveFewCells p = (o : ℕ) → length (cells_of p o) ≤ 65536
