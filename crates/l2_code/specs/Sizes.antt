-- What code weighs when its loops are unwound.
use Rattle.std.specs.Prelude.{ℕ, suc, ◌+◌, ◌*◌, Bool, if◌then◌else◌, List, [], ◌∷◌, length, Option, Some, None}
use Rattle.l2_runs.specs.declared.cells.CellType.{CellType}
use Rattle.l2_runs.specs.declared.member.Member.{Member}
use Rattle.l2_runs.specs.declared.member.Member.TheVariants.{Object}
use Rattle.l2_runs.specs.Numbers.{at_number}
use Rattle.l2_code.specs.declared.action.Operator.{Operator}
use Rattle.l2_code.specs.declared.action.Operator.TheVariants.{Mul, Div, Rem}
use Rattle.l2_code.specs.declared.action.Operand.{Operand}
use Rattle.l2_code.specs.declared.action.Operand.TheVariants.{Constant, Temp}
use Rattle.l2_code.specs.declared.action.Test.{Test}
use Rattle.l2_code.specs.declared.action.Test.TheVariants.{Cells}
use Rattle.l2_code.specs.declared.action.Computation.{Computation}
use Rattle.l2_code.specs.declared.action.Computation.TheVariants.{Numbers, Passes}
use Rattle.l2_code.specs.declared.action.Action.{Action}
use Rattle.l2_code.specs.declared.action.Action.TheVariants as action
use Rattle.l2_code.specs.declared.code.CodeObject.{CodeObject}
use Rattle.l2_code.specs.Trees.{Node, Do, Block, Loop, Nodes, none, more, CodeTree}
use Rattle.l2_code.specs.Values.{same_type}
use Rattle.l2_code.specs.Sets.{Family}
use Rattle.l2_code.specs.Modes.{mods_of, object_cells, pointed_cells}

-- how many cells there are of a type
abbrev pub cells_of_type : CellType → List CellType → ℕ
cells_of_type ty [] = 0
cells_of_type ty (t ∷ types) = if same_type ty t then suc (cells_of_type ty types) else cells_of_type ty types

-- the same in the objects of a set, where the first object has this number
abbrev pub cells_in : (Member → Bool) → CellType → ℕ → List CodeObject → ℕ
cells_in set ty n [] = 0
cells_in set ty n (o ∷ rest) = if set (Object n) then cells_of_type ty o.cells + cells_in set ty (suc n) rest else cells_in set ty (suc n) rest

-- what an address adds to the weight of what goes to a cell of this type: on a temporary the cells where it may be
abbrev pub reach : CodeTree → Family → CellType → Operand → ℕ
reach c f ty (Constant v) = 0
reach c f ty (Temp n) = cells_in (f.temp n) ty 1 c.objects

-- the same by the first scalar of a pointed type
abbrev pub first_reach : CodeTree → Family → List CellType → Operand → ℕ
first_reach c f [] a = 0
first_reach c f (ty ∷ types) a = reach c f ty a

abbrev pub operator_weight : Operator → ℕ
operator_weight Mul = 64
operator_weight Div = 128
operator_weight Rem = 128
operator_weight op = 1

abbrev pub test_weight : CodeTree → Family → Test → ℕ
test_weight c f (Cells x a) = 1 + first_reach c f (pointed_cells (at_number c.pointed x)) a
test_weight c f t = 1

abbrev pub computation_weight : CodeTree → Family → Computation → ℕ
computation_weight c f (Numbers op ty a b) = operator_weight op
computation_weight c f (Passes t) = test_weight c f t
computation_weight c f x = 1

abbrev pub weight : CodeTree → Family → Action → ℕ
weight c f (action.Compute n x) = computation_weight c f x
weight c f (action.Read n ty a) = 1 + reach c f ty a
weight c f (action.Write ty a x) = 1 + reach c f ty a
weight c f a = 1

-- the cells of these objects
abbrev pub cells_among : List CodeObject → List ℕ → ℕ
cells_among objects [] = 0
cells_among objects (n ∷ ns) = length (object_cells (at_number objects n)) + cells_among objects ns

-- a loop's head takes the cells that the loop may change, and the end of a turn its rows
abbrev pub head_weight : CodeTree → ℕ → ℕ
head_weight c l = 1 + cells_among c.objects (mods_of c l)

abbrev pub rows_of : Option ℕ → ℕ
rows_of None = 0
rows_of (Some n) = n

abbrev pub end_weight : List ℕ → ℕ → ℕ
end_weight rows l = 1 + rows_of (at_number rows l)

abbrev mutual
  pub node_size : CodeTree → Family → ℕ → List ℕ → Node → ℕ
  node_size c f k rows (Do a) = weight c f a
  node_size c f k rows (Block all) = nodes_size c f k rows all
  -- a loop's turn stands in each of its copies
  node_size c f k rows (Loop l all) = head_weight c l + k * (nodes_size c f k rows all + end_weight rows l)

  pub nodes_size : CodeTree → Family → ℕ → List ℕ → Nodes → ℕ
  nodes_size c f k rows none = 0
  nodes_size c f k rows (more x rest) = node_size c f k rows x + nodes_size c f k rows rest

-- the weight of a code with k copies of each turn, where a loop has so many rows: the sum of the weights of its instructions, each
-- times k to the power of the number of loops round it
abbrev pub size : CodeTree → Family → ℕ → List ℕ → ℕ
size c f k rows = nodes_size c f k rows c.body

-- ---- instructions

abbrev mutual
  pub node_count : Node → ℕ
  node_count (Do a) = 1
  node_count (Block all) = instructions all
  -- with its head and the end of its turn
  node_count (Loop l all) = 2 + instructions all

  -- how many instructions the flat list of code has
  pub instructions : Nodes → ℕ
  instructions none = 0
  instructions (more x rest) = node_count x + instructions rest
