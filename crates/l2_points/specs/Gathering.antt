-- The inclusions that a code asks of the sets of its objects and temporaries.
use Rattle.std.specs.Prelude.{ℕ, zero, suc, ◌+◌, ◌*◌, ◌/◌, ◌%◌, ◌==◌, Bool, if◌then◌else◌, List, [], ◌∷◌, ◌++◌, Option, Some, None}
use Rattle.l2_runs.specs.declared.cells.CellValue.{CellValue}
use Rattle.l2_runs.specs.declared.cells.CellValue.TheVariants as value
use Rattle.l2_runs.specs.declared.member.Member.{Member}
use Rattle.l2_runs.specs.declared.member.Member.TheVariants.{Null, Invalid, Object}
use Rattle.l2_code.specs.declared.action.Operand.{Operand}
use Rattle.l2_code.specs.declared.action.Operand.TheVariants.{Constant, Temp}
use Rattle.l2_code.specs.declared.action.Computation.{Computation}
use Rattle.l2_code.specs.declared.action.Computation.TheVariants.{Numbers, Convert, Move, Pointers, Passes}
use Rattle.l2_code.specs.declared.action.Action.{Action}
use Rattle.l2_code.specs.declared.action.Action.TheVariants as action
use Rattle.l2_code.specs.declared.code.CodeObject.{CodeObject}
use Rattle.l2_code.specs.Trees.{Node, Do, Block, Loop, Nodes, none, more, CodeTree}
use Rattle.l2_code.specs.Sets.{Family, has_pointer, unwritten}
use Rattle.l2_inclusions.specs.declared.inclusion.Inclusion.{Inclusion}
use Rattle.l2_inclusions.specs.declared.inclusion.Inclusion.TheVariants.{Has, Copies, Loads, Stores}
use Rattle.l2_inclusions.specs.Inclusions as nodes
use Rattle.l2_inclusions.specs.Inclusions.{object_node}

-- ---- nodes

-- the node of a temporary, and the node that has one member alone
abbrev pub temp_node : ℕ → ℕ
temp_node t = 3 * t + 1

abbrev pub number_of : Member → ℕ
number_of Null = 0
number_of Invalid = 1
number_of (Object o) = suc (suc o)

abbrev pub one_node : Member → ℕ
one_node m = 3 * number_of m + 2

-- the sets of objects and temporaries, by those of nodes
abbrev pub code_family : nodes.Family → Family
code_family f = record { object = λ n. f (object_node n); temp = λ n. f (temp_node n) }

abbrev pub node_set : Family → ℕ → ℕ → Member → Bool
node_set f zero k m = f.object k m
node_set f (suc zero) k m = f.temp k m
node_set f (suc (suc r)) k m = number_of m == k

-- the sets of nodes, by those of objects and temporaries
unfoldable pub node_family : Family → nodes.Family
node_family f n m = node_set f (n % 3) (n / 3) m

-- ---- inclusions of operands

-- what a pointer points to
abbrev pub target_of : CellValue → Option Member
target_of (value.Number z) = None
target_of value.Null = Some Null
target_of value.Invalid = Some Invalid
target_of (value.At o f) = Some (Object o)

abbrev pub copies_one : Option Member → ℕ → List Inclusion
copies_one None n = []
copies_one (Some m) n = Has (one_node m) m ∷ Copies (one_node m) n ∷ []

-- a node has what an operand may be
abbrev pub copies : Operand → ℕ → List Inclusion
copies (Constant v) n = copies_one (target_of v) n
copies (Temp t) n = Copies (temp_node t) n ∷ []

abbrev pub loads_one : Option Member → ℕ → List Inclusion
loads_one None n = []
loads_one (Some Null) n = []
loads_one (Some Invalid) n = []
loads_one (Some (Object o)) n = Copies (object_node o) n ∷ []

-- a node has what the objects at an address have
abbrev pub loads : Operand → ℕ → List Inclusion
loads (Constant v) n = loads_one (target_of v) n
loads (Temp t) n = Loads (temp_node t) n ∷ []

abbrev pub stores_one : Option Member → Operand → List Inclusion
stores_one None x = []
stores_one (Some Null) x = []
stores_one (Some Invalid) x = []
stores_one (Some (Object o)) x = copies x (object_node o)

abbrev pub stores_value : ℕ → Option Member → List Inclusion
stores_value t None = []
stores_value t (Some m) = Has (one_node m) m ∷ Stores (temp_node t) (one_node m) ∷ []

-- the objects at an address have what an operand may be
abbrev pub stores : Operand → Operand → List Inclusion
stores (Constant v) x = stores_one (target_of v) x
stores (Temp t) (Constant v) = stores_value t (target_of v)
stores (Temp t) (Temp u) = Stores (temp_node t) (temp_node u) ∷ []

-- ---- inclusions of code

abbrev pub of_result : ℕ → Computation → List Inclusion
of_result n (Move by a b) = copies a (temp_node n)
of_result n (Numbers op ty a b) = []
of_result n (Convert ty a) = []
of_result n (Pointers op a b) = []
of_result n (Passes test) = []

abbrev pub of_action : Action → List Inclusion
of_action (action.Compute n c) = of_result n c
of_action (action.Read n ty a) = loads a (temp_node n)
of_action (action.Write ty a x) = stores a x
of_action (action.Choice n ty) = []
of_action (action.Assume a) = []
of_action (action.Check c a) = []
of_action (action.Unless a n) = []
of_action (action.Goto n) = []
of_action (action.Live o) = []
of_action (action.Dead o) = []
of_action action.End = []

abbrev mutual
  pub of_node : Node → List Inclusion
  of_node (Do a) = of_action a
  of_node (Block all) = of_nodes all
  of_node (Loop l all) = of_nodes all

  pub of_nodes : Nodes → List Inclusion
  of_nodes none = []
  of_nodes (more x rest) = of_node x ++ of_nodes rest

abbrev pub of_start : ℕ → List CellValue → List Inclusion
of_start n [] = []
of_start n (v ∷ vs) = copies_one (target_of v) (object_node n) ++ of_start n vs

abbrev pub of_first : ℕ → CodeObject → List Inclusion
of_first n o = if has_pointer o.cells then Has (object_node n) (unwritten o.is_static) ∷ [] else []

-- the inclusions of objects, the first of which has this number
abbrev pub of_objects : ℕ → List CodeObject → List Inclusion
of_objects n [] = []
of_objects n (o ∷ rest) = of_first n o ++ of_start n o.start ++ of_objects (suc n) rest

abbrev pub inclusions_of : CodeTree → List Inclusion
inclusions_of c = of_nodes c.body ++ of_objects 1 c.objects
