-- Which codes are well formed.
use Rattle.std.specs.Prelude.{◌≡◌, ℕ, zero, suc, ◌==◌, ◌<◌, ◌≤◌, Bool, true, false, if◌then◌else◌, ℤ, pos, negsuc, ◌≤ℤ◌, List, [], ◌∷◌, ◌++◌, length, Option, Some, None, ◌⊎◌}
use Rattle.l2_bits.specs.declared.types.Ty.{Ty}
use Rattle.l2_bits.specs.declared.operators.Op.{Op}
use Rattle.l2_bits.specs.declared.operators.Op.TheVariants as op
use Rattle.l2_bits.specs.Types.{int_type, long_type}
use Rattle.l2_bits.specs.Values.{IsValue}
use Rattle.l2_runs.specs.declared.cells.CellType.{CellType}
use Rattle.l2_runs.specs.declared.cells.CellType.TheVariants.{Integer, Pointer}
use Rattle.l2_runs.specs.declared.cells.CellValue.{CellValue}
use Rattle.l2_runs.specs.declared.cells.CellValue.TheVariants.{Number, Null, Invalid, At}
use Rattle.l2_runs.specs.Numbers.{at_number}
use Rattle.l2_runs.specs.Fits.{Layout, CellsFit}
use Rattle.l2_runs.specs.Runs.{Over, Fallen, Result, Go, Halt}
use Rattle.l2_runs.specs.Loops.{Tests}
use Rattle.l2_code.specs.declared.action.Operator.{Operator}
use Rattle.l2_code.specs.declared.action.Operator.TheVariants.{Shl, Shr, Eq, Ne, Lt, Le}
use Rattle.l2_code.specs.declared.action.PointerOperator.{PointerOperator}
use Rattle.l2_code.specs.declared.action.PointerOperator.TheVariants as pointers
use Rattle.l2_code.specs.declared.action.Operand.{Operand}
use Rattle.l2_code.specs.declared.action.Operand.TheVariants.{Constant, Temp}
use Rattle.l2_code.specs.declared.action.Test.{Test}
use Rattle.l2_code.specs.declared.action.Test.TheVariants as test
use Rattle.l2_code.specs.declared.action.Computation.{Computation}
use Rattle.l2_code.specs.declared.action.Computation.TheVariants.{Numbers, Convert, Move, Pointers, Passes}
use Rattle.l2_code.specs.declared.action.Action.{Action}
use Rattle.l2_code.specs.declared.action.Action.TheVariants as action
use Rattle.l2_code.specs.declared.code.CodeObject.{CodeObject}
use Rattle.l2_code.specs.declared.code.CodeLoop.{CodeLoop}
use Rattle.l2_code.specs.declared.code.Pointed.{Pointed}
use Rattle.l2_code.specs.Trees.{Node, Do, Block, Loop, Nodes, none, more, CodeTree}
use Rattle.l2_code.specs.Sets.{Family, IsResolved}
use Rattle.l2_code.specs.Modes.{Mode, limit_of, run_code, start, types_of}

-- ---- the last instruction, and jumps

abbrev pub IsEnd : Node → Type 0
IsEnd (Do action.End) = Unit {0}
IsEnd x = ⊥

abbrev pub EndsWithEnd : Nodes → Type 0
EndsWithEnd none = ⊥
EndsWithEnd (more x none) = IsEnd x
EndsWithEnd (more x (more y rest)) = EndsWithEnd (more y rest)

-- a jump leaves one of this many blocks round it
abbrev pub JumpsOut : ℕ → Action → Type 0
JumpsOut blocks (action.Unless a n) = n < blocks
JumpsOut blocks (action.Goto n) = n < blocks
JumpsOut blocks a = Unit {0}

abbrev mutual
  pub HasJumps : ℕ → Node → Type 0
  HasJumps blocks (Do a) = JumpsOut blocks a
  HasJumps blocks (Block all) = HaveJumps (suc blocks) all
  HasJumps blocks (Loop l all) = HaveJumps blocks all

  pub HaveJumps : ℕ → Nodes → Type 0
  HaveJumps blocks none = Unit {0}
  HaveJumps blocks (more x rest) = HasJumps blocks x × HaveJumps blocks rest

-- ---- temporaries

-- the temporaries that an instruction computes
abbrev pub result_of : Action → List ℕ
result_of (action.Compute n c) = n ∷ []
result_of (action.Read n ty a) = n ∷ []
result_of (action.Choice n ty) = n ∷ []
result_of a = []

abbrev mutual
  pub node_results : Node → List ℕ
  node_results (Do a) = result_of a
  node_results (Block all) = results all
  node_results (Loop l all) = results all

  -- the temporaries that code computes, in the order of its instructions
  pub results : Nodes → List ℕ
  results none = []
  results (more x rest) = node_results x ++ results rest

-- so many numbers from this one on
abbrev pub count_from : ℕ → ℕ → List ℕ
count_from n zero = []
count_from n (suc k) = n ∷ count_from (suc n) k

-- ---- types

-- what is known of a temporary: its type, and whether it is 1 or 0 by its instruction
pub record Known : Type 0 where
  pub type : CellType
  pub is_truth : Bool

-- the temporaries that may be read: those computed before in the same block or loop, or in one round it
abbrev pub Scope : Type 0
Scope = ℕ → Option Known

abbrev pub empty_scope : Scope
empty_scope n = None

abbrev pub with_known : Scope → ℕ → Known → Scope
with_known scope n k i = if i == n then Some k else scope i

-- what the types of a code are, and how many checks and loops it has
pub record Names : Type 0 where
  pub objects : Layout
  pub pointed : ℕ → List CellType
  pub checks : ℕ
  pub loops : ℕ

abbrev pub IsNumber : ℕ → ℕ → Type 0
IsNumber count n = (1 ≤ n) × (n ≤ count)

-- a constant of this type; the offset of an address may lie beyond its object, but below 131,072
abbrev pub IsConstant : Layout → CellType → CellValue → Type 0
IsConstant cells (Integer ty) (Number z) = IsValue ty z
IsConstant cells Pointer Null = Unit {0}
IsConstant cells Pointer Invalid = Unit {0}
IsConstant cells Pointer (At o f) = (0 < length (cells o)) × (f < 131072)
IsConstant cells ty v = ⊥

abbrev pub IsOfType : CellType → Option Known → Type 0
IsOfType ty None = ⊥
IsOfType ty (Some k) = k.type ≡ ty

-- an operand of this type
abbrev pub IsOperand : Layout → Scope → CellType → Operand → Type 0
IsOperand cells scope ty (Constant v) = IsConstant cells ty v
IsOperand cells scope ty (Temp n) = IsOfType ty (scope n)

-- a value of some integer type
abbrev pub IsWhole : CellValue → Type 0
IsWhole (Number z) = (negsuc 9223372036854775807 ≤ℤ z) × (z ≤ℤ pos 18446744073709551615)
IsWhole v = ⊥

abbrev pub IsIntegerType : CellType → Type 0
IsIntegerType (Integer ty) = Unit {0}
IsIntegerType Pointer = ⊥

abbrev pub IsKnownInteger : Option Known → Type 0
IsKnownInteger None = ⊥
IsKnownInteger (Some k) = IsIntegerType k.type

-- an operand of any integer type
abbrev pub IsInteger : Scope → Operand → Type 0
IsInteger scope (Constant v) = IsWhole v
IsInteger scope (Temp n) = IsKnownInteger (scope n)

abbrev pub IsPromotedType : CellType → Type 0
IsPromotedType (Integer ty) = 32 ≤ ty.width
IsPromotedType Pointer = ⊥

abbrev pub IsKnownPromoted : Option Known → Type 0
IsKnownPromoted None = ⊥
IsKnownPromoted (Some k) = IsPromotedType k.type

-- an operand of an integer type of at least 32 bits, as amounts of shifts and indexes are
abbrev pub IsPromoted : Scope → Operand → Type 0
IsPromoted scope (Constant v) = IsWhole v
IsPromoted scope (Temp n) = IsKnownPromoted (scope n)

abbrev pub IsBit : CellValue → Type 0
IsBit (Number z) = (z ≡ pos 0) ⊎ (z ≡ pos 1)
IsBit v = ⊥

abbrev pub IsKnownTruth : Option Known → Type 0
IsKnownTruth None = ⊥
IsKnownTruth (Some k) = k.is_truth ≡ true

-- an operand that is 0, 1, or the result of a comparison or a test
abbrev pub IsTruth : Scope → Operand → Type 0
IsTruth scope (Constant v) = IsBit v
IsTruth scope (Temp n) = IsKnownTruth (scope n)

abbrev pub is_comparison : Operator → Bool
is_comparison Eq = true
is_comparison Ne = true
is_comparison Lt = true
is_comparison Le = true
is_comparison op = false

abbrev pub IsAmount : Bool → Layout → Scope → Ty → Operand → Type 0
IsAmount true cells scope ty b = IsPromoted scope b
IsAmount false cells scope ty b = IsOperand cells scope (Integer ty) b

abbrev pub is_shift : Operator → Bool
is_shift Shl = true
is_shift Shr = true
is_shift op = false

abbrev pub is_left_shift : Op → Bool
is_left_shift op.Shl = true
is_left_shift o = false

-- the factor of a move
abbrev pub IsFactor : ℤ → Type 0
IsFactor by = (negsuc 65535 ≤ℤ by) × (by ≤ℤ pos 65536)

-- the length of an array
abbrev pub IsLength : ℕ → Type 0
IsLength n = (1 ≤ n) × (n ≤ 65536)

-- the operands of a test; an amount of a shift and an index are of any promoted type
abbrev pub IsTypedTest : Names → Scope → Test → Type 0
IsTypedTest names scope (test.Division ty a b) = IsOperand names.objects scope (Integer ty) a × IsOperand names.objects scope (Integer ty) b
IsTypedTest names scope (test.Shift ty b) = IsPromoted scope b
IsTypedTest names scope (test.Overflow op ty a b) = IsOperand names.objects scope (Integer ty) a × IsAmount (is_left_shift op) names.objects scope ty b × (ty.signed ≡ true)
IsTypedTest names scope (test.Index n a) = IsLength n × IsPromoted scope a
IsTypedTest names scope (test.IndexEnd n a) = IsLength n × IsPromoted scope a
IsTypedTest names scope (test.Null a) = IsOperand names.objects scope Pointer a
IsTypedTest names scope (test.Invalid a) = IsOperand names.objects scope Pointer a
IsTypedTest names scope (test.Live a) = IsOperand names.objects scope Pointer a
IsTypedTest names scope (test.Cells x a) = (0 < length (names.pointed x)) × IsOperand names.objects scope Pointer a
IsTypedTest names scope (test.Move by a b) = IsFactor by × IsOperand names.objects scope Pointer a × IsInteger scope b
IsTypedTest names scope (test.Same a b) = IsOperand names.objects scope Pointer a × IsOperand names.objects scope Pointer b

abbrev pub IsTypedComputation : Names → Scope → Computation → Type 0
IsTypedComputation names scope (Numbers op ty a b) = IsOperand names.objects scope (Integer ty) a × IsAmount (is_shift op) names.objects scope ty b
IsTypedComputation names scope (Convert ty a) = IsInteger scope a
IsTypedComputation names scope (Move by a b) = IsFactor by × IsOperand names.objects scope Pointer a × IsInteger scope b
IsTypedComputation names scope (Pointers op a b) = IsOperand names.objects scope Pointer a × IsOperand names.objects scope Pointer b
IsTypedComputation names scope (Passes t) = IsTypedTest names scope t

abbrev pub truth_value : Known
truth_value = record { type = Integer int_type; is_truth = true }

abbrev pub value_of : CellType → Known
value_of ty = record { type = ty; is_truth = false }

abbrev pub pointers_give : PointerOperator → Known
pointers_give pointers.Diff = value_of (Integer long_type)
pointers_give op = truth_value

abbrev pub computation_gives : Computation → Known
computation_gives (Numbers op ty a b) = if is_comparison op then truth_value else value_of (Integer ty)
computation_gives (Convert ty a) = value_of (Integer ty)
computation_gives (Move by a b) = value_of Pointer
computation_gives (Pointers op a b) = pointers_give op
computation_gives (Passes t) = truth_value

-- operands are of the types that are asked, and what is named is there
abbrev pub IsTypedAction : Names → Scope → Action → Type 0
IsTypedAction names scope (action.Compute n c) = IsTypedComputation names scope c
IsTypedAction names scope (action.Read n ty a) = IsOperand names.objects scope Pointer a
IsTypedAction names scope (action.Write ty a x) = IsOperand names.objects scope Pointer a × IsOperand names.objects scope ty x
IsTypedAction names scope (action.Choice n ty) = Unit {0}
IsTypedAction names scope (action.Assume a) = IsTruth scope a
IsTypedAction names scope (action.Check c a) = IsNumber names.checks c × IsTruth scope a
IsTypedAction names scope (action.Unless a n) = IsTruth scope a
IsTypedAction names scope (action.Goto n) = Unit {0}
IsTypedAction names scope (action.Live o) = 0 < length (names.objects o)
IsTypedAction names scope (action.Dead o) = 0 < length (names.objects o)
IsTypedAction names scope action.End = Unit {0}

-- what may be read behind an instruction
abbrev pub behind : Scope → Action → Scope
behind scope (action.Compute n c) = with_known scope n (computation_gives c)
behind scope (action.Read n ty a) = with_known scope n (value_of ty)
behind scope (action.Choice n ty) = with_known scope n (value_of (Integer ty))
behind scope a = scope

-- behind a block or a loop may be read what might be before it
abbrev pub behind_node : Scope → Node → Scope
behind_node scope (Do a) = behind scope a
behind_node scope (Block all) = scope
behind_node scope (Loop l all) = scope

abbrev mutual
  pub IsTypedNode : Names → Scope → Node → Type 0
  IsTypedNode names scope (Do a) = IsTypedAction names scope a
  IsTypedNode names scope (Block all) = AreTyped names scope all
  IsTypedNode names scope (Loop l all) = IsNumber names.loops l × AreTyped names scope all

  pub AreTyped : Names → Scope → Nodes → Type 0
  AreTyped names scope none = Unit {0}
  AreTyped names scope (more x rest) = IsTypedNode names scope x × AreTyped names (behind_node scope x) rest

-- ---- objects and loops

-- a static object's pointer cells start with Null or an address, any other's with Invalid
abbrev pub StartsAs : Bool → CellValue → Type 0
StartsAs is_static (Number z) = Unit {0}
StartsAs is_static Null = is_static ≡ true
StartsAs is_static Invalid = is_static ≡ false
StartsAs is_static (At o f) = is_static ≡ true

abbrev pub StartAs : Bool → List CellValue → Type 0
StartAs is_static [] = Unit {0}
StartAs is_static (v ∷ vs) = StartsAs is_static v × StartAs is_static vs

abbrev pub IsSized : List CellType → Type 0
IsSized types = (1 ≤ length types) × (length types ≤ 65536)

pub record IsObject (cells : Layout) (o : CodeObject) : Type 0 where
  pub sized : IsSized o.cells
  pub fits : CellsFit cells o.cells o.start
  pub start : StartAs o.is_static o.start
  pub hidden : o.hidden ≡ true → o.is_static ≡ false

-- one cell, of integer type
abbrev pub IsVariable : List CellType → Type 0
IsVariable (Integer ty ∷ []) = Unit {0}
IsVariable types = ⊥

abbrev pub All : (ℕ → Type 0) → List ℕ → Type 0
All P [] = Unit {0}
All P (n ∷ ns) = P n × All P ns

abbrev pub Rise : List ℕ → Type 0
Rise [] = Unit {0}
Rise (n ∷ []) = Unit {0}
Rise (n ∷ m ∷ rest) = (n < m) × Rise (m ∷ rest)

pub record IsLoop (cells : Layout) (l : CodeLoop) : Type 0 where
  pub variables : All (λ n. IsVariable (cells n)) l.vars
  pub vars_rise : Rise l.vars
  pub changed : All (λ n. 0 < length (cells n)) l.mods
  pub mods_rise : Rise l.mods

-- ---- codes

abbrev pub names_of : CodeTree → Names
names_of c = record { objects = (types_of c).objects; pointed = (types_of c).pointed; checks = length c.checks; loops = length c.loops }

abbrev pub IsStuck : Result (Unit {0}) → Type 0
IsStuck (Go u s) = ⊥
IsStuck (Halt (Over o) s) = ⊥
IsStuck (Halt (Fallen zero row) s) = Unit {0}
IsStuck (Halt (Fallen (suc l) row) s) = ⊥

-- in no mode, with any sets with which it may be resolved, does a run come to an operator whose check would break, or
-- to a read or write whose address isn't that of a cell of its type
abbrev pub IsNeverStuck : CodeTree → Type 0
IsNeverStuck c =
    (f : Family) → IsResolved c f → (mode : Mode) (tests : Tests) (choices : List ℤ) (turns : ℕ)
    → ¬ IsStuck (run_code c (limit_of c f mode) tests (start c choices turns))

pub record IsWellFormed (c : CodeTree) : Type 0 where
  pub ends : EndsWithEnd c.body
  pub jumps : HaveJumps 0 c.body
  -- the temporaries are numbered in the order of their instructions
  pub temps : results c.body ≡ count_from 1 c.temps
  pub typed : AreTyped (names_of c) empty_scope c.body
  pub few_objects : length c.objects ≤ 131070
  pub objects : (n : ℕ) (o : CodeObject) → at_number c.objects n ≡ Some o → IsObject (types_of c).objects o
  pub pointed : (n : ℕ) (p : Pointed) → at_number c.pointed n ≡ Some p → IsSized p.cells
  pub loops : (n : ℕ) (l : CodeLoop) → at_number c.loops n ≡ Some l → IsLoop (types_of c).objects l
  pub never_stuck : IsNeverStuck c
