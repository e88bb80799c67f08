-- What operators, moves and tests give on the values of temporaries.
use Rattle.std.specs.Prelude.{ℕ, ◌==◌, nat_le, nat_lt, Bool, true, false, not, ◌&&◌, if◌then◌else◌, ℤ, pos, negsuc, ◌+ℤ◌, ◌-ℤ◌, ◌*ℤ◌, int_le, int_lt, List, [], ◌∷◌, length, drop, slice_get, Option, Some, None}
use Rattle.std.specs.Ordering.{int_eq}
use Rattle.l2_bits.specs.declared.types.Ty.{Ty}
use Rattle.l2_bits.specs.Operators.{add, sub, mul, div, rem, shl, shr, breaks_division, breaks_shift, overflows, convert}
use Rattle.l2_bits.specs.Bits.{and, or, xor}
use Rattle.l2_runs.specs.declared.cells.CellType.{CellType}
use Rattle.l2_runs.specs.declared.cells.CellType.TheVariants.{Integer, Pointer}
use Rattle.l2_runs.specs.declared.cells.CellValue.{CellValue}
use Rattle.l2_runs.specs.declared.cells.CellValue.TheVariants.{Number, Null, Invalid, At}
use Rattle.l2_runs.specs.Operators.{truth, is_zero}
use Rattle.l2_runs.specs.Fits.{Layout}
use Rattle.l2_runs.specs.Store.{Store, Address, object_at}
use Rattle.l2_code.specs.declared.action.Operator.{Operator}
use Rattle.l2_code.specs.declared.action.Operator.TheVariants.{Add, Sub, Mul, Div, Rem, Shl, Shr, And, Or, Xor, Eq, Ne, Lt, Le}
use Rattle.l2_code.specs.declared.action.PointerOperator.{PointerOperator}
use Rattle.l2_code.specs.declared.action.PointerOperator.TheVariants as pointers
use Rattle.l2_code.specs.declared.action.Operand.{Operand}
use Rattle.l2_code.specs.declared.action.Operand.TheVariants.{Constant, Temp}
use Rattle.l2_code.specs.declared.action.Test.{Test}
use Rattle.l2_code.specs.declared.action.Test.TheVariants as test
use Rattle.l2_code.specs.declared.action.Computation.{Computation}
use Rattle.l2_code.specs.declared.action.Computation.TheVariants.{Numbers, Convert, Move, Pointers, Passes}

-- the types of the cells of each object, and of each pointed type, by their numbers
pub record Types : Type 0 where
  pub objects : Layout
  pub pointed : ℕ → List CellType

-- ---- temporaries

-- the temporaries' values, by their numbers
abbrev pub Temps : Type 0
Temps = ℕ → CellValue

-- before any is computed
abbrev pub no_temps : Temps
no_temps n = Number (pos 0)

abbrev pub with_temp : Temps → ℕ → CellValue → Temps
with_temp t n v i = if i == n then v else t i

abbrev pub operand_value : Temps → Operand → CellValue
operand_value t (Constant v) = v
operand_value t (Temp n) = t n

-- ---- numbers

-- what an operator gives on two numbers, or None where its check breaks
abbrev pub operate : Operator → Ty → ℤ → ℤ → Option ℤ
operate Add ty a b = Some (add ty a b)
operate Sub ty a b = Some (sub ty a b)
operate Mul ty a b = Some (mul ty a b)
operate Div ty a b = div ty a b
operate Rem ty a b = rem ty a b
operate Shl ty a b = shl ty a b
operate Shr ty a b = shr ty a b
operate And ty a b = Some (and ty a b)
operate Or ty a b = Some (or ty a b)
operate Xor ty a b = Some (xor ty a b)
operate Eq ty a b = Some (truth (int_eq a b))
operate Ne ty a b = Some (truth (not (int_eq a b)))
operate Lt ty a b = Some (truth (int_lt a b))
operate Le ty a b = Some (truth (int_le a b))

abbrev pub as_number : Option ℤ → Option CellValue
as_number None = None
as_number (Some z) = Some (Number z)

abbrev pub on_numbers : (ℤ → ℤ → Option ℤ) → CellValue → CellValue → Option CellValue
on_numbers f (Number a) (Number b) = as_number (f a b)
on_numbers f x y = None

abbrev pub converted : Ty → CellValue → Option CellValue
converted ty (Number a) = Some (Number (convert ty a))
converted ty x = None

-- a number that differs from 0
abbrev pub is_true : CellValue → Bool
is_true (Number z) = not (is_zero z)
is_true x = false

-- ---- pointers

-- the place in an object of so many cells, one past its end included
abbrev pub place_in : ℕ → ℕ → ℤ → Option CellValue
place_in o cells (pos f) = if nat_le f cells then Some (At o f) else None
place_in o cells (negsuc f) = None

-- a pointer moved by a number times so many cells, or None where a check breaks
abbrev pub moved : Layout → ℤ → CellValue → CellValue → Option CellValue
moved cells by (At o f) (Number n) = place_in o (length (cells o)) (pos f +ℤ n *ℤ by)
moved cells by x y = None

-- how many cells lie between two places in one object
abbrev pub distance : CellValue → CellValue → Option CellValue
distance (At o f) (At p g) = if o == p then Some (Number (pos f -ℤ pos g)) else None
distance x y = None

-- the answer to a question on two offsets in one object
abbrev pub in_order : (ℕ → ℕ → Bool) → CellValue → CellValue → Option CellValue
in_order f (At o n) (At p m) = if o == p then Some (Number (truth (f n m))) else None
in_order f x y = None

abbrev pub same_place : CellValue → CellValue → Bool
same_place Null Null = true
same_place (At o f) (At p g) = (o == p) && (f == g)
same_place x y = false

-- the answer to a question on whether two pointers are equal; Invalid mustn't be asked
abbrev pub on_equal : (Bool → Bool) → CellValue → CellValue → Option CellValue
on_equal f Invalid y = None
on_equal f x Invalid = None
on_equal f x y = Some (Number (truth (f (same_place x y))))

abbrev pub on_pointers : PointerOperator → CellValue → CellValue → Option CellValue
on_pointers pointers.Diff x y = distance x y
on_pointers pointers.Eq x y = on_equal (λ e. e) x y
on_pointers pointers.Ne x y = on_equal not x y
on_pointers pointers.Lt x y = in_order nat_lt x y
on_pointers pointers.Le x y = in_order nat_le x y

-- ---- cells

abbrev pub same_sign : Bool → Bool → Bool
same_sign true b = b
same_sign false b = not b

abbrev pub same_type : CellType → CellType → Bool
same_type (Integer t) (Integer u) = (t.width == u.width) && same_sign t.signed u.signed
same_type Pointer Pointer = true
same_type t u = false

abbrev pub is_type : CellType → Option CellType → Bool
is_type t None = false
is_type t (Some u) = same_type t u

-- a list of types begins with these
abbrev pub begins_with : List CellType → List CellType → Bool
begins_with [] types = true
begins_with (t ∷ ts) [] = false
begins_with (t ∷ ts) (u ∷ types) = same_type t u && begins_with ts types

-- the cell of this type at which a pointer points
abbrev pub cell_of : Layout → CellType → CellValue → Option Address
cell_of cells ty (At o f) = if is_type ty (slice_get (cells o) f) then Some (record { object = o; offset = f }) else None
cell_of cells ty x = None

-- ---- tests

abbrev pub is_some : {A : Type 0} → Option A → Bool
is_some None = false
is_some (Some x) = true

abbrev pub is_number : (ℤ → Bool) → CellValue → Bool
is_number f (Number a) = f a
is_number f x = false

abbrev pub are_numbers : (ℤ → ℤ → Bool) → CellValue → CellValue → Bool
are_numbers f (Number a) (Number b) = f a b
are_numbers f x y = false

-- from 0 to below an end
abbrev pub is_below : ℤ → ℤ → Bool
is_below end n = int_le (pos 0) n && int_lt n end

abbrev pub is_not_null : CellValue → Bool
is_not_null Invalid = true
is_not_null (At o f) = true
is_not_null x = false

abbrev pub is_not_invalid : CellValue → Bool
is_not_invalid Null = true
is_not_invalid (At o f) = true
is_not_invalid x = false

-- no pointer into an object that is dead
abbrev pub is_not_dead : Store → CellValue → Bool
is_not_dead store (At o f) = (object_at store o).live
is_not_dead store Null = true
is_not_dead store Invalid = true
is_not_dead store (Number z) = false

-- cells of these types stand at the pointer
abbrev pub has_cells : Layout → List CellType → CellValue → Bool
has_cells cells types (At o f) = begins_with types (drop f (cells o))
has_cells cells types x = false

abbrev pub same_object : CellValue → CellValue → Bool
same_object (At o f) (At p g) = o == p
same_object x y = false

-- the check doesn't break
abbrev pub passes : Types → Store → Temps → Test → Bool
passes types store t (test.Division ty a b) = are_numbers (λ x y. not (breaks_division ty x y)) (operand_value t a) (operand_value t b)
passes types store t (test.Shift ty a) = is_number (λ x. not (breaks_shift ty x)) (operand_value t a)
passes types store t (test.Overflow op ty a b) = are_numbers (λ x y. not (overflows op ty x y)) (operand_value t a) (operand_value t b)
passes types store t (test.Index n a) = is_number (is_below (pos n)) (operand_value t a)
passes types store t (test.IndexEnd n a) = is_number (is_below (pos n +ℤ pos 1)) (operand_value t a)
passes types store t (test.Null a) = is_not_null (operand_value t a)
passes types store t (test.Invalid a) = is_not_invalid (operand_value t a)
passes types store t (test.Live a) = is_not_dead store (operand_value t a)
passes types store t (test.Cells x a) = has_cells types.objects (types.pointed x) (operand_value t a)
passes types store t (test.Move by a b) = is_some (moved types.objects by (operand_value t a) (operand_value t b))
passes types store t (test.Same a b) = same_object (operand_value t a) (operand_value t b)

-- what is computed, or None where a check breaks or an operand isn't of its kind
abbrev pub compute : Types → Store → Temps → Computation → Option CellValue
compute types store t (Numbers op ty a b) = on_numbers (operate op ty) (operand_value t a) (operand_value t b)
compute types store t (Convert ty a) = converted ty (operand_value t a)
compute types store t (Move by a b) = moved types.objects by (operand_value t a) (operand_value t b)
compute types store t (Pointers op a b) = on_pointers op (operand_value t a) (operand_value t b)
compute types store t (Passes test) = Some (Number (truth (passes types store t test)))
