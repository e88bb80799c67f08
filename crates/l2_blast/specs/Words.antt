-- How a step makes the word of its name.
use Rattle.std.specs.Prelude.{ℕ, zero, suc, ◌+◌, pos, Bool, true, false, if◌then◌else◌, List, [], ◌∷◌, ◌++◌, map, replicate, slice_index_or}
use Rattle.l2_bits.specs.declared.types.Ty.{Ty}
use Rattle.l2_runs.specs.declared.cells.CellType.{CellType}
use Rattle.l2_runs.specs.declared.cells.CellType.TheVariants.{Integer, Pointer}
use Rattle.l2_runs.specs.declared.cells.CellValue.{CellValue}
use Rattle.l2_runs.specs.declared.cells.CellValue.TheVariants.{Number}
use Rattle.l2_runs.specs.declared.member.Member.{Member}
use Rattle.l2_runs.specs.declared.member.Member.TheVariants as member
use Rattle.l2_code.specs.declared.action.Operator.{Operator}
use Rattle.l2_code.specs.declared.action.Operand.{Operand}
use Rattle.l2_code.specs.declared.action.Operand.TheVariants.{Constant, Temp}
use Rattle.l2_code.specs.declared.action.Test.{Test}
use Rattle.l2_code.specs.declared.action.Test.TheVariants as test
use Rattle.l2_code.specs.declared.action.Computation.{Computation}
use Rattle.l2_code.specs.declared.action.Computation.TheVariants.{Numbers, Convert, Move, Pointers, Passes}
use Rattle.l2_code.specs.Values.{Types, is_true}
use Rattle.l2_code.specs.WellFormed.{is_shift}
use Rattle.l2_ssa.specs.Steps as steps
use Rattle.l2_ssa.specs.Steps.{Step, Choose, Take, Half, Point, Among, Compute, Alive, Pick, Row, Lower, Apart, Both, But, Either, Merge}
use Rattle.l2_blast.specs.Sorts.{Sort, Truth, Part, Cell, cell_width, width, sort_of}
use Rattle.l2_gates.specs.Gates.{Lit, T, F, negated, same, Made, Bit, known, fresh, and, or}
use Rattle.l2_circuits.specs.Words.{Word, known_word, constant, extended, literal_if, choose}
use Rattle.l2_number_circuits.specs.Numbers.{number_word, convert_word, division_bit, shift_bit, overflow_bit, index_bit, truth_of}
use Rattle.l2_pointer_circuits.specs.Words.{pointer_word, pick_word, moved_word, operator_word}
use Rattle.l2_pointer_circuits.specs.Tests.{Flag, isnt_bit, live_bit, cells_bit, move_bit, same_bit, among_bit}

-- ---- names and operands

pub record Named : Type 0 where
  pub sort : Sort
  pub bits : List Lit

-- the names so far, by their numbers
abbrev pub Env : Type 0
Env = List Named

abbrev pub no_name : Named
no_name = record { sort = Truth 0; bits = [] }

abbrev pub name : Env → ℕ → Named
name env n = slice_index_or env n no_name

abbrev pub first : List Lit → Lit
first [] = F
first (l ∷ rest) = l

-- where an operand is true
abbrev pub literal : Env → Operand → Lit
literal env (Constant v) = literal_if (is_true v)
literal env (Temp n) = first (name env n).bits

abbrev pub constant_word : ℕ → CellValue → List Lit
constant_word n (Number z) = constant n z
constant_word n v = pointer_word v

-- an operand's word; a constant number has as many bits as are asked
abbrev pub word : ℕ → Env → Operand → List Lit
word n env (Constant v) = constant_word n v
word n env (Temp k) = (name env k).bits

abbrev pub has_sign : Sort → Bool
has_sign (Truth n) = true
has_sign Part = false
has_sign (Cell (Integer ty)) = ty.signed
has_sign (Cell Pointer) = false

abbrev pub is_signed : Env → Operand → Bool
is_signed env (Constant v) = true
is_signed env (Temp n) = has_sign (name env n).sort

-- how many bits a constant has whose type isn't known: with a sign there is room for the values of all types
abbrev pub room : ℕ
room = 66

-- an operand's word as one of so many bits
abbrev pub wide_word : ℕ → Env → Operand → List Lit
wide_word n env a = extended n (is_signed env a) (word room env a)

abbrev pub wide_words : Env → List Operand → List (List Lit)
wide_words env as' = map (wide_word room env) as'

-- ---- sets

-- the objects of a set: so many from this number on
abbrev pub objects_from : (Member → Bool) → ℕ → ℕ → List Member
objects_from set o zero = []
objects_from set o (suc more) = (if set (member.Object o) then member.Object o ∷ [] else []) ++ objects_from set (suc o) more

-- the members of a set in order: Null, Invalid, and so many objects by their numbers
abbrev pub members : ℕ → (Member → Bool) → List Member
members objects set =
    (if set member.Null then member.Null ∷ [] else []) ++ ((if set member.Invalid then member.Invalid ∷ [] else []) ++ objects_from set 1 objects)

-- ---- what a step makes

-- what fills the words of rows and rankings, over the words of a loop's variables in their order, each of 66 bits
pub record Fill : Type 0 where
  -- of row i of loop l
  pub row : ℕ → ℕ → List (List Lit) → Made → Bit
  -- of the ranking of loop l, from the first words to the second
  pub lower : ℕ → List (List Lit) → List (List Lit) → Made → Bit

-- types, how many objects there are, and what fills rows
pub record Setting : Type 0 where
  pub types : Types
  pub objects : ℕ
  pub fill : Fill

abbrev pub bit_word : Bit → Word
bit_word b = known_word (b.bit ∷ []) b.made

abbrev pub behind_literal : Lit → Word → Word
behind_literal l w = known_word (l ∷ w.bits) w.made

-- so many new variables, bit 0 first
abbrev pub fresh_word : ℕ → Made → Word
fresh_word zero m = known_word [] m
fresh_word (suc n) m = let b = fresh m in behind_literal b.bit (fresh_word n b.made)

-- the word 0
abbrev pub blank : Sort → List Lit
blank s = replicate (width s) F

-- a step on a path whose literal is F is passed over
abbrev pub unless_dead : Lit → Sort → Made → Word → Word
unless_dead g s m w = if same g F then known_word (blank s) m else w

abbrev pub right_room : Operator → Ty → ℕ
right_room op ty = if is_shift op then room else ty.width

abbrev pub test_bit : Types → ℕ → (Member → Bool) → Env → Test → Made → Bit
test_bit types objects set env (test.Division ty a b) m = division_bit ty (word ty.width env a) (word ty.width env b) m
test_bit types objects set env (test.Shift ty a) m = shift_bit ty (is_signed env a) (word room env a) m
test_bit types objects set env (test.Overflow op ty a b) m = overflow_bit op ty (is_signed env b) (word ty.width env a) (word room env b) m
test_bit types objects set env (test.Index n a) m = index_bit (pos n) (is_signed env a) (word room env a) m
test_bit types objects set env (test.IndexEnd n a) m = index_bit (pos (n + 1)) (is_signed env a) (word room env a) m
test_bit types objects set env (test.Null a) m = isnt_bit member.Null (members objects set) (word 34 env a) m
test_bit types objects set env (test.Invalid a) m = isnt_bit member.Invalid (members objects set) (word 34 env a) m
test_bit types objects set env (test.Live a) m = known T m
test_bit types objects set env (test.Cells x a) m = cells_bit types.objects (types.pointed x) (members objects set) (word 34 env a) m
test_bit types objects set env (test.Move by a b) m = move_bit types.objects by (members objects set) (word 34 env a) (wide_word 96 env b) m
test_bit types objects set env (test.Same a b) m = same_bit (word 34 env a) (word 34 env b) m

abbrev pub computed_word : Types → ℕ → (Member → Bool) → Env → Computation → Made → Word
computed_word types objects set env (Numbers op ty a b) m = number_word op ty (word ty.width env a) (word (right_room op ty) env b) m
computed_word types objects set env (Convert ty a) m = convert_word ty (is_signed env a) (word room env a) m
computed_word types objects set env (Move by a b) m = moved_word by (word 34 env a) (wide_word 96 env b) m
computed_word types objects set env (Pointers op a b) m = operator_word op (word 34 env a) (word 34 env b) m
computed_word types objects set env (Passes t) m = truth_of (test_bit types objects set env t m)

abbrev pub flag_literals : Env → List steps.Flag → List Flag
flag_literals env [] = []
flag_literals env (x ∷ rest) = record { object = x.object; live = literal env x.live } ∷ flag_literals env rest

abbrev pub picked_word : Env → Operand → ℕ → ℕ → CellType → Operand → Operand → Made → Word
picked_word env a o f ty x y m = pick_word (record { object = o; offset = f }) (word 34 env a) (word (cell_width ty) env x) (word (cell_width ty) env y) m

-- at a label an entry whose path is F is dropped, and where the path that falls to the label is F the entry is taken
abbrev pub merged_word : Lit → Lit → List Lit → List Lit → Made → Word
merged_word g h x y m = if same h F then known_word y m else (if same g F then known_word x m else choose h x y m)

-- what a step makes where its path isn't F
abbrev pub made_word : Setting → Step → Env → Made → Word
made_word s (Choose g) env m = bit_word (fresh m)
made_word s (Take g ty) env m = fresh_word ty.width m
made_word s (Half g) env m = fresh_word 17 m
made_word s (Point g sel off) env m = known_word (word 17 env sel ++ word 17 env off) m
made_word s (Among g sel off set) env m = bit_word (among_bit s.types.objects (members s.objects set) (word 17 env sel) (word 17 env off) m)
made_word s (Compute g c set) env m = computed_word s.types s.objects set env c m
made_word s (Alive g a flags) env m = truth_of (live_bit (flag_literals env flags) (word 34 env a) m)
made_word s (Pick g a o f ty x y) env m = picked_word env a o f ty x y m
made_word s (Row g l i vars) env m = bit_word (s.fill.row l i (wide_words env vars) m)
made_word s (Lower g l old new) env m = bit_word (s.fill.lower l (wide_words env old) (wide_words env new) m)
made_word s (Apart g a b) env m = bit_word (and (literal env a) (negated (literal env b)) m)
made_word s (Both a b) env m = bit_word (and (literal env a) (literal env b) m)
made_word s (But a b) env m = bit_word (and (literal env a) (negated (literal env b)) m)
made_word s (Either a b) env m = bit_word (or (literal env a) (literal env b) m)
made_word s (Merge g h ty x y) env m = merged_word (literal env g) (literal env h) (word (cell_width ty) env x) (word (cell_width ty) env y) m

-- the path on which a step stands; gates of paths and labels stand on none
abbrev pub path_of : Step → Env → Lit
path_of (Choose g) env = literal env g
path_of (Take g ty) env = literal env g
path_of (Half g) env = literal env g
path_of (Point g sel off) env = literal env g
path_of (Among g sel off set) env = literal env g
path_of (Compute g c set) env = literal env g
path_of (Alive g a flags) env = literal env g
path_of (Pick g a o f ty x y) env = literal env g
path_of (Row g l i vars) env = literal env g
path_of (Lower g l old new) env = literal env g
path_of (Apart g a b) env = literal env g
path_of (Both a b) env = T
path_of (But a b) env = T
path_of (Either a b) env = T
path_of (Merge g h ty x y) env = T

abbrev pub word_of : Setting → Step → Env → Made → Word
word_of s x env m = unless_dead (path_of x env) (sort_of x) m (made_word s x env m)
