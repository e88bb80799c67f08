-- The walk over code that gives its equations. No step depends on what a circuit simplifies to.
use Rattle.std.specs.Prelude.{ℕ, zero, suc, pos, Bool, true, false, List, [], ◌∷◌, ◌++◌, slice_index_or, slice_set, Option, Some, None, if◌then◌else◌, ◌==◌, ◌&&◌}
use Rattle.std.specs.Ordering.{int_eq}
use Rattle.l2_bits.specs.declared.types.Ty.{Ty}
use Rattle.l2_bits.specs.Types.{bool_type}
use Rattle.l2_runs.specs.declared.cells.CellType.{CellType}
use Rattle.l2_runs.specs.declared.cells.CellType.TheVariants.{Integer, Pointer}
use Rattle.l2_runs.specs.declared.cells.CellValue.{CellValue}
use Rattle.l2_runs.specs.declared.cells.CellValue.TheVariants.{Number, Null, Invalid, At}
use Rattle.l2_runs.specs.declared.member.Member.{Member}
use Rattle.l2_runs.specs.declared.member.Member.TheVariants as member
use Rattle.l2_runs.specs.Numbers.{at_number, set_number}
use Rattle.l2_code.specs.declared.action.Operand.{Operand}
use Rattle.l2_code.specs.declared.action.Operand.TheVariants.{Constant, Temp}
use Rattle.l2_code.specs.declared.action.Test.{Test}
use Rattle.l2_code.specs.declared.action.Test.TheVariants as test
use Rattle.l2_code.specs.declared.action.Computation.{Computation}
use Rattle.l2_code.specs.declared.action.Computation.TheVariants.{Numbers, Convert, Move, Pointers, Passes}
use Rattle.l2_code.specs.declared.action.Action.{Action}
use Rattle.l2_code.specs.declared.action.Action.TheVariants as action
use Rattle.l2_code.specs.Trees as code
use Rattle.l2_code.specs.Values.{Types, same_type}
use Rattle.l2_code.specs.Sets.{Family, may_be}
use Rattle.l2_ssa.specs.Steps.{Step, Choose, Take, Half, Point, Among, Compute, Alive, Pick, Row, Lower, Apart, Both, But, Either, Merge, Flag}

-- ---- settings

-- what a loop is to a walk: one that no back start enters, which no turn may end or any turn, or one with so many rows
pub data Kind : Type 0 where
  Bottom : Kind
  Plain : Kind
  Rows : ℕ → Kind

pub record Setting : Type 0 where
  pub copies : ℕ
  pub types : Types
  -- how many objects there are
  pub objects : ℕ
  pub family : Family
  pub mods : ℕ → List ℕ
  pub vars : ℕ → List ℕ
  pub kind : ℕ → Kind
  -- checks are stops, and each turn's ranking is asked for
  pub ranks : Bool

-- what an event belongs to; row 0 of a loop is that of a loop at Bottom, and rows count from 1
pub data Goal : Type 0 where
  RowGoal : ℕ → ℕ → Goal
  RankGoal : ℕ → Goal
  CheckGoal : ℕ → Goal

-- ---- where a walk stands

-- an object's cells and its live flag
pub record Slot : Type 0 where
  pub cells : List Operand
  pub live : Operand

pub record Walk : Type 0 where
  pub path : Operand
  pub temps : ℕ → Operand
  pub slots : List Slot

abbrev pub T : Operand
T = Constant (Number (pos 1))

abbrev pub F : Operand
F = Constant (Number (pos 0))

-- a jump that waits for its label: how many blocks lie between, and the path and the objects that it brings
pub record Entry : Type 0 where
  pub depth : ℕ
  pub path : Operand
  pub slots : List Slot

pub record Event : Type 0 where
  pub goal : Goal
  pub literal : Operand

-- the names that choices give, with the paths on which they are asked for, in the shape of a supply
pub data Given : Type 0 where
  nothing : Given
  -- a loop is entered; whether a loop starts back; a number of a type; a selector, and the offset that is the next name
  entering : Given
  chosen : Operand → ℕ → Given
  taken : Operand → ℕ → Ty → Given
  halves : Operand → ℕ → Given
  pair : Given → Given → Given

-- a walk from a name on: its steps take the names from there on
pub record Out : Type 0 where
  pub after : Walk
  pub steps : List Step
  pub entries : List Entry
  pub events : List Event
  pub given : Given
  -- the paths of the arrivals at heads
  pub heads : List Operand

-- a block; the last copy of a loop; or an earlier one, which isn't left where the loop started back
pub data Frame : Type 0 where
  Block : Frame
  Last : Frame
  Early : Operand → Frame

-- the name behind the steps
abbrev pub past : ℕ → List Step → ℕ
past n [] = n
past n (x ∷ xs) = past (suc n) xs

abbrev pub goes_on : Walk → Out
goes_on w = record { after = w; steps = []; entries = []; events = []; given = nothing; heads = [] }

-- one walk, and then another
abbrev pub joined : Given → Out → Out → Out
joined given o p = record {
  after = p.after;
  steps = o.steps ++ p.steps;
  entries = o.entries ++ p.entries;
  events = o.events ++ p.events;
  given = given;
  heads = o.heads ++ p.heads;
}

abbrev pub with_path : Walk → Operand → Walk
with_path w g = record w { path = g }

abbrev pub with_temp : Walk → ℕ → Operand → Walk
with_temp w t a = record w { temps = λ i. if i == t then a else w.temps i }

-- ---- cells

abbrev pub no_slot : Slot
no_slot = record { cells = []; live = F }

abbrev pub or_no_slot : Option Slot → Slot
or_no_slot None = no_slot
or_no_slot (Some x) = x

abbrev pub slot_at : List Slot → ℕ → Slot
slot_at slots o = or_no_slot (at_number slots o)

abbrev pub cell_at : List Slot → ℕ → ℕ → Operand
cell_at slots o f = slice_index_or (slot_at slots o).cells f F

abbrev pub with_cell : Walk → ℕ → ℕ → Operand → Walk
with_cell w o f a = record w { slots = set_number w.slots o (record (slot_at w.slots o) { cells = slice_set (slot_at w.slots o).cells f a }) }

abbrev pub with_live : Walk → ℕ → Operand → Walk
with_live w o a = record w { slots = set_number w.slots o (record (slot_at w.slots o) { live = a }) }

-- a cell, by its object and offset
pub record Place : Type 0 where
  pub object : ℕ
  pub offset : ℕ

-- the cells of a type in an object, from an offset on
abbrev pub places_in : CellType → ℕ → ℕ → List CellType → List Place
places_in ty o f [] = []
places_in ty o f (t ∷ ts) = if same_type ty t then record { object = o; offset = f } ∷ places_in ty o (suc f) ts else places_in ty o (suc f) ts

-- the cells of a type in the objects of a set, by object and offset: so many objects from this number on
abbrev pub candidates : Setting → (Member → Bool) → CellType → ℕ → ℕ → List Place
candidates g set ty o zero = []
candidates g set ty o (suc more) =
    (if set (member.Object o) then places_in ty o 0 (g.types.objects o) else []) ++ candidates g set ty (suc o) more

abbrev pub zero_of : CellType → Operand
zero_of (Integer ty) = F
zero_of Pointer = Constant Null

-- ---- single instructions

abbrev pub stepped : List Step → Walk → Out
stepped steps w = record { after = w; steps = steps; entries = []; events = []; given = nothing; heads = [] }

-- operands as the temporaries stand
abbrev pub now : Walk → Operand → Operand
now w (Constant v) = Constant v
now w (Temp n) = w.temps n

abbrev pub test_now : Walk → Test → Test
test_now w (test.Division ty a b) = test.Division ty (now w a) (now w b)
test_now w (test.Shift ty a) = test.Shift ty (now w a)
test_now w (test.Overflow op ty a b) = test.Overflow op ty (now w a) (now w b)
test_now w (test.Index n a) = test.Index n (now w a)
test_now w (test.IndexEnd n a) = test.IndexEnd n (now w a)
test_now w (test.Null a) = test.Null (now w a)
test_now w (test.Invalid a) = test.Invalid (now w a)
test_now w (test.Live a) = test.Live (now w a)
test_now w (test.Cells x a) = test.Cells x (now w a)
test_now w (test.Move by a b) = test.Move by (now w a) (now w b)
test_now w (test.Same a b) = test.Same (now w a) (now w b)

abbrev pub computation_now : Walk → Computation → Computation
computation_now w (Numbers op ty a b) = Numbers op ty (now w a) (now w b)
computation_now w (Convert ty a) = Convert ty (now w a)
computation_now w (Move by a b) = Move by (now w a) (now w b)
computation_now w (Pointers op a b) = Pointers op (now w a) (now w b)
computation_now w (Passes t) = Passes (test_now w t)

-- what the pointer may be into which a computation looks
abbrev pub set_of_test : Family → Test → Member → Bool
set_of_test f (test.Null a) = may_be f a
set_of_test f (test.Invalid a) = may_be f a
set_of_test f (test.Live a) = may_be f a
set_of_test f (test.Cells x a) = may_be f a
set_of_test f (test.Move by a b) = may_be f a
set_of_test f (test.Same a b) = may_be f a
set_of_test f t = λ m. false

abbrev pub set_of : Family → Computation → Member → Bool
set_of f (Move by a b) = may_be f a
set_of f (Passes t) = set_of_test f t
set_of f c = λ m. false

-- the live flags of the objects of a set: so many objects from this number on
abbrev pub flags_of : (Member → Bool) → List Slot → ℕ → ℕ → List Flag
flags_of set slots o zero = []
flags_of set slots o (suc more) =
    (if set (member.Object o) then record { object = o; live = (slot_at slots o).live } ∷ [] else []) ++ flags_of set slots (suc o) more

abbrev pub compute_step : Setting → Walk → Computation → Step
compute_step g w (Passes (test.Live a)) = Alive w.path (now w a) (flags_of (may_be g.family a) w.slots 1 g.objects)
compute_step g w c = Compute w.path (computation_now w c) (set_of g.family c)

pub record Read : Type 0 where
  pub value : Operand
  pub steps : List Step

-- a read where a pointer may lead to these cells: so far the value is this one
abbrev pub read_steps : Walk → Operand → CellType → List Place → Operand → ℕ → Read
read_steps w a ty [] v n = record { value = v; steps = [] }
read_steps w a ty (p ∷ ps) v n =
    let r = read_steps w a ty ps (Temp n) (suc n) in
    record { value = r.value; steps = Pick w.path a p.object p.offset ty (cell_at w.slots p.object p.offset) v ∷ r.steps }

-- at a constant address the cell itself
abbrev pub read_at : Setting → Walk → CellType → Operand → ℕ → Read
read_at g w ty (Constant (At o f)) n = record { value = cell_at w.slots o f; steps = [] }
read_at g w ty (Constant v) n = record { value = zero_of ty; steps = [] }
read_at g w ty (Temp t) n = read_steps w (w.temps t) ty (candidates g (g.family.temp t) ty 1 g.objects) (zero_of ty) n

pub record Written : Type 0 where
  pub walk : Walk
  pub steps : List Step

abbrev pub write_steps : Operand → CellType → Operand → List Place → ℕ → Walk → Written
write_steps a ty x [] n w = record { walk = w; steps = [] }
write_steps a ty x (p ∷ ps) n w =
    let r = write_steps a ty x ps (suc n) (with_cell w p.object p.offset (Temp n)) in
    record { walk = r.walk; steps = Pick w.path a p.object p.offset ty x (cell_at w.slots p.object p.offset) ∷ r.steps }

abbrev pub write_at : Setting → Walk → CellType → Operand → Operand → ℕ → Written
write_at g w ty (Constant (At o f)) x n = record { walk = with_cell w o f x; steps = [] }
write_at g w ty (Constant v) x n = record { walk = w; steps = [] }
write_at g w ty (Temp t) x n = write_steps (w.temps t) ty x (candidates g (g.family.temp t) ty 1 g.objects) n w

-- ---- jumps

abbrev pub leave_steps : List Frame → ℕ → Operand → ℕ → List Step
leave_steps [] d p n = []
leave_steps (Last ∷ fs) d p n = leave_steps fs d p n
leave_steps (Early b ∷ fs) d p n = But p b ∷ leave_steps fs d (Temp n) (suc n)
leave_steps (Block ∷ fs) zero p n = []
leave_steps (Block ∷ fs) (suc d) p n = leave_steps fs d p n

-- the path of a jump out of loops: not out of an early copy where the loop started back
abbrev pub leave_path : List Frame → ℕ → Operand → ℕ → Operand
leave_path [] d p n = p
leave_path (Last ∷ fs) d p n = leave_path fs d p n
leave_path (Early b ∷ fs) d p n = leave_path fs d (Temp n) (suc n)
leave_path (Block ∷ fs) zero p n = p
leave_path (Block ∷ fs) (suc d) p n = leave_path fs d p n

abbrev pub entry : ℕ → Operand → Walk → Entry
entry d p w = record { depth = d; path = p; slots = w.slots }

abbrev pub on_unless : List Frame → ℕ → Operand → ℕ → Walk → Out
on_unless fs d a n w = record {
  after = with_path w (Temp (past (suc n) (leave_steps fs d (Temp n) (suc n))));
  steps = But w.path a ∷ (leave_steps fs d (Temp n) (suc n) ++ Both w.path a ∷ []);
  entries = entry d (leave_path fs d (Temp n) (suc n)) w ∷ [];
  events = [];
  given = nothing;
  heads = [];
}

abbrev pub on_goto : List Frame → ℕ → ℕ → Walk → Out
on_goto fs d n w = record {
  after = with_path w F;
  steps = leave_steps fs d w.path n;
  entries = entry d (leave_path fs d w.path n) w ∷ [];
  events = [];
  given = nothing;
  heads = [];
}

-- a check is an event where checks are, and its path ends where it breaks
abbrev pub on_check : Bool → ℕ → Operand → Operand → ℕ → Walk → Out
on_check true k c a n w = stepped (Both w.path a ∷ []) (with_path w (Temp n))
on_check false k c a n w = record {
  after = with_path w (Temp (suc (suc n)));
  steps = Both w.path c ∷ But (Temp n) a ∷ Both w.path a ∷ [];
  entries = [];
  events = record { goal = CheckGoal k; literal = Temp (suc n) } ∷ [];
  given = nothing;
  heads = [];
}

abbrev pub walk_action : Setting → List Frame → Operand → ℕ → Walk → Action → Out
walk_action g fs c n w (action.Compute t x) = stepped (compute_step g w x ∷ []) (with_temp w t (Temp n))
walk_action g fs c n w (action.Read t ty a) = let r = read_at g w ty a n in stepped r.steps (with_temp w t r.value)
walk_action g fs c n w (action.Write ty a x) = let r = write_at g w ty a (now w x) n in stepped r.steps r.walk
walk_action g fs c n w (action.Choice t ty) = record (stepped (Take w.path ty ∷ []) (with_temp w t (Temp n))) { given = taken w.path n ty }
walk_action g fs c n w (action.Assume a) = stepped (Both w.path (now w a) ∷ []) (with_path w (Temp n))
walk_action g fs c n w (action.Check k a) = on_check g.ranks k c (now w a) n w
walk_action g fs c n w (action.Unless a d) = on_unless fs d (now w a) n w
walk_action g fs c n w (action.Goto d) = on_goto fs d n w
walk_action g fs c n w (action.Live o) = goes_on (with_live w o T)
walk_action g fs c n w (action.Dead o) = goes_on (with_live w o F)
walk_action g fs c n w action.End = goes_on (with_path w F)

-- ---- labels

abbrev pub same_value : CellValue → CellValue → Bool
same_value (Number a) (Number b) = int_eq a b
same_value Null Null = true
same_value Invalid Invalid = true
same_value (At o f) (At p g) = (o == p) && (f == g)
same_value x y = false

abbrev pub same_operand : Operand → Operand → Bool
same_operand (Constant v) (Constant w) = same_value v w
same_operand (Temp n) (Temp m) = n == m
same_operand a b = false

-- what both paths bring alike stays as it is
abbrev pub merge_step : Bool → Operand → Operand → CellType → Operand → Operand → List Step
merge_step true g h t x y = []
merge_step false g h t x y = Merge g h t x y ∷ []

abbrev pub merged : Bool → ℕ → Operand → Operand
merged true n x = x
merged false n x = Temp n

abbrev pub next_merge : Bool → ℕ → ℕ
next_merge true n = n
next_merge false n = suc n

abbrev pub merge_cells : Operand → Operand → List CellType → List Operand → List Operand → List Step
merge_cells g h [] xs ys = []
merge_cells g h (t ∷ ts) [] ys = []
merge_cells g h (t ∷ ts) (x ∷ xs) [] = []
merge_cells g h (t ∷ ts) (x ∷ xs) (y ∷ ys) = merge_step (same_operand x y) g h t x y ++ merge_cells g h ts xs ys

abbrev pub merged_cells : ℕ → List CellType → List Operand → List Operand → List Operand
merged_cells n [] xs ys = []
merged_cells n (t ∷ ts) [] ys = []
merged_cells n (t ∷ ts) (x ∷ xs) [] = []
merged_cells n (t ∷ ts) (x ∷ xs) (y ∷ ys) = merged (same_operand x y) n x ∷ merged_cells (next_merge (same_operand x y) n) ts xs ys

-- the cells of the objects from a number on, then their flags
abbrev pub merge_slots : Setting → Operand → Operand → ℕ → List Slot → List Slot → List Step
merge_slots g p h o [] ys = []
merge_slots g p h o (x ∷ xs) [] = []
merge_slots g p h o (x ∷ xs) (y ∷ ys) = merge_cells p h (g.types.objects o) x.cells y.cells ++ merge_slots g p h (suc o) xs ys

abbrev pub merge_flags : Operand → Operand → List Slot → List Slot → List Step
merge_flags p h [] ys = []
merge_flags p h (x ∷ xs) [] = []
merge_flags p h (x ∷ xs) (y ∷ ys) = merge_step (same_operand x.live y.live) p h (Integer bool_type) x.live y.live ++ merge_flags p h xs ys

-- n is the name of the first cell, m that of the first flag
abbrev pub merged_slots : Setting → Operand → Operand → ℕ → ℕ → ℕ → List Slot → List Slot → List Slot
merged_slots g p h n m o [] ys = []
merged_slots g p h n m o (x ∷ xs) [] = []
merged_slots g p h n m o (x ∷ xs) (y ∷ ys) =
    record { cells = merged_cells n (g.types.objects o) x.cells y.cells; live = merged (same_operand x.live y.live) m x.live }
    ∷ merged_slots g p h (past n (merge_cells p h (g.types.objects o) x.cells y.cells)) (next_merge (same_operand x.live y.live) m) (suc o) xs ys

abbrev pub merge_if : Setting → ℕ → Entry → ℕ → Walk → Written
merge_if g zero e n w =
    let cells = merge_slots g w.path e.path 1 e.slots w.slots in
    let flags = merge_flags w.path e.path e.slots w.slots in
    record {
      walk = record w { path = Temp (past (past n cells) flags); slots = merged_slots g w.path e.path n (past n cells) 1 e.slots w.slots };
      steps = cells ++ (flags ++ Either w.path e.path ∷ []);
    }
merge_if g (suc d) e n w = record { walk = w; steps = [] }

-- the entries of this label, in the order of their arrival
abbrev pub merge_all : Setting → List Entry → ℕ → Walk → Written
merge_all g [] n w = record { walk = w; steps = [] }
merge_all g (e ∷ es) n w =
    let m = merge_if g e.depth e n w in
    let r = merge_all g es (past n m.steps) m.walk in
    record { walk = r.walk; steps = m.steps ++ r.steps }

abbrev pub outer_if : ℕ → Entry → List Entry → List Entry
outer_if zero e es = es
outer_if (suc n) e es = record e { depth = n } ∷ es

-- the other entries are one block nearer to theirs
abbrev pub outer : List Entry → List Entry
outer [] = []
outer (e ∷ es) = outer_if e.depth e (outer es)

abbrev pub at_label : Setting → (ℕ → Operand) → ℕ → Out → Out
at_label g temps n o =
    let m = merge_all g o.entries (past n o.steps) o.after in
    record o { after = record m.walk { temps = temps }; steps = o.steps ++ m.steps; entries = outer o.entries }

-- ---- heads of loops

-- b says whether the loop starts back, p is the path at its head
abbrev pub scatter_one : Setting → Operand → Operand → ℕ → ℕ → CellType → ℕ → Walk → Out
scatter_one g p b o f (Integer ty) n w =
    record (stepped (Take p ty ∷ Merge p b (Integer ty) (Temp n) (cell_at w.slots o f) ∷ []) (with_cell w o f (Temp (suc n)))) { given = taken p n ty }
scatter_one g p b o f Pointer n w =
    record (stepped
    (Half p ∷ Half p ∷ Point p (Temp n) (Temp (suc n)) ∷ Merge p b Pointer (Temp (suc (suc n))) (cell_at w.slots o f)
    ∷ Among p (Temp n) (Temp (suc n)) (g.family.object o) ∷ But b (Temp (suc (suc (suc (suc n))))) ∷ But w.path (Temp (suc (suc (suc (suc (suc n)))))) ∷ [])
    (with_path (with_cell w o f (Temp (suc (suc (suc n))))) (Temp (suc (suc (suc (suc (suc (suc n))))))))) { given = halves p n }

abbrev pub scatter_cells : Setting → Operand → Operand → ℕ → ℕ → List CellType → ℕ → Walk → Out
scatter_cells g p b o f [] n w = goes_on w
scatter_cells g p b o f (t ∷ ts) n w =
    let x = scatter_one g p b o f t n w in
    let y = scatter_cells g p b o (suc f) ts (past n x.steps) x.after in
    joined (pair x.given (pair nothing y.given)) x y

abbrev pub scatter : Setting → Operand → Operand → List ℕ → ℕ → Walk → Out
scatter g p b [] n w = goes_on w
scatter g p b (o ∷ os) n w =
    let x = scatter_cells g p b o 0 (g.types.objects o) n w in
    let y = scatter g p b os (past n x.steps) x.after in
    joined (pair x.given y.given) x y

-- the values of a loop's variables
abbrev pub vars_now : List Slot → List ℕ → List Operand
vars_now slots [] = []
vars_now slots (o ∷ os) = cell_at slots o 0 ∷ vars_now slots os

-- where the loop starts back and a row fails, the path ends: so many rows from this number on
abbrev pub head_rows : Setting → Operand → Operand → ℕ → ℕ → ℕ → ℕ → Walk → Written
head_rows g p b l i zero n w = record { walk = w; steps = [] }
head_rows g p b l i (suc more) n w =
    let r = head_rows g p b l (suc i) more (suc (suc (suc n))) (with_path w (Temp (suc (suc n)))) in
    record { walk = r.walk; steps = Row p l i (vars_now w.slots (g.vars l)) ∷ But b (Temp n) ∷ But w.path (Temp (suc n)) ∷ r.steps }

-- ---- ends of turns

abbrev pub event : Goal → Operand → List Event
event goal a = record { goal = goal; literal = a } ∷ []

-- p is the path at the end of the turn
abbrev pub end_rows : Setting → Operand → Operand → ℕ → ℕ → ℕ → ℕ → Walk → Out
end_rows g p c l i zero n w = goes_on w
end_rows g p c l i (suc more) n w =
    let o = record (stepped (Both w.path c ∷ Row p l i (vars_now w.slots (g.vars l)) ∷ But (Temp n) (Temp (suc n)) ∷ Both w.path (Temp (suc n)) ∷ []) (with_path w (Temp (suc (suc (suc n)))))) { events = event (RowGoal l i) (Temp (suc (suc n))) } in
    joined nothing o (end_rows g p c l (suc i) more (suc (suc (suc (suc n)))) (with_path w (Temp (suc (suc (suc n))))))

abbrev pub end_rank : Setting → Bool → Operand → Operand → ℕ → List Slot → ℕ → Walk → Out
end_rank g false p c l old n w = goes_on w
end_rank g true p c l old n w =
    record (stepped (Both w.path c ∷ Lower p l (vars_now old (g.vars l)) (vars_now w.slots (g.vars l)) ∷ But (Temp n) (Temp (suc n)) ∷ []) w) { events = event (RankGoal l) (Temp (suc (suc n))) }

-- old is what the objects held at this copy's head
abbrev pub end_turn : Setting → Kind → Operand → ℕ → List Slot → ℕ → Walk → Out
end_turn g Bottom c l old n w = record (stepped (Both w.path c ∷ []) (with_path w F)) { events = event (RowGoal l 0) (Temp n) }
end_turn g Plain c l old n w = goes_on w
end_turn g (Rows rows) c l old n w =
    let o = end_rows g w.path c l 1 rows n w in
    joined nothing o (end_rank g g.ranks w.path c l old (past n o.steps) o.after)

-- ---- loops

abbrev pub is_last : ℕ → Bool
is_last zero = true
is_last (suc n) = false

abbrev pub copy_frame : Bool → Operand → Frame
copy_frame true b = Last
copy_frame false b = Early b

-- the last copy counts where the loop does, an earlier one where it didn't start back besides
abbrev pub count_steps : Bool → Operand → Operand → Operand → List Step
count_steps true p b c = []
count_steps false p b c = Apart p c b ∷ []

abbrev pub count_name : Bool → Operand → ℕ → Operand
count_name true c n = c
count_name false c n = Temp n

abbrev pub behind : List Operand → List Step → Out → Out
behind heads xs o = record o { steps = xs ++ o.steps; heads = heads ++ o.heads }

-- the copies that are left; body walks a turn
abbrev pub walk_copies : Setting → (Frame → Operand → ℕ → Walk → Out) → ℕ → Kind → Operand → Operand → (ℕ → Operand) → ℕ → ℕ → Walk → Out
walk_copies g body l kind b c temps zero n w = goes_on (with_path w F)
walk_copies g body l kind b c temps (suc k) n w =
    let x = count_steps (is_last k) w.path b c in
    let d = count_name (is_last k) c n in
    let o = body (copy_frame (is_last k) b) d (past n x) (record w { temps = temps }) in
    let n1 = past (past n x) o.steps in
    let p = end_turn g kind d l w.slots n1 o.after in
    let q = walk_copies g body l kind b c temps k (past n1 p.steps) p.after in
    behind (w.path ∷ []) x (joined (pair o.given q.given) o (joined nothing p q))

-- a loop that is entered
abbrev pub entered : Out → Out
entered o = record o { given = pair entering (pair nothing o.given) }

-- a loop without back starts, or one whose name n says whether it starts back
abbrev pub walk_loop : Setting → Kind → (Frame → Operand → ℕ → Walk → Out) → ℕ → Operand → ℕ → Walk → Out
walk_loop g Bottom body l c n w = entered (walk_copies g body l Bottom F c w.temps g.copies n w)
walk_loop g Plain body l c n w = entered (walk_copies g body l Plain F c w.temps g.copies n w)
walk_loop g (Rows rows) body l c n w =
    let s = scatter g w.path (Temp n) (g.mods l) (suc n) w in
    let n1 = past (suc n) s.steps in
    let h = head_rows g w.path (Temp n) l 1 rows n1 s.after in
    let o = walk_copies g body l (Rows rows) (Temp n) c w.temps g.copies (past n1 h.steps) h.walk in
    record o { steps = Choose w.path ∷ (s.steps ++ (h.steps ++ o.steps)); given = pair (chosen w.path n) (pair (pair s.given nothing) o.given) }

-- ---- code

-- from name n on, where checks count as c says
abbrev mutual
  pub walk_node : Setting → code.Node → List Frame → Operand → ℕ → Walk → Out
  walk_node g (code.Do a) fs c n w = walk_action g fs c n w a
  walk_node g (code.Block all) fs c n w = at_label g w.temps n (walk g all (Block ∷ fs) c n w)
  walk_node g (code.Loop l all) fs c n w = walk_loop g (g.kind l) (λ f d m v. walk g all (f ∷ fs) d m v) l c n w

  pub walk : Setting → code.Nodes → List Frame → Operand → ℕ → Walk → Out
  walk g code.none fs c n w = goes_on w
  walk g (code.more x rest) fs c n w =
      let o = walk_node g x fs c n w in
      let p = walk g rest fs c (past n o.steps) o.after in
      joined (pair o.given p.given) o p
