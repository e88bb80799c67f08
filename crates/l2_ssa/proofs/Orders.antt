-- Each step of a walk reads names before its own.
use Rattle.std.proofs.Common.{arith, ◌≡◌, ℕ, zero, suc, ◌<◌, ◌≤◌, Bool, true, false, refl, sym, ◌∙◌, subst, List, [], ◌∷◌, ◌++◌, cond}
use Rattle.std.specs.Prelude.{slice_get, slice_set, slice_index_or, ◌==◌}
use Rattle.l2_bits.specs.Types.{bool_type}
use Rattle.l2_runs.specs.declared.cells.CellType.{CellType}
use Rattle.l2_runs.specs.declared.cells.CellType.TheVariants.{Integer, Pointer}
use Rattle.l2_runs.specs.declared.cells.CellValue.TheVariants.{Number, Null, Invalid, At}
use Rattle.l2_runs.specs.declared.member.Member.{Member}
use Rattle.l2_runs.specs.declared.member.Member.TheVariants as member
use Rattle.l2_runs.specs.Numbers.{set_number}
use Rattle.l2_code.specs.declared.action.Operand.{Operand}
use Rattle.l2_code.specs.declared.action.Operand.TheVariants.{Constant, Temp}
use Rattle.l2_code.specs.declared.action.Test.{Test}
use Rattle.l2_code.specs.declared.action.Test.TheVariants as test
use Rattle.l2_code.specs.declared.action.Computation.{Computation}
use Rattle.l2_code.specs.declared.action.Computation.TheVariants.{Numbers, Convert, Move, Pointers, Passes}
use Rattle.l2_code.specs.declared.action.Action.{Action}
use Rattle.l2_code.specs.declared.action.Action.TheVariants as action
use Rattle.l2_code.specs.Sets.{may_be}
use Rattle.l2_ssa.specs.Steps.{Step, IsBefore, AreBefore, FlagsBefore, operands_of, Reads, InOrder}
use Rattle.l2_code.specs.Trees as code
use Rattle.l2_code.specs.declared.code.CodeObject.{CodeObject}
use Rattle.l2_runs.specs.declared.cells.CellValue.{CellValue}
use Rattle.l2_ssa.specs.Law as law
use Rattle.l2_ssa.specs.Steps as steps
use Rattle.l2_ssa.specs.Walks as walks
use Rattle.l2_ssa.specs.Walks.{Setting, Slot, Walk, Place, Frame, Block, Last, Early, Entry, Event, past, F, slot_at, or_no_slot, now, test_now, computation_now, compute_step, flags_of, read_steps, write_steps, read_at, write_at, zero_of, candidates, leave_steps, leave_path, with_cell, with_live}

pub before_up : (n k : ℕ) (a : Operand) → n ≤ k → IsBefore n a → IsBefore k a
before_up n k (Constant v) h b = tt
before_up n k (Temp i) h b = omega arith

are_up : (n k : ℕ) (xs : List Operand) → n ≤ k → AreBefore n xs → AreBefore k xs
are_up n k [] h b = tt
are_up n k (x ∷ xs) h b = (before_up n k x h b.0, are_up n k xs h b.1)

pub past_le : (n : ℕ) (xs : List Step) → n ≤ past n xs
past_le n [] = omega arith
past_le n (x ∷ xs) = let h = past_le (suc n) xs in omega arith

pub past_app : (n : ℕ) (xs ys : List Step) → past n (xs ++ ys) ≡ past (past n xs) ys
past_app n [] ys = refl
past_app n (x ∷ xs) ys = past_app (suc n) xs ys

pub order_app : (n : ℕ) (xs ys : List Step) → InOrder n xs → InOrder (past n xs) ys → InOrder n (xs ++ ys)
order_app n [] ys h k = k
order_app n (x ∷ xs) ys h k = (h.0, order_app (suc n) xs ys h.1 k)

-- ---- what a walk holds

pub record SlotBefore (n : ℕ) (x : Slot) : Type 0 where
  pub cells : AreBefore n x.cells
  pub live : IsBefore n x.live

abbrev pub SlotsBefore : ℕ → List Slot → Type 0
SlotsBefore n [] = Unit {0}
SlotsBefore n (x ∷ xs) = SlotBefore n x × SlotsBefore n xs

pub record WalkBefore (n : ℕ) (w : Walk) : Type 0 where
  pub path : IsBefore n w.path
  pub temps : (i : ℕ) → IsBefore n (w.temps i)
  pub slots : SlotsBefore n w.slots

abbrev pub FramesBefore : ℕ → List Frame → Type 0
FramesBefore n [] = Unit {0}
FramesBefore n (Block ∷ fs) = FramesBefore n fs
FramesBefore n (Last ∷ fs) = FramesBefore n fs
FramesBefore n (Early b ∷ fs) = IsBefore n b × FramesBefore n fs

abbrev pub EntriesBefore : ℕ → List Entry → Type 0
EntriesBefore n [] = Unit {0}
EntriesBefore n (e ∷ es) = (IsBefore n e.path × SlotsBefore n e.slots) × EntriesBefore n es

abbrev pub EventsBefore : ℕ → List Event → Type 0
EventsBefore n [] = Unit {0}
EventsBefore n (e ∷ es) = IsBefore n e.literal × EventsBefore n es

-- a walk from name n on
pub record Orders (n : ℕ) (o : walks.Out) : Type 0 where
  pub order : InOrder n o.steps
  pub after : WalkBefore (past n o.steps) o.after
  pub entries : EntriesBefore (past n o.steps) o.entries
  pub events : EventsBefore (past n o.steps) o.events

slots_up : (n k : ℕ) (xs : List Slot) → n ≤ k → SlotsBefore n xs → SlotsBefore k xs
slots_up n k [] h b = tt
slots_up n k (x ∷ xs) h b = (record { cells = are_up n k x.cells h b.0.cells; live = before_up n k x.live h b.0.live }, slots_up n k xs h b.1)

pub walk_up : (n k : ℕ) (w : Walk) → n ≤ k → WalkBefore n w → WalkBefore k w
walk_up n k w h b = record { path = before_up n k w.path h b.path; temps = λ i. before_up n k (w.temps i) h (b.temps i); slots = slots_up n k w.slots h b.slots }

frames_up : (n k : ℕ) (fs : List Frame) → n ≤ k → FramesBefore n fs → FramesBefore k fs
frames_up n k [] h b = tt
frames_up n k (Block ∷ fs) h b = frames_up n k fs h b
frames_up n k (Last ∷ fs) h b = frames_up n k fs h b
frames_up n k (Early x ∷ fs) h b = (before_up n k x h b.0, frames_up n k fs h b.1)

entries_up : (n k : ℕ) (es : List Entry) → n ≤ k → EntriesBefore n es → EntriesBefore k es
entries_up n k [] h b = tt
entries_up n k (e ∷ es) h b = ((before_up n k e.path h b.0.0, slots_up n k e.slots h b.0.1), entries_up n k es h b.1)

events_up : (n k : ℕ) (es : List Event) → n ≤ k → EventsBefore n es → EventsBefore k es
events_up n k [] h b = tt
events_up n k (e ∷ es) h b = (before_up n k e.literal h b.0, events_up n k es h b.1)

entries_app : (n : ℕ) (es fs : List Entry) → EntriesBefore n es → EntriesBefore n fs → EntriesBefore n (es ++ fs)
entries_app n [] fs h k = k
entries_app n (e ∷ es) fs h k = (h.0, entries_app n es fs h.1 k)

events_app : (n : ℕ) (es fs : List Event) → EventsBefore n es → EventsBefore n fs → EventsBefore n (es ++ fs)
events_app n [] fs h k = k
events_app n (e ∷ es) fs h k = (h.0, events_app n es fs h.1 k)

-- one walk, and then another
pub joined_orders : (given : walks.Given) (n : ℕ) (o p : walks.Out) → Orders n o → Orders (past n o.steps) p → Orders n (walks.joined given o p)
joined_orders given n o p h k =
    let e = sym (past_app n o.steps p.steps) in
    let le = past_le (past n o.steps) p.steps in
    record {
      order = order_app n o.steps p.steps h.order k.order;
      after = subst (λ i. WalkBefore i p.after) e k.after;
      entries = subst (λ i. EntriesBefore i (o.entries ++ p.entries)) e (entries_app (past (past n o.steps) p.steps) o.entries p.entries (entries_up (past n o.steps) (past (past n o.steps) p.steps) o.entries le h.entries) k.entries);
      events = subst (λ i. EventsBefore i (o.events ++ p.events)) e (events_app (past (past n o.steps) p.steps) o.events p.events (events_up (past n o.steps) (past (past n o.steps) p.steps) o.events le h.events) k.events);
    }

-- ---- cells

are_set : (n : ℕ) (xs : List Operand) (i : ℕ) (a : Operand) → AreBefore n xs → IsBefore n a → AreBefore n (slice_set xs i a)
are_set n [] i a h k = tt
are_set n (x ∷ xs) zero a h k = (k, h.1)
are_set n (x ∷ xs) (suc i) a h k = (h.0, are_set n xs i a h.1 k)

are_get : (n : ℕ) (xs : List Operand) (i : ℕ) → AreBefore n xs → IsBefore n (slice_index_or xs i F)
are_get n [] i h = tt
are_get n (x ∷ xs) zero h = h.0
are_get n (x ∷ xs) (suc i) h = are_get n xs i h.1

slots_get : (n : ℕ) (xs : List Slot) (i : ℕ) → SlotsBefore n xs → SlotBefore n (or_no_slot (slice_get xs i))
slots_get n [] i h = record { cells = tt; live = tt }
slots_get n (x ∷ xs) zero h = h.0
slots_get n (x ∷ xs) (suc i) h = slots_get n xs i h.1

slot_before : (n : ℕ) (xs : List Slot) (o : ℕ) → SlotsBefore n xs → SlotBefore n (slot_at xs o)
slot_before n xs zero h = record { cells = tt; live = tt }
slot_before n xs (suc i) h = slots_get n xs i h

slots_set : (n : ℕ) (xs : List Slot) (i : ℕ) (x : Slot) → SlotsBefore n xs → SlotBefore n x → SlotsBefore n (slice_set xs i x)
slots_set n [] i x h k = tt
slots_set n (y ∷ xs) zero x h k = (k, h.1)
slots_set n (y ∷ xs) (suc i) x h k = (h.0, slots_set n xs i x h.1 k)

number_set : (n : ℕ) (xs : List Slot) (o : ℕ) (x : Slot) → SlotsBefore n xs → SlotBefore n x → SlotsBefore n (set_number xs o x)
number_set n xs zero x h k = h
number_set n xs (suc i) x h k = slots_set n xs i x h k

pub cell_before : (n : ℕ) (xs : List Slot) (o f : ℕ) → SlotsBefore n xs → IsBefore n (walks.cell_at xs o f)
cell_before n xs o f h = are_get n (slot_at xs o).cells f (slot_before n xs o h).cells

pub with_cell_before : (n : ℕ) (w : Walk) (o f : ℕ) (a : Operand) → WalkBefore n w → IsBefore n a → WalkBefore n (with_cell w o f a)
with_cell_before n w o f a h k = record {
  path = h.path;
  temps = h.temps;
  slots = number_set n w.slots o _ h.slots (record { cells = are_set n (slot_at w.slots o).cells f a (slot_before n w.slots o h.slots).cells k; live = (slot_before n w.slots o h.slots).live });
}

pub with_live_before : (n : ℕ) (w : Walk) (o : ℕ) (a : Operand) → WalkBefore n w → IsBefore n a → WalkBefore n (with_live w o a)
with_live_before n w o a h k = record { path = h.path; temps = h.temps; slots = number_set n w.slots o _ h.slots (record { cells = (slot_before n w.slots o h.slots).cells; live = k }) }

pub with_temp_before : (n : ℕ) (w : Walk) (t : ℕ) (a : Operand) → WalkBefore n w → IsBefore n a → WalkBefore n (walks.with_temp w t a)
with_temp_before n w t a h k = record { path = h.path; temps = λ i. go i (i == t); slots = h.slots }
  where
    go : (i : ℕ) (b : Bool) → IsBefore n (cond b a (w.temps i))
    go i true = k
    go i false = h.temps i

pub with_path_before : (n : ℕ) (w : Walk) (p : Operand) → WalkBefore n w → IsBefore n p → WalkBefore n (walks.with_path w p)
with_path_before n w p h k = record { path = k; temps = h.temps; slots = h.slots }

-- ---- instructions

now_before : (n : ℕ) (w : Walk) (a : Operand) → WalkBefore n w → IsBefore n (now w a)
now_before n w (Constant v) h = tt
now_before n w (Temp i) h = h.temps i

next_name : (n : ℕ) → n < suc n
next_name n = omega arith

le_next : (n : ℕ) → n ≤ suc n
le_next n = omega arith

test_before : (n : ℕ) (w : Walk) (t : Test) → WalkBefore n w → AreBefore n (operands_of (Passes (test_now w t)))
test_before n w (test.Division ty a b) h = (now_before n w a h, (now_before n w b h, tt))
test_before n w (test.Shift ty a) h = (now_before n w a h, tt)
test_before n w (test.Overflow op ty a b) h = (now_before n w a h, (now_before n w b h, tt))
test_before n w (test.Index l a) h = (now_before n w a h, tt)
test_before n w (test.IndexEnd l a) h = (now_before n w a h, tt)
test_before n w (test.Null a) h = (now_before n w a h, tt)
test_before n w (test.Invalid a) h = (now_before n w a h, tt)
test_before n w (test.Live a) h = (now_before n w a h, tt)
test_before n w (test.Cells x a) h = (now_before n w a h, tt)
test_before n w (test.Move by a b) h = (now_before n w a h, (now_before n w b h, tt))
test_before n w (test.Same a b) h = (now_before n w a h, (now_before n w b h, tt))

flag_first : (n o : ℕ) (b : Bool) (xs : List Slot) (rest : List steps.Flag) → SlotsBefore n xs → FlagsBefore n rest → FlagsBefore n ((cond b (record { object = o; live = (slot_at xs o).live } ∷ []) []) ++ rest)
flag_first n o true xs rest h k = ((slot_before n xs o h).live, k)
flag_first n o false xs rest h k = k

flags_before : (n : ℕ) (set : Member → Bool) (xs : List Slot) (o k : ℕ) → SlotsBefore n xs → FlagsBefore n (flags_of set xs o k)
flags_before n set xs o zero h = tt
flags_before n set xs o (suc k) h = flag_first n o (set (member.Object o)) xs (flags_of set xs (suc o) k) h (flags_before n set xs (suc o) k h)

test_reads : (n : ℕ) (g : Setting) (w : Walk) (t : Test) → WalkBefore n w → Reads n (compute_step g w (Passes t))
test_reads n g w (test.Division ty a b) h = (h.path, test_before n w (test.Division ty a b) h)
test_reads n g w (test.Shift ty a) h = (h.path, test_before n w (test.Shift ty a) h)
test_reads n g w (test.Overflow op ty a b) h = (h.path, test_before n w (test.Overflow op ty a b) h)
test_reads n g w (test.Index l a) h = (h.path, test_before n w (test.Index l a) h)
test_reads n g w (test.IndexEnd l a) h = (h.path, test_before n w (test.IndexEnd l a) h)
test_reads n g w (test.Null a) h = (h.path, test_before n w (test.Null a) h)
test_reads n g w (test.Invalid a) h = (h.path, test_before n w (test.Invalid a) h)
test_reads n g w (test.Live a) h = (h.path, now_before n w a h, flags_before n (may_be g.family a) w.slots 1 g.objects h.slots)
test_reads n g w (test.Cells x a) h = (h.path, test_before n w (test.Cells x a) h)
test_reads n g w (test.Move by a b) h = (h.path, test_before n w (test.Move by a b) h)
test_reads n g w (test.Same a b) h = (h.path, test_before n w (test.Same a b) h)

compute_reads : (n : ℕ) (g : Setting) (w : Walk) (c : Computation) → WalkBefore n w → Reads n (compute_step g w c)
compute_reads n g w (Numbers op ty a b) h = (h.path, (now_before n w a h, (now_before n w b h, tt)))
compute_reads n g w (Convert ty a) h = (h.path, (now_before n w a h, tt))
compute_reads n g w (Move by a b) h = (h.path, (now_before n w a h, (now_before n w b h, tt)))
compute_reads n g w (Pointers op a b) h = (h.path, (now_before n w a h, (now_before n w b h, tt)))
compute_reads n g w (Passes t) h = test_reads n g w t h

read_order : (w : Walk) (a : Operand) (ty : CellType) (ps : List Place) (v : Operand) (n : ℕ) → WalkBefore n w → IsBefore n a → IsBefore n v
    → InOrder n (read_steps w a ty ps v n).steps × IsBefore (past n (read_steps w a ty ps v n).steps) (read_steps w a ty ps v n).value
read_order w a ty [] v n h k b = (tt, b)
read_order w a ty (p ∷ ps) v n h k b =
    let r = read_order w a ty ps (Temp n) (suc n) (walk_up n (suc n) w (le_next n) h) (before_up n (suc n) a (le_next n) k) (next_name n) in
    (((h.path, k, cell_before n w.slots p.object p.offset h.slots, b), r.0), r.1)

read_at_order : (g : Setting) (w : Walk) (ty : CellType) (a : Operand) (n : ℕ) → WalkBefore n w → InOrder n (read_at g w ty a n).steps × IsBefore (past n (read_at g w ty a n).steps) (read_at g w ty a n).value
read_at_order g w ty (Constant (At o f)) n h = (tt, cell_before n w.slots o f h.slots)
read_at_order g w (Integer ty) (Constant (Number z)) n h = (tt, tt)
read_at_order g w (Integer ty) (Constant Null) n h = (tt, tt)
read_at_order g w (Integer ty) (Constant Invalid) n h = (tt, tt)
read_at_order g w Pointer (Constant (Number z)) n h = (tt, tt)
read_at_order g w Pointer (Constant Null) n h = (tt, tt)
read_at_order g w Pointer (Constant Invalid) n h = (tt, tt)
read_at_order g w (Integer ty) (Temp t) n h = read_order w (w.temps t) (Integer ty) (candidates g (g.family.temp t) (Integer ty) 1 g.objects) (zero_of (Integer ty)) n h (h.temps t) tt
read_at_order g w Pointer (Temp t) n h = read_order w (w.temps t) Pointer (candidates g (g.family.temp t) Pointer 1 g.objects) (zero_of Pointer) n h (h.temps t) tt

write_order : (a : Operand) (ty : CellType) (x : Operand) (ps : List Place) (n : ℕ) (w : Walk) → WalkBefore n w → IsBefore n a → IsBefore n x
    → InOrder n (write_steps a ty x ps n w).steps × WalkBefore (past n (write_steps a ty x ps n w).steps) (write_steps a ty x ps n w).walk
write_order a ty x [] n w h k b = (tt, h)
write_order a ty x (p ∷ ps) n w h k b =
    let r = write_order a ty x ps (suc n) (with_cell w p.object p.offset (Temp n)) (with_cell_before (suc n) w p.object p.offset (Temp n) (walk_up n (suc n) w (le_next n) h) (next_name n))
    (before_up n (suc n) a (le_next n) k) (before_up n (suc n) x (le_next n) b) in
    (((h.path, k, b, cell_before n w.slots p.object p.offset h.slots), r.0), r.1)

write_at_order : (g : Setting) (w : Walk) (ty : CellType) (a x : Operand) (n : ℕ) → WalkBefore n w → IsBefore n x → InOrder n (write_at g w ty a x n).steps × WalkBefore (past n (write_at g w ty a x n).steps) (write_at g w ty a x n).walk
write_at_order g w ty (Constant (At o f)) x n h b = (tt, with_cell_before n w o f x h b)
write_at_order g w ty (Constant (Number z)) x n h b = (tt, h)
write_at_order g w ty (Constant Null) x n h b = (tt, h)
write_at_order g w ty (Constant Invalid) x n h b = (tt, h)
write_at_order g w ty (Temp t) x n h b = write_order (w.temps t) ty x (candidates g (g.family.temp t) ty 1 g.objects) n w h (h.temps t) b

leave_order : (fs : List Frame) (d : ℕ) (p : Operand) (n : ℕ) → FramesBefore n fs → IsBefore n p → InOrder n (leave_steps fs d p n) × IsBefore (past n (leave_steps fs d p n)) (leave_path fs d p n)
leave_order [] d p n h k = (tt, k)
leave_order (Last ∷ fs) d p n h k = leave_order fs d p n h k
leave_order (Early b ∷ fs) d p n h k =
    let r = leave_order fs d (Temp n) (suc n) (frames_up n (suc n) fs (le_next n) h.1) (next_name n) in (((k, h.0), r.0), r.1)
leave_order (Block ∷ fs) zero p n h k = (tt, k)
leave_order (Block ∷ fs) (suc d) p n h k = leave_order fs d p n h k

check_order : (rk : Bool) (k : ℕ) (c a : Operand) (n : ℕ) (w : Walk) → IsBefore n c → IsBefore n a → WalkBefore n w → Orders n (walks.on_check rk k c a n w)
check_order true k c a n w hc ha h = record {
  order = ((h.path, ha), tt);
  after = with_path_before (suc n) w (Temp n) (walk_up n (suc n) w (le_next n) h) (next_name n);
  entries = tt;
  events = tt;
}
check_order false k c a n w hc ha h =
    let n1 = suc n in
    let n2 = suc (suc n) in
    let n3 = suc (suc (suc n)) in
    record {
      order = ((h.path, hc), ((next_name n, before_up n n1 a (le_next n) ha), ((before_up n n2 w.path (omega arith) h.path, before_up n n2 a (omega arith) ha), tt)));
      after = with_path_before n3 w (Temp n2) (walk_up n n3 w (omega arith) h) (next_name n2);
      entries = tt;
      events = (omega arith, tt);
    }

unless_order : (fs : List Frame) (d : ℕ) (a : Operand) (n : ℕ) (w : Walk) → FramesBefore n fs → IsBefore n a → WalkBefore n w → Orders n (walks.on_unless fs d a n w)
unless_order fs d a n w hf ha h =
    let r = leave_order fs d (Temp n) (suc n) (frames_up n (suc n) fs (le_next n) hf) (next_name n) in
    let xs = leave_steps fs d (Temp n) (suc n) in
    let k = past (suc n) xs in
    let le = past_le (suc n) xs in
    let e = sym (past_app (suc n) xs (steps.Both w.path a ∷ [])) in
    record {
      order = ((h.path, ha), order_app (suc n) xs (steps.Both w.path a ∷ []) r.0 ((before_up n k w.path (omega (arith, le)) h.path, before_up n k a (omega (arith, le)) ha), tt));
      after = subst (λ i. WalkBefore i (walks.with_path w (Temp k))) e (with_path_before (suc k) w (Temp k) (walk_up n (suc k) w (omega (arith, le)) h) (next_name k));
      entries = subst (λ i. EntriesBefore i (walks.on_unless fs d a n w).entries) e ((before_up k (suc k) (leave_path fs d (Temp n) (suc n)) (le_next k) r.1, slots_up n (suc k) w.slots (omega (arith, le)) h.slots), tt);
      events = tt;
    }

goto_order : (fs : List Frame) (d n : ℕ) (w : Walk) → FramesBefore n fs → WalkBefore n w → Orders n (walks.on_goto fs d n w)
goto_order fs d n w hf h =
    let r = leave_order fs d w.path n hf h.path in
    let le = past_le n (leave_steps fs d w.path n) in
    record {
      order = r.0;
      after = with_path_before (past n (leave_steps fs d w.path n)) w F (walk_up n (past n (leave_steps fs d w.path n)) w le h) tt;
      entries = ((r.1, slots_up n (past n (leave_steps fs d w.path n)) w.slots le h.slots), tt);
      events = tt;
    }

act_order : (g : Setting) (fs : List Frame) (c : Operand) (n : ℕ) (w : Walk) (a : Action) → FramesBefore n fs → IsBefore n c → WalkBefore n w → Orders n (walks.walk_action g fs c n w a)
act_order g fs c n w (action.Compute t x) hf hc h = record {
  order = (compute_reads n g w x h, tt);
  after = with_temp_before (suc n) w t (Temp n) (walk_up n (suc n) w (le_next n) h) (next_name n);
  entries = tt;
  events = tt;
}
act_order g fs c n w (action.Read t ty a) hf hc h =
    let r = read_at_order g w ty a n h in
    let k = past n (read_at g w ty a n).steps in
    record { order = r.0; after = with_temp_before k w t (read_at g w ty a n).value (walk_up n k w (past_le n (read_at g w ty a n).steps) h) r.1; entries = tt; events = tt }
act_order g fs c n w (action.Write ty a x) hf hc h =
    let r = write_at_order g w ty a (now w x) n h (now_before n w x h) in record { order = r.0; after = r.1; entries = tt; events = tt }
act_order g fs c n w (action.Choice t ty) hf hc h = record {
  order = (h.path, tt);
  after = with_temp_before (suc n) w t (Temp n) (walk_up n (suc n) w (le_next n) h) (next_name n);
  entries = tt;
  events = tt;
}
act_order g fs c n w (action.Assume a) hf hc h = record {
  order = ((h.path, now_before n w a h), tt);
  after = with_path_before (suc n) w (Temp n) (walk_up n (suc n) w (le_next n) h) (next_name n);
  entries = tt;
  events = tt;
}
act_order g fs c n w (action.Check k a) hf hc h = check_order g.ranks k c (now w a) n w hc (now_before n w a h) h
act_order g fs c n w (action.Unless a d) hf hc h = unless_order fs d (now w a) n w hf (now_before n w a h) h
act_order g fs c n w (action.Goto d) hf hc h = goto_order fs d n w hf h
act_order g fs c n w (action.Live o) hf hc h = record { order = tt; after = with_live_before n w o walks.T h tt; entries = tt; events = tt }
act_order g fs c n w (action.Dead o) hf hc h = record { order = tt; after = with_live_before n w o F h tt; entries = tt; events = tt }
act_order g fs c n w action.End hf hc h = record { order = tt; after = with_path_before n w F h tt; entries = tt; events = tt }

-- ---- labels

module _ (g : Setting) (p h : Operand) where
  cells_order : (ts : List CellType) (xs ys : List Operand) (n : ℕ) → IsBefore n p → IsBefore n h → AreBefore n xs → AreBefore n ys
      → InOrder n (walks.merge_cells p h ts xs ys) × AreBefore (past n (walks.merge_cells p h ts xs ys)) (walks.merged_cells n ts xs ys)
  cells_order [] xs ys n a b x y = (tt, tt)
  cells_order (t ∷ ts) [] ys n a b x y = (tt, tt)
  cells_order (t ∷ ts) (u ∷ xs) [] n a b x y = (tt, tt)
  cells_order (t ∷ ts) (u ∷ xs) (v ∷ ys) n a b x y = go (walks.same_operand u v) (λ i l. cells_order ts xs ys i (before_up n i p l a) (before_up n i h l b) (are_up n i xs l x.1) (are_up n i ys l y.1))
    where
      go : (e : Bool) → ((i : ℕ) → n ≤ i → InOrder i (walks.merge_cells p h ts xs ys) × AreBefore (past i (walks.merge_cells p h ts xs ys)) (walks.merged_cells i ts xs ys))
          → InOrder n (walks.merge_step e p h t u v ++ walks.merge_cells p h ts xs ys)
          × AreBefore (past n (walks.merge_step e p h t u v ++ walks.merge_cells p h ts xs ys)) (walks.merged e n u ∷ walks.merged_cells (walks.next_merge e n) ts xs ys)
      go true rest =
          let r = rest n (omega arith) in
          (r.0, (before_up n (past n (walks.merge_cells p h ts xs ys)) u (past_le n (walks.merge_cells p h ts xs ys)) x.0, r.1))
      go false rest =
          let r = rest (suc n) (le_next n) in
          let le = past_le (suc n) (walks.merge_cells p h ts xs ys) in
          (((a, b, x.0, y.0), r.0), (omega (arith, le), r.1))

  live_before : (e : Bool) (n i k : ℕ) (u v : Operand) (rest : List Step) → n ≤ k → IsBefore n u → past i (walks.merge_step e p h (Integer bool_type) u v ++ rest) ≤ k
      → IsBefore k (walks.merged e i u) × (past (walks.next_merge e i) rest ≤ k)
  live_before true n i k u v rest l b f = (before_up n k u l b, f)
  live_before false n i k u v rest l b f = let le = past_le (suc i) rest in (omega (arith, f, le), f)

  slots_order : (xs ys : List Slot) (o n i k : ℕ) → IsBefore n p → IsBefore n h → SlotsBefore n xs → SlotsBefore n ys → past n (walks.merge_slots g p h o xs ys) ≤ k → past i (walks.merge_flags p h xs ys) ≤ k
      → InOrder n (walks.merge_slots g p h o xs ys) × SlotsBefore k (walks.merged_slots g p h n i o xs ys)
  slots_order [] ys o n i k a b x y l f = (tt, tt)
  slots_order (u ∷ xs) [] o n i k a b x y l f = (tt, tt)
  slots_order (u ∷ xs) (v ∷ ys) o n i k a b x y l f =
      let cs = walks.merge_cells p h (g.types.objects o) u.cells v.cells in
      let n1 = past n cs in
      let le = past_le n cs in
      let e = past_app n cs (walks.merge_slots g p h (suc o) xs ys) in
      let c = cells_order (g.types.objects o) u.cells v.cells n a b x.0.cells y.0.cells in
      let ls = past_le n1 (walks.merge_slots g p h (suc o) xs ys) in
      let q = live_before (walks.same_operand u.live v.live) n i k u.live v.live (walks.merge_flags p h xs ys) (omega (arith, l, e, ls, le)) x.0.live f in
      let r = slots_order xs ys (suc o) n1 (walks.next_merge (walks.same_operand u.live v.live) i) k (before_up n n1 p le a) (before_up n n1 h le b) (slots_up n n1 xs le x.1) (slots_up n n1 ys le y.1) (omega (arith, l, e)) q.1 in
      (order_app n cs (walks.merge_slots g p h (suc o) xs ys) c.0 r.0, (record { cells = are_up n1 k (walks.merged_cells n (g.types.objects o) u.cells v.cells) (omega (arith, l, e, ls)) c.1; live = q.0 }, r.1))

  flags_order : (xs ys : List Slot) (n : ℕ) → IsBefore n p → IsBefore n h → SlotsBefore n xs → SlotsBefore n ys → InOrder n (walks.merge_flags p h xs ys)
  flags_order [] ys n a b x y = tt
  flags_order (u ∷ xs) [] n a b x y = tt
  flags_order (u ∷ xs) (v ∷ ys) n a b x y =
      go (walks.same_operand u.live v.live) (λ i l. flags_order xs ys i (before_up n i p l a) (before_up n i h l b) (slots_up n i xs l x.1) (slots_up n i ys l y.1))
    where
      go : (e : Bool) → ((i : ℕ) → n ≤ i → InOrder i (walks.merge_flags p h xs ys)) → InOrder n (walks.merge_step e p h (Integer bool_type) u.live v.live ++ walks.merge_flags p h xs ys)
      go true rest = rest n (omega arith)
      go false rest = ((a, b, x.0.live, y.0.live), rest (suc n) (le_next n))

module _ (g : Setting) where
  merge_order : (d : ℕ) (e : Entry) (n : ℕ) (w : Walk) → IsBefore n e.path → SlotsBefore n e.slots → WalkBefore n w
      → InOrder n (walks.merge_if g d e n w).steps × WalkBefore (past n (walks.merge_if g d e n w).steps) (walks.merge_if g d e n w).walk
  merge_order (suc d) e n w a x h = (tt, h)
  merge_order zero e n w a x h =
      let cs = walks.merge_slots g w.path e.path 1 e.slots w.slots in
      let fl = walks.merge_flags w.path e.path e.slots w.slots in
      let n1 = past n cs in
      let n2 = past n1 fl in
      let l1 = past_le n cs in
      let l2 = past_le n1 fl in
      let ei = steps.Either w.path e.path ∷ [] in
      let s = slots_order g w.path e.path e.slots w.slots 1 n n1 (suc n2) h.path a x h.slots (omega (arith, l1, l2)) (omega (arith, l1, l2)) in
      let ends : past n (cs ++ (fl ++ ei)) ≡ suc n2 = past_app n cs (fl ++ ei) ∙ past_app n1 fl ei in (
        order_app n cs (fl ++ ei) s.0
            (order_app n1 fl ei (flags_order g w.path e.path e.slots w.slots n1 (before_up n n1 w.path l1 h.path) (before_up n n1 e.path l1 a) (slots_up n n1 e.slots l1 x) (slots_up n n1 w.slots l1 h.slots))
            ((before_up n n2 w.path (omega (arith, l1, l2)) h.path, before_up n n2 e.path (omega (arith, l1, l2)) a), tt)),
        subst (λ i. WalkBefore i (walks.merge_if g zero e n w).walk) (sym ends)
            (record { path = next_name n2; temps = λ i. before_up n (suc n2) (w.temps i) (omega (arith, l1, l2)) (h.temps i); slots = s.1 }),
      )

  merges_order : (es : List Entry) (n : ℕ) (w : Walk) → EntriesBefore n es → WalkBefore n w → InOrder n (walks.merge_all g es n w).steps × WalkBefore (past n (walks.merge_all g es n w).steps) (walks.merge_all g es n w).walk
  merges_order [] n w x h = (tt, h)
  merges_order (e ∷ es) n w x h =
      let m = walks.merge_if g e.depth e n w in
      let k = past n m.steps in
      let r = merge_order e.depth e n w x.0.0 x.0.1 h in
      let q = merges_order es k m.walk (entries_up n k es (past_le n m.steps) x.1) r.1 in
      let rest = (walks.merge_all g es k m.walk).steps in
      (order_app n m.steps rest r.0 q.0, subst (λ i. WalkBefore i (walks.merge_all g es k m.walk).walk) (sym (past_app n m.steps rest)) q.1)

  outer_if_before : (n d : ℕ) (e : Entry) (es : List Entry) → IsBefore n e.path × SlotsBefore n e.slots → EntriesBefore n es → EntriesBefore n (walks.outer_if d e es)
  outer_if_before n zero e es h k = k
  outer_if_before n (suc d) e es h k = (h, k)

  outer_before : (n : ℕ) (es : List Entry) → EntriesBefore n es → EntriesBefore n (walks.outer es)
  outer_before n [] h = tt
  outer_before n (e ∷ es) h = outer_if_before n e.depth e (walks.outer es) h.0 (outer_before n es h.1)

  label_order : (temps : ℕ → Operand) (n : ℕ) (o : walks.Out) → ((i : ℕ) → IsBefore n (temps i)) → Orders n o → Orders n (walks.at_label g temps n o)
  label_order temps n o ht h =
      let k = past n o.steps in
      let m = walks.merge_all g o.entries k o.after in
      let r = merges_order o.entries k o.after h.entries h.after in
      let e = sym (past_app n o.steps m.steps) in
      let l1 = past_le n o.steps in
      let l2 = past_le k m.steps in
      record {
        order = order_app n o.steps m.steps h.order r.0;
        after = subst (λ i. WalkBefore i (record m.walk { temps = temps })) e (record { path = r.1.path; temps = λ i. before_up n (past k m.steps) (temps i) (omega (arith, l1, l2)) (ht i); slots = r.1.slots });
        entries = subst (λ i. EntriesBefore i (walks.outer o.entries)) e (entries_up k (past k m.steps) (walks.outer o.entries) l2 (outer_before k o.entries h.entries));
        events = subst (λ i. EventsBefore i o.events) e (events_up k (past k m.steps) o.events l2 h.events);
      }

  -- ---- heads of loops

  module _ (p b : Operand) where
    one_order : (o f : ℕ) (t : CellType) (n : ℕ) (w : Walk) → IsBefore n p → IsBefore n b → WalkBefore n w → Orders n (walks.scatter_one g p b o f t n w)
    one_order o f (Integer ty) n w hp hb h = record {
      order = (hp, ((before_up n (suc n) p (le_next n) hp, before_up n (suc n) b (le_next n) hb, next_name n, cell_before (suc n) w.slots o f (slots_up n (suc n) w.slots (le_next n) h.slots)), tt));
      after = with_cell_before (suc (suc n)) w o f (Temp (suc n)) (walk_up n (suc (suc n)) w (omega arith) h) (next_name (suc n));
      entries = tt;
      events = tt;
    }
    one_order o f Pointer n w hp hb h =
        let n1 = suc n in
        let n2 = suc n1 in
        let n3 = suc n2 in
        let n4 = suc n3 in
        let n5 = suc n4 in
        let n6 = suc n5 in
        let n7 = suc n6 in
        record {
          order = (
            hp,
            (
              before_up n n1 p (omega arith) hp,
              (
                (before_up n n2 p (omega arith) hp, omega arith, omega arith),
                (
                  (before_up n n3 p (omega arith) hp, before_up n n3 b (omega arith) hb, omega arith, cell_before n3 w.slots o f (slots_up n n3 w.slots (omega arith) h.slots)),
                  ((before_up n n4 p (omega arith) hp, omega arith, omega arith), ((before_up n n5 b (omega arith) hb, omega arith), ((before_up n n6 w.path (omega arith) h.path, omega arith), tt))),
                ),
              ),
            ),
          );
          after = with_path_before n7 (with_cell w o f (Temp n3)) (Temp n6) (with_cell_before n7 w o f (Temp n3) (walk_up n n7 w (omega arith) h) (omega arith)) (omega arith);
          entries = tt;
          events = tt;
        }

    cells_orders : (o f : ℕ) (ts : List CellType) (n : ℕ) (w : Walk) → IsBefore n p → IsBefore n b → WalkBefore n w → Orders n (walks.scatter_cells g p b o f ts n w)
    cells_orders o f [] n w hp hb h = record { order = tt; after = h; entries = tt; events = tt }
    cells_orders o f (t ∷ ts) n w hp hb h =
        let x = walks.scatter_one g p b o f t n w in
        let k = past n x.steps in
        let hx = one_order o f t n w hp hb h in
        joined_orders _ n x (walks.scatter_cells g p b o (suc f) ts k x.after) hx (cells_orders o (suc f) ts k x.after (before_up n k p (past_le n x.steps) hp) (before_up n k b (past_le n x.steps) hb) hx.after)

    scatter_orders : (os : List ℕ) (n : ℕ) (w : Walk) → IsBefore n p → IsBefore n b → WalkBefore n w → Orders n (walks.scatter g p b os n w)
    scatter_orders [] n w hp hb h = record { order = tt; after = h; entries = tt; events = tt }
    scatter_orders (o ∷ os) n w hp hb h =
        let x = walks.scatter_cells g p b o 0 (g.types.objects o) n w in
        let k = past n x.steps in
        let hx = cells_orders o 0 (g.types.objects o) n w hp hb h in
        joined_orders _ n x (walks.scatter g p b os k x.after) hx (scatter_orders os k x.after (before_up n k p (past_le n x.steps) hp) (before_up n k b (past_le n x.steps) hb) hx.after)

    vars_before : (n : ℕ) (xs : List Slot) (vs : List ℕ) → SlotsBefore n xs → AreBefore n (walks.vars_now xs vs)
    vars_before n xs [] h = tt
    vars_before n xs (v ∷ vs) h = (cell_before n xs v 0 h, vars_before n xs vs h)

    head_order : (l i more n : ℕ) (w : Walk) → IsBefore n p → IsBefore n b → WalkBefore n w
        → InOrder n (walks.head_rows g p b l i more n w).steps × WalkBefore (past n (walks.head_rows g p b l i more n w).steps) (walks.head_rows g p b l i more n w).walk
    head_order l i zero n w hp hb h = (tt, h)
    head_order l i (suc more) n w hp hb h =
        let n1 = suc n in
        let n2 = suc n1 in
        let n3 = suc n2 in
        let r = head_order l (suc i) more n3 (walks.with_path w (Temp n2)) (before_up n n3 p (omega arith) hp) (before_up n n3 b (omega arith) hb) (with_path_before n3 w (Temp n2) (walk_up n n3 w (omega arith) h) (next_name n2)) in
        (((hp, vars_before n w.slots (g.vars l) h.slots), ((before_up n n1 b (omega arith) hb, omega arith), ((before_up n n2 w.path (omega arith) h.path, omega arith), r.0))), r.1)

    end_order : (l i more n : ℕ) (w : Walk) → IsBefore n p → IsBefore n b → WalkBefore n w → Orders n (walks.end_rows g p b l i more n w)
    end_order l i zero n w hp hb h = record { order = tt; after = h; entries = tt; events = tt }
    end_order l i (suc more) n w hp hb h =
        let n1 = suc n in
        let n2 = suc n1 in
        let n3 = suc n2 in
        let n4 = suc n3 in
        let hw = with_path_before n4 w (Temp n3) (walk_up n n4 w (omega arith) h) (next_name n3) in
        let first : walks.Out = record (walks.stepped (steps.Both w.path b ∷ steps.Row p l i (walks.vars_now w.slots (g.vars l)) ∷ steps.But (Temp n) (Temp n1) ∷ steps.Both w.path (Temp n1) ∷ []) (walks.with_path w (Temp n3))) { events = walks.event (walks.RowGoal l i) (Temp n2) } in
        joined_orders walks.nothing n first (walks.end_rows g p b l (suc i) more n4 (walks.with_path w (Temp n3)))
        (record {
          order = ((h.path, hb), ((before_up n n1 p (omega arith) hp, vars_before n1 w.slots (g.vars l) (slots_up n n1 w.slots (omega arith) h.slots)), ((omega arith, omega arith), ((before_up n n3 w.path (omega arith) h.path, omega arith), tt))));
          after = hw;
          entries = tt;
          events = (omega arith, tt);
        })
        (end_order l (suc i) more n4 (walks.with_path w (Temp n3)) (before_up n n4 p (omega arith) hp) (before_up n n4 b (omega arith) hb) hw)

  -- ---- ends of turns and copies

  rank_order : (rk : Bool) (p c : Operand) (l : ℕ) (old : List Slot) (n : ℕ) (w : Walk) → IsBefore n p → IsBefore n c → SlotsBefore n old → WalkBefore n w → Orders n (walks.end_rank g rk p c l old n w)
  rank_order false p c l old n w hp hc ho h = record { order = tt; after = h; entries = tt; events = tt }
  rank_order true p c l old n w hp hc ho h =
      let n1 = suc n in
      let n2 = suc n1 in
      let n3 = suc n2 in
      record {
        order = ((h.path, hc), ((before_up n n1 p (omega arith) hp, are_up n n1 (walks.vars_now old (g.vars l)) (omega arith) (vars_before p c n old (g.vars l) ho), vars_before p c n1 w.slots (g.vars l) (slots_up n n1 w.slots (omega arith) h.slots)), ((omega arith, omega arith), tt)));
        after = walk_up n n3 w (omega arith) h;
        entries = tt;
        events = (omega arith, tt);
      }

  turn_order : (kind : walks.Kind) (c : Operand) (l : ℕ) (old : List Slot) (n : ℕ) (w : Walk) → IsBefore n c → SlotsBefore n old → WalkBefore n w → Orders n (walks.end_turn g kind c l old n w)
  turn_order walks.Bottom c l old n w hc ho h = record { order = ((h.path, hc), tt); after = with_path_before (suc n) w F (walk_up n (suc n) w (le_next n) h) tt; entries = tt; events = (next_name n, tt) }
  turn_order walks.Plain c l old n w hc ho h = record { order = tt; after = h; entries = tt; events = tt }
  turn_order (walks.Rows r) c l old n w hc ho h =
      let o = walks.end_rows g w.path c l 1 r n w in
      let k = past n o.steps in
      let le = past_le n o.steps in
      let ho' = end_order w.path c l 1 r n w h.path hc h in
      joined_orders walks.nothing n o (walks.end_rank g g.ranks w.path c l old k o.after) ho'
      (rank_order g.ranks w.path c l old k o.after (before_up n k w.path le h.path) (before_up n k c le hc) (slots_up n k old le ho) ho'.after)

  count_order : (last : Bool) (p b c : Operand) (n : ℕ) → IsBefore n p → IsBefore n b → IsBefore n c
      → InOrder n (walks.count_steps last p b c) × IsBefore (past n (walks.count_steps last p b c)) (walks.count_name last c n)
  count_order true p b c n hp hb hc = (tt, hc)
  count_order false p b c n hp hb hc = (((hp, hc, hb), tt), next_name n)

  frame_before : (last : Bool) (b : Operand) (n : ℕ) (fs : List Frame) → IsBefore n b → FramesBefore n fs → FramesBefore n (walks.copy_frame last b ∷ fs)
  frame_before true b n fs hb hf = hf
  frame_before false b n fs hb hf = (hb, hf)

  behind_order : (hs : List Operand) (xs : List Step) (n : ℕ) (o : walks.Out) → InOrder n xs → Orders (past n xs) o → Orders n (walks.behind hs xs o)
  behind_order hs xs n o h k =
      let e = sym (past_app n xs o.steps) in
      record {
        order = order_app n xs o.steps h k.order;
        after = subst (λ i. WalkBefore i o.after) e k.after;
        entries = subst (λ i. EntriesBefore i o.entries) e k.entries;
        events = subst (λ i. EventsBefore i o.events) e k.events;
      }

  module _ (body : Frame → Operand → ℕ → Walk → walks.Out) (fs : List Frame) (base : ℕ) (frames : FramesBefore base fs)
      (body_order : (f : Frame) (d : Operand) (n : ℕ) (w : Walk) → FramesBefore n (f ∷ fs) → IsBefore n d → WalkBefore n w → Orders n (body f d n w)) (l : ℕ) where
    copies_order : (kind : walks.Kind) (b c : Operand) (temps : ℕ → Operand) (k n : ℕ) (w : Walk) → base ≤ n → ((i : ℕ) → IsBefore base (temps i)) → IsBefore n b → IsBefore n c → WalkBefore n w → Orders n (walks.walk_copies g body l kind b c temps k n w)
    copies_order kind b c temps zero n w le ht hb hc h = record { order = tt; after = with_path_before n w F h tt; entries = tt; events = tt }
    copies_order kind b c temps (suc k) n w le ht hb hc h =
        let last = walks.is_last k in
        let x = walks.count_steps last w.path b c in
        let d = walks.count_name last c n in
        let n0 = past n x in
        let l0 = past_le n x in
        let o = body (walks.copy_frame last b) d n0 (record w { temps = temps }) in
        let n1 = past n0 o.steps in
        let l1 = past_le n0 o.steps in
        let et = walks.end_turn g kind d l w.slots n1 o.after in
        let n2 = past n1 et.steps in
        let l2 = past_le n1 et.steps in
        let rest = walks.walk_copies g body l kind b c temps k n2 et.after in
        let cn = count_order last w.path b c n h.path hb hc in
        let hw = walk_up n n0 w l0 h in
        let ho = body_order (walks.copy_frame last b) d n0 (record w { temps = temps }) (frame_before last b n0 fs (before_up n n0 b l0 hb) (frames_up base n0 fs (omega (arith, le, l0)) frames)) cn.1
        (record { path = hw.path; temps = λ i. before_up base n0 (temps i) (omega (arith, le, l0)) (ht i); slots = hw.slots }) in
        let he = turn_order kind d l w.slots n1 o.after (before_up n0 n1 d l1 cn.1) (slots_up n n1 w.slots (omega (arith, l0, l1)) h.slots) ho.after in
        behind_order (w.path ∷ []) x n (walks.joined (walks.pair o.given rest.given) o (walks.joined walks.nothing et rest)) cn.0
        (joined_orders (walks.pair o.given rest.given) n0 o (walks.joined walks.nothing et rest) ho
        (joined_orders walks.nothing n1 et rest he (copies_order kind b c temps k n2 et.after (omega (arith, le, l0, l1, l2)) ht (before_up n n2 b (omega (arith, l0, l1, l2)) hb) (before_up n n2 c (omega (arith, l0, l1, l2)) hc) he.after)))

    loop_order : (kind : walks.Kind) (c : Operand) (w : Walk) → IsBefore base c → WalkBefore base w → Orders base (walks.walk_loop g kind body l c base w)
    loop_order walks.Bottom c w hc h =
        let x = copies_order walks.Bottom F c w.temps g.copies base w (omega arith) h.temps tt hc h in
        record { order = x.order; after = x.after; entries = x.entries; events = x.events }
    loop_order walks.Plain c w hc h =
        let x = copies_order walks.Plain F c w.temps g.copies base w (omega arith) h.temps tt hc h in
        record { order = x.order; after = x.after; entries = x.entries; events = x.events }
    loop_order (walks.Rows r) c w hc h =
        let b = suc base in
        let s = walks.scatter g w.path (Temp base) (g.mods l) b w in
        let n1 = past b s.steps in
        let l1 = past_le b s.steps in
        let hd = walks.head_rows g w.path (Temp base) l 1 r n1 s.after in
        let n2 = past n1 hd.steps in
        let l2 = past_le n1 hd.steps in
        let cp = walks.walk_copies g body l (walks.Rows r) (Temp base) c w.temps g.copies n2 hd.walk in
        let hs = scatter_orders w.path (Temp base) (g.mods l) b w (before_up base b w.path (le_next base) h.path) (next_name base) (walk_up base b w (le_next base) h) in
        let hh = head_order w.path (Temp base) l 1 r n1 s.after (before_up base n1 w.path (omega (arith, l1)) h.path) (omega (arith, l1)) hs.after in
        let hc' = copies_order (walks.Rows r) (Temp base) c w.temps g.copies n2 hd.walk (omega (arith, l1, l2)) h.temps (omega (arith, l1, l2)) (before_up base n2 c (omega (arith, l1, l2)) hc) hh.1 in
        let x = behind_order [] s.steps b (walks.behind [] hd.steps cp) hs.order (behind_order [] hd.steps n1 cp hh.0 hc') in
        record { order = (h.path, x.order); after = x.after; entries = x.entries; events = x.events }

  -- ---- code

  mutual
    node_order : (x : code.Node) (fs : List Frame) (c : Operand) (n : ℕ) (w : Walk) → FramesBefore n fs → IsBefore n c → WalkBefore n w → Orders n (walks.walk_node g x fs c n w)
    node_order (code.Do a) fs c n w hf hc h = act_order g fs c n w a hf hc h
    node_order (code.Block all) fs c n w hf hc h =
        label_order w.temps n (walks.walk g all (Block ∷ fs) c n w) h.temps (nodes_order all (Block ∷ fs) c n w hf hc h)
    node_order (code.Loop l all) fs c n w hf hc h =
        loop_order (λ f d k v. walks.walk g all (f ∷ fs) d k v) fs n hf (λ f d k v hf hd hv. nodes_order all (f ∷ fs) d k v hf hd hv) l (g.kind l) c w hc h

    pub nodes_order : (xs : code.Nodes) (fs : List Frame) (c : Operand) (n : ℕ) (w : Walk) → FramesBefore n fs → IsBefore n c → WalkBefore n w → Orders n (walks.walk g xs fs c n w)
    nodes_order code.none fs c n w hf hc h = record { order = tt; after = h; entries = tt; events = tt }
    nodes_order (code.more x rest) fs c n w hf hc h =
        let o = walks.walk_node g x fs c n w in
        let k = past n o.steps in
        let le = past_le n o.steps in
        let ho = node_order x fs c n w hf hc h in
        joined_orders _ n o (walks.walk g rest fs c k o.after) ho (nodes_order rest fs c k o.after (frames_up n k fs le hf) (before_up n k c le hc) ho.after)

-- ---- the start

constants_before : (n : ℕ) (vs : List CellValue) → AreBefore n (law.constants vs)
constants_before n [] = tt
constants_before n (v ∷ vs) = (tt, constants_before n vs)

flag_before : (n : ℕ) (b : Bool) → IsBefore n (law.flag_of b)
flag_before n true = tt
flag_before n false = tt

first_before : (n : ℕ) (os : List CodeObject) → SlotsBefore n (law.first_slots os)
first_before n [] = tt
first_before n (o ∷ os) = (record { cells = constants_before n o.start; live = flag_before n _ }, first_before n os)

-- an event's name is one of the steps'
events_known : (n : ℕ) (es : List Event) → EventsBefore n es → law.EventsKnown n es
events_known n [] h = tt
events_known n (e ∷ es) h = (h.0, events_known n es h.1)

pub steps_in_order : law.StepsInOrder
steps_in_order c f k kind ranks =
    let x = nodes_order (law.setting_of c f k kind ranks) c.body [] walks.T 0 (law.first_walk c) tt tt (record { path = tt; temps = λ i. tt; slots = first_before 0 c.objects }) in
    (x.order, events_known _ _ x.events)
