-- The choices that a walk's steps take are those that it was given.
use Rattle.std.proofs.Common.{◌≡◌, ℕ, zero, suc, Bool, true, false, refl, sym, ap, ◌∙◌, subst, List, [], ◌∷◌, ◌++◌}
use Rattle.std.specs.Prelude.{if◌then◌else◌}
use Rattle.l2_bits.specs.Values.{IsValue}
use Rattle.l2_runs.specs.declared.cells.CellType.{CellType}
use Rattle.l2_runs.specs.declared.cells.CellType.TheVariants.{Integer}
use Rattle.l2_runs.specs.declared.cells.CellValue.TheVariants as value
use Rattle.l2_bits.specs.Types.{bool_type}
use Rattle.l2_code.specs.declared.action.Operand.{Operand}
use Rattle.l2_code.specs.declared.action.Operand.TheVariants.{Constant, Temp}
use Rattle.l2_code.specs.declared.action.Action.{Action}
use Rattle.l2_code.specs.declared.action.Action.TheVariants as action
use Rattle.l2_code.specs.declared.action.Test.TheVariants as test
use Rattle.l2_code.specs.declared.action.Computation.{Computation}
use Rattle.l2_code.specs.declared.action.Computation.TheVariants.{Numbers, Convert, Move, Pointers, Passes}
use Rattle.l2_code.specs.Trees.{Node, Do, Block, Loop, Nodes, none, more}
use Rattle.l2_ssa.specs.Steps as steps
use Rattle.l2_ssa.specs.Steps.{Step, Names, on, number_in, Meaning, Holds, Solves}
use Rattle.l2_ssa.specs.Walks as walks
use Rattle.l2_ssa.specs.Walks.{Setting, Slot, Walk, Frame, Entry, Plain, past, is_last, copy_frame, count_steps, count_name, walk_copies, walk_action, walk_node, walk}
use Rattle.l2_ssa_laws.proofs.Ends.{app_nil}
use Rattle.l2_short_laws.specs.Used.{used, AreValues}
use Rattle.l2_short_laws.proofs.Idle.{given_used}

-- ---- steps that take no choice

abbrev NoneTaken : List Step → Type 0
NoneTaken [] = Unit {0}
NoneTaken (steps.Take g ty ∷ xs) = ⊥
NoneTaken (x ∷ xs) = NoneTaken xs

module _ (s : Names) where
  used_both : (n : ℕ) (xs ys : List Step) → used s n (xs ++ ys) ≡ used s n xs ++ used s (past n xs) ys
  used_both n [] ys = refl
  used_both n (steps.Choose g ∷ xs) ys = used_both (suc n) xs ys
  used_both n (steps.Take g ty ∷ xs) ys = go (on s g) (used_both (suc n) xs ys)
    where
      go : (b : Bool) → used s (suc n) (xs ++ ys) ≡ used s (suc n) xs ++ used s (past (suc n) xs) ys
          → (if b then number_in (s n) ∷ used s (suc n) (xs ++ ys) else used s (suc n) (xs ++ ys)) ≡ (if b then number_in (s n) ∷ used s (suc n) xs else used s (suc n) xs) ++ used s (past (suc n) xs) ys
      go true e = ap (λ zs. number_in (s n) ∷ zs) e
      go false e = e
  used_both n (steps.Half g ∷ xs) ys = used_both (suc n) xs ys
  used_both n (steps.Point g a b ∷ xs) ys = used_both (suc n) xs ys
  used_both n (steps.Among g a b set ∷ xs) ys = used_both (suc n) xs ys
  used_both n (steps.Compute g c set ∷ xs) ys = used_both (suc n) xs ys
  used_both n (steps.Alive g a flags ∷ xs) ys = used_both (suc n) xs ys
  used_both n (steps.Pick g a o f ty x y ∷ xs) ys = used_both (suc n) xs ys
  used_both n (steps.Row g l i vars ∷ xs) ys = used_both (suc n) xs ys
  used_both n (steps.Lower g l a b ∷ xs) ys = used_both (suc n) xs ys
  used_both n (steps.Apart g a b ∷ xs) ys = used_both (suc n) xs ys
  used_both n (steps.Both a b ∷ xs) ys = used_both (suc n) xs ys
  used_both n (steps.But a b ∷ xs) ys = used_both (suc n) xs ys
  used_both n (steps.Either a b ∷ xs) ys = used_both (suc n) xs ys
  used_both n (steps.Merge g h ty x y ∷ xs) ys = used_both (suc n) xs ys

  none_used : (n : ℕ) (xs : List Step) → NoneTaken xs → used s n xs ≡ []
  none_used n [] h = refl
  none_used n (steps.Choose g ∷ xs) h = none_used (suc n) xs h
  none_used n (steps.Take g ty ∷ xs) h = absurd h
  none_used n (steps.Half g ∷ xs) h = none_used (suc n) xs h
  none_used n (steps.Point g a b ∷ xs) h = none_used (suc n) xs h
  none_used n (steps.Among g a b set ∷ xs) h = none_used (suc n) xs h
  none_used n (steps.Compute g c set ∷ xs) h = none_used (suc n) xs h
  none_used n (steps.Alive g a flags ∷ xs) h = none_used (suc n) xs h
  none_used n (steps.Pick g a o f ty x y ∷ xs) h = none_used (suc n) xs h
  none_used n (steps.Row g l i vars ∷ xs) h = none_used (suc n) xs h
  none_used n (steps.Lower g l a b ∷ xs) h = none_used (suc n) xs h
  none_used n (steps.Apart g a b ∷ xs) h = none_used (suc n) xs h
  none_used n (steps.Both a b ∷ xs) h = none_used (suc n) xs h
  none_used n (steps.But a b ∷ xs) h = none_used (suc n) xs h
  none_used n (steps.Either a b ∷ xs) h = none_used (suc n) xs h
  none_used n (steps.Merge g h' ty x y ∷ xs) h = none_used (suc n) xs h

none_both : (xs ys : List Step) → NoneTaken xs → NoneTaken ys → NoneTaken (xs ++ ys)
none_both [] ys h k = k
none_both (steps.Choose g ∷ xs) ys h k = none_both xs ys h k
none_both (steps.Take g ty ∷ xs) ys h k = absurd h
none_both (steps.Half g ∷ xs) ys h k = none_both xs ys h k
none_both (steps.Point g a b ∷ xs) ys h k = none_both xs ys h k
none_both (steps.Among g a b set ∷ xs) ys h k = none_both xs ys h k
none_both (steps.Compute g c set ∷ xs) ys h k = none_both xs ys h k
none_both (steps.Alive g a flags ∷ xs) ys h k = none_both xs ys h k
none_both (steps.Pick g a o f ty x y ∷ xs) ys h k = none_both xs ys h k
none_both (steps.Row g l i vars ∷ xs) ys h k = none_both xs ys h k
none_both (steps.Lower g l a b ∷ xs) ys h k = none_both xs ys h k
none_both (steps.Apart g a b ∷ xs) ys h k = none_both xs ys h k
none_both (steps.Both a b ∷ xs) ys h k = none_both xs ys h k
none_both (steps.But a b ∷ xs) ys h k = none_both xs ys h k
none_both (steps.Either a b ∷ xs) ys h k = none_both xs ys h k
none_both (steps.Merge g h' ty x y ∷ xs) ys h k = none_both xs ys h k

-- ---- what instructions and labels add

read_none : (w : Walk) (a : Operand) (ty : CellType) (ps : List walks.Place) (v : Operand) (n : ℕ) → NoneTaken (walks.read_steps w a ty ps v n).steps
read_none w a ty [] v n = tt
read_none w a ty (p ∷ ps) v n = read_none w a ty ps (Temp n) (suc n)

write_none : (a : Operand) (ty : CellType) (x : Operand) (ps : List walks.Place) (n : ℕ) (w : Walk) → NoneTaken (walks.write_steps a ty x ps n w).steps
write_none a ty x [] n w = tt
write_none a ty x (p ∷ ps) n w = write_none a ty x ps (suc n) (walks.with_cell w p.object p.offset (Temp n))

read_at_none : (g : Setting) (w : Walk) (ty : CellType) (a : Operand) (n : ℕ) → NoneTaken (walks.read_at g w ty a n).steps
read_at_none g w ty (Constant (value.Number z)) n = tt
read_at_none g w ty (Constant value.Null) n = tt
read_at_none g w ty (Constant value.Invalid) n = tt
read_at_none g w ty (Constant (value.At o f)) n = tt
read_at_none g w ty (Temp t) n = read_none w (w.temps t) ty (walks.candidates g (g.family.temp t) ty 1 g.objects) (walks.zero_of ty) n

write_at_none : (g : Setting) (w : Walk) (ty : CellType) (a x : Operand) (n : ℕ) → NoneTaken (walks.write_at g w ty a x n).steps
write_at_none g w ty (Constant (value.Number z)) x n = tt
write_at_none g w ty (Constant value.Null) x n = tt
write_at_none g w ty (Constant value.Invalid) x n = tt
write_at_none g w ty (Constant (value.At o f)) x n = tt
write_at_none g w ty (Temp t) x n = write_none (w.temps t) ty x (walks.candidates g (g.family.temp t) ty 1 g.objects) n w

compute_none : (g : Setting) (w : Walk) (x : Computation) → NoneTaken (walks.compute_step g w x ∷ [])
compute_none g w (Numbers op ty a b) = tt
compute_none g w (Convert ty a) = tt
compute_none g w (Move by a b) = tt
compute_none g w (Pointers op a b) = tt
compute_none g w (Passes (test.Division ty a b)) = tt
compute_none g w (Passes (test.Shift ty a)) = tt
compute_none g w (Passes (test.Overflow op ty a b)) = tt
compute_none g w (Passes (test.Index n a)) = tt
compute_none g w (Passes (test.IndexEnd n a)) = tt
compute_none g w (Passes (test.Null a)) = tt
compute_none g w (Passes (test.Invalid a)) = tt
compute_none g w (Passes (test.Live a)) = tt
compute_none g w (Passes (test.Cells x a)) = tt
compute_none g w (Passes (test.Move by a b)) = tt
compute_none g w (Passes (test.Same a b)) = tt

leave_none : (fs : List Frame) (d : ℕ) (p : Operand) (n : ℕ) → NoneTaken (walks.leave_steps fs d p n)
leave_none [] d p n = tt
leave_none (walks.Last ∷ fs) d p n = leave_none fs d p n
leave_none (walks.Early b ∷ fs) d p n = leave_none fs d (Temp n) (suc n)
leave_none (walks.Block ∷ fs) zero p n = tt
leave_none (walks.Block ∷ fs) (suc d) p n = leave_none fs d p n

merge_none : (b : Bool) (g h : Operand) (t : CellType) (x y : Operand) (rest : List Step) → NoneTaken rest → NoneTaken (walks.merge_step b g h t x y ++ rest)
merge_none true g h t x y rest k = k
merge_none false g h t x y rest k = k

cells_none : (g h : Operand) (ts : List CellType) (xs ys : List Operand) → NoneTaken (walks.merge_cells g h ts xs ys)
cells_none g h [] xs ys = tt
cells_none g h (t ∷ ts) [] ys = tt
cells_none g h (t ∷ ts) (x ∷ xs) [] = tt
cells_none g h (t ∷ ts) (x ∷ xs) (y ∷ ys) = merge_none (walks.same_operand x y) g h t x y (walks.merge_cells g h ts xs ys) (cells_none g h ts xs ys)

slots_none : (g : Setting) (p h : Operand) (o : ℕ) (xs ys : List Slot) → NoneTaken (walks.merge_slots g p h o xs ys)
slots_none g p h o [] ys = tt
slots_none g p h o (x ∷ xs) [] = tt
slots_none g p h o (x ∷ xs) (y ∷ ys) = none_both (walks.merge_cells p h (g.types.objects o) x.cells y.cells) (walks.merge_slots g p h (suc o) xs ys) (cells_none p h (g.types.objects o) x.cells y.cells) (slots_none g p h (suc o) xs ys)

flags_none : (p h : Operand) (xs ys : List Slot) → NoneTaken (walks.merge_flags p h xs ys)
flags_none p h [] ys = tt
flags_none p h (x ∷ xs) [] = tt
flags_none p h (x ∷ xs) (y ∷ ys) = merge_none (walks.same_operand x.live y.live) p h (Integer bool_type) x.live y.live (walks.merge_flags p h xs ys) (flags_none p h xs ys)

if_none : (g : Setting) (d : ℕ) (e : Entry) (n : ℕ) (w : Walk) → NoneTaken (walks.merge_if g d e n w).steps
if_none g zero e n w =
    none_both (walks.merge_slots g w.path e.path 1 e.slots w.slots) _ (slots_none g w.path e.path 1 e.slots w.slots)
    (none_both (walks.merge_flags w.path e.path e.slots w.slots) (steps.Either w.path e.path ∷ []) (flags_none w.path e.path e.slots w.slots) tt)
if_none g (suc d) e n w = tt

all_none : (g : Setting) (es : List Entry) (n : ℕ) (w : Walk) → NoneTaken (walks.merge_all g es n w).steps
all_none g [] n w = tt
all_none g (e ∷ es) n w =
    let x = walks.merge_if g e.depth e n w in
    none_both x.steps (walks.merge_all g es (past n x.steps) x.walk).steps (if_none g e.depth e n w) (all_none g es (past n x.steps) x.walk)

count_none : (last : Bool) (p b c : Operand) → NoneTaken (count_steps last p b c)
count_none true p b c = tt
count_none false p b c = tt

-- ---- code

module _ (s : Names) (g0 : Setting) (k0 : ℕ) where
  abbrev g : Setting
  g = record g0 { copies = suc k0; kind = λ l. Plain; ranks = false }

  abbrev Takes : ℕ → walks.Out → Type 0
  Takes n o = used s n o.steps ≡ given_used s o.given

  act_takes : (fs : List Frame) (c : Operand) (n : ℕ) (w : Walk) (a : Action) → Takes n (walk_action g fs c n w a)
  act_takes fs c n w (action.Compute i x) = none_used s n (walks.compute_step g w x ∷ []) (compute_none g w x)
  act_takes fs c n w (action.Read i ty a) = none_used s n (walks.read_at g w ty a n).steps (read_at_none g w ty a n)
  act_takes fs c n w (action.Write ty a x) = none_used s n (walks.write_at g w ty a (walks.now w x) n).steps (write_at_none g w ty a (walks.now w x) n)
  act_takes fs c n w (action.Choice i ty) = refl
  act_takes fs c n w (action.Assume a) = refl
  act_takes fs c n w (action.Check k a) = refl
  act_takes fs c n w (action.Unless a d) = none_used s (suc n) (walks.leave_steps fs d (Temp n) (suc n) ++ steps.Both w.path (walks.now w a) ∷ []) (none_both (walks.leave_steps fs d (Temp n) (suc n)) (steps.Both w.path (walks.now w a) ∷ []) (leave_none fs d (Temp n) (suc n)) tt)
  act_takes fs c n w (action.Goto d) = none_used s n (walks.leave_steps fs d w.path n) (leave_none fs d w.path n)
  act_takes fs c n w (action.Live o) = refl
  act_takes fs c n w (action.Dead o) = refl
  act_takes fs c n w action.End = refl

  both_take : (n : ℕ) (o p : walks.Out) → Takes n o → Takes (past n o.steps) p → used s n (o.steps ++ p.steps) ≡ given_used s o.given ++ given_used s p.given
  both_take n o p h k = used_both s n o.steps p.steps ∙ (λ i. h i ++ k i)

  copies_take : (l : ℕ) (body : Frame → Operand → ℕ → Walk → walks.Out) → ((f : Frame) (d : Operand) (n : ℕ) (w : Walk) → Takes n (body f d n w))
      → (c : Operand) (temps : ℕ → Operand) (k n : ℕ) (w : Walk) → Takes n (walk_copies g body l Plain walks.F c temps k n w)
  copies_take l body h c temps zero n w = refl
  copies_take l body h c temps (suc k) n w =
      let x = count_steps (is_last k) w.path walks.F c in
      let d = count_name (is_last k) c n in
      let o = body (copy_frame (is_last k) walks.F) d (past n x) (record w { temps = temps }) in
      let q = walk_copies g body l Plain walks.F c temps k (past (past n x) o.steps) o.after in
      used_both s n x (o.steps ++ q.steps)
      ∙ (λ i. none_used s n x (count_none (is_last k) w.path walks.F c) i
      ++ both_take (past n x) o q (h (copy_frame (is_last k) walks.F) d (past n x) (record w { temps = temps })) (copies_take l body h c temps k (past (past n x) o.steps) o.after) i)

  mutual
    node_takes : (x : Node) (fs : List Frame) (c : Operand) (n : ℕ) (w : Walk) → Takes n (walk_node g x fs c n w)
    node_takes (Do a) fs c n w = act_takes fs c n w a
    node_takes (Block all) fs c n w =
        let o = walk g all (walks.Block ∷ fs) c n w in
        used_both s n o.steps (walks.merge_all g o.entries (past n o.steps) o.after).steps
        ∙ (λ i. nodes_take all (walks.Block ∷ fs) c n w i ++ none_used s (past n o.steps) (walks.merge_all g o.entries (past n o.steps) o.after).steps (all_none g o.entries (past n o.steps) o.after) i) ∙ app_nil (given_used s o.given)
    node_takes (Loop l all) fs c n w = copies_take l (λ f d k v. walk g all (f ∷ fs) d k v) (λ f d k v. nodes_take all (f ∷ fs) d k v) c w.temps (suc k0) n w

    pub nodes_take : (xs : Nodes) (fs : List Frame) (c : Operand) (n : ℕ) (w : Walk) → Takes n (walk g xs fs c n w)
    nodes_take none fs c n w = refl
    nodes_take (more x rest) fs c n w =
        let o = walk_node g x fs c n w in
        both_take n o (walk g rest fs c (past n o.steps) o.after) (node_takes x fs c n w) (nodes_take rest fs c (past n o.steps) o.after)

-- ---- values

pub are_values : (m : Meaning) (s : Names) (n : ℕ) (xs : List Step) → Solves m s n xs → AreValues s n xs
are_values m s n [] h = tt
are_values m s n (steps.Choose g ∷ xs) h = are_values m s (suc n) xs h.1
are_values m s n (steps.Take g ty ∷ xs) h = (λ path. subst (IsValue ty) (sym (ap number_in h.0.1)) h.0.2, are_values m s (suc n) xs h.1)
are_values m s n (steps.Half g ∷ xs) h = are_values m s (suc n) xs h.1
are_values m s n (steps.Point g a b ∷ xs) h = are_values m s (suc n) xs h.1
are_values m s n (steps.Among g a b set ∷ xs) h = are_values m s (suc n) xs h.1
are_values m s n (steps.Compute g c set ∷ xs) h = are_values m s (suc n) xs h.1
are_values m s n (steps.Alive g a flags ∷ xs) h = are_values m s (suc n) xs h.1
are_values m s n (steps.Pick g a o f ty x y ∷ xs) h = are_values m s (suc n) xs h.1
are_values m s n (steps.Row g l i vars ∷ xs) h = are_values m s (suc n) xs h.1
are_values m s n (steps.Lower g l a b ∷ xs) h = are_values m s (suc n) xs h.1
are_values m s n (steps.Apart g a b ∷ xs) h = are_values m s (suc n) xs h.1
are_values m s n (steps.Both a b ∷ xs) h = are_values m s (suc n) xs h.1
are_values m s n (steps.But a b ∷ xs) h = are_values m s (suc n) xs h.1
are_values m s n (steps.Either a b ∷ xs) h = are_values m s (suc n) xs h.1
are_values m s n (steps.Merge g h' ty x y ∷ xs) h = are_values m s (suc n) xs h.1
