-- Walks over code look at the kinds of its own loops alone.
use Rattle.std.proofs.Common.{◌≡◌, refl, ap, ◌∙◌, ℕ, zero, suc, Bool, true, false, List, [], ◌∷◌, ◌++◌, if◌then◌else◌}
use Rattle.l2_runs.specs.declared.cells.CellType.{CellType}
use Rattle.l2_runs.specs.declared.cells.CellType.TheVariants.{Integer, Pointer}
use Rattle.l2_runs.specs.declared.cells.CellValue.TheVariants.{Number, Null, Invalid, At}
use Rattle.l2_runs.specs.declared.member.Member.{Member}
use Rattle.l2_runs.specs.declared.member.Member.TheVariants as member
use Rattle.l2_code.specs.declared.action.Operand.{Operand}
use Rattle.l2_code.specs.declared.action.Operand.TheVariants.{Constant, Temp}
use Rattle.l2_code.specs.declared.action.Test.TheVariants as test
use Rattle.l2_code.specs.declared.action.Computation.{Computation}
use Rattle.l2_code.specs.declared.action.Computation.TheVariants.{Numbers, Convert, Move, Pointers, Passes}
use Rattle.l2_code.specs.declared.action.Action.{Action}
use Rattle.l2_code.specs.declared.action.Action.TheVariants as action
use Rattle.l2_code.specs.Trees.{Node, Do, Block, Loop, Nodes, none, more}
use Rattle.l2_ssa.specs.Steps as steps
use Rattle.l2_ssa.specs.Walks as walks
use Rattle.l2_ssa.specs.Walks.{Setting, Kind, Bottom, Plain, Rows, Slot, Walk, Entry, Out, Frame, Place, Read, Written, past, joined, nothing, pair, stepped, candidates, places_in, compute_step, read_steps, read_at, write_steps, write_at, walk_action, merge_cells, merge_slots, merge_flags, merged_cells, merged_slots, next_merge, merge_if, merge_all, at_label, outer, scatter_one, scatter_cells, scatter, vars_now, head_rows, end_rows, end_rank, end_turn, is_last, copy_frame, count_steps, count_name, behind, walk_copies, entered, walk_loop, walk_node, walk}

-- two kinds of loops are alike on the loops of code
abbrev mutual
  pub AlikeNode : (ℕ → Kind) → (ℕ → Kind) → Node → Type 0
  AlikeNode kind kind' (Do a) = Unit {0}
  AlikeNode kind kind' (Block all) = Alike kind kind' all
  AlikeNode kind kind' (Loop l all) = (kind l ≡ kind' l) × Alike kind kind' all

  pub Alike : (ℕ → Kind) → (ℕ → Kind) → Nodes → Type 0
  Alike kind kind' none = Unit {0}
  Alike kind kind' (more x rest) = AlikeNode kind kind' x × Alike kind kind' rest

module _ (g : Setting) (kind : ℕ → Kind) where
  abbrev h : Setting
  h = record g { kind = kind }

  -- ---- single instructions

  candidates_same : (set : Member → Bool) (ty : CellType) (o n : ℕ) → candidates h set ty o n ≡ candidates g set ty o n
  candidates_same set ty o zero = refl
  candidates_same set ty o (suc n) = ap (λ ps. (if set (member.Object o) then places_in ty o 0 (g.types.objects o) else []) ++ ps) (candidates_same set ty (suc o) n)

  read_same : (w : Walk) (ty : CellType) (a : Operand) (n : ℕ) → read_at h w ty a n ≡ read_at g w ty a n
  read_same w ty (Constant (At o f)) n = refl
  read_same w ty (Constant (Number z)) n = refl
  read_same w ty (Constant Null) n = refl
  read_same w ty (Constant Invalid) n = refl
  read_same w ty (Temp t) n = ap (λ ps. read_steps w (w.temps t) ty ps (walks.zero_of ty) n) (candidates_same (g.family.temp t) ty 1 g.objects)

  write_same : (w : Walk) (ty : CellType) (a x : Operand) (n : ℕ) → write_at h w ty a x n ≡ write_at g w ty a x n
  write_same w ty (Constant (At o f)) x n = refl
  write_same w ty (Constant (Number z)) x n = refl
  write_same w ty (Constant Null) x n = refl
  write_same w ty (Constant Invalid) x n = refl
  write_same w ty (Temp t) x n = ap (λ ps. write_steps (w.temps t) ty x ps n w) (candidates_same (g.family.temp t) ty 1 g.objects)

  compute_same : (w : Walk) (c : Computation) → compute_step h w c ≡ compute_step g w c
  compute_same w (Passes (test.Live a)) = refl
  compute_same w (Passes (test.Division ty a b)) = refl
  compute_same w (Passes (test.Shift ty a)) = refl
  compute_same w (Passes (test.Overflow op ty a b)) = refl
  compute_same w (Passes (test.Index i a)) = refl
  compute_same w (Passes (test.IndexEnd i a)) = refl
  compute_same w (Passes (test.Null a)) = refl
  compute_same w (Passes (test.Invalid a)) = refl
  compute_same w (Passes (test.Cells i a)) = refl
  compute_same w (Passes (test.Move by a b)) = refl
  compute_same w (Passes (test.Same a b)) = refl
  compute_same w (Numbers op ty a b) = refl
  compute_same w (Convert ty a) = refl
  compute_same w (Move by a b) = refl
  compute_same w (Pointers op a b) = refl

  action_same : (fs : List Frame) (c : Operand) (n : ℕ) (w : Walk) (a : Action) → walk_action h fs c n w a ≡ walk_action g fs c n w a
  action_same fs c n w (action.Compute t x) = ap (λ s. stepped (s ∷ []) (walks.with_temp w t (Temp n))) (compute_same w x)
  action_same fs c n w (action.Read t ty a) = ap (λ (r : Read). stepped r.steps (walks.with_temp w t r.value)) (read_same w ty a n)
  action_same fs c n w (action.Write ty a x) = ap (λ (r : Written). stepped r.steps r.walk) (write_same w ty a (walks.now w x) n)
  action_same fs c n w (action.Choice t ty) = refl
  action_same fs c n w (action.Assume a) = refl
  action_same fs c n w (action.Check k a) = refl
  action_same fs c n w (action.Unless a d) = refl
  action_same fs c n w (action.Goto d) = refl
  action_same fs c n w (action.Live o) = refl
  action_same fs c n w (action.Dead o) = refl
  action_same fs c n w action.End = refl

  -- ---- labels

  slots_steps_same : (p e : Operand) (o : ℕ) (xs ys : List Slot) → merge_slots h p e o xs ys ≡ merge_slots g p e o xs ys
  slots_steps_same p e o [] ys = refl
  slots_steps_same p e o (x ∷ xs) [] = refl
  slots_steps_same p e o (x ∷ xs) (y ∷ ys) = ap (λ rest. merge_cells p e (g.types.objects o) x.cells y.cells ++ rest) (slots_steps_same p e (suc o) xs ys)

  slots_same : (p e : Operand) (n m o : ℕ) (xs ys : List Slot) → merged_slots h p e n m o xs ys ≡ merged_slots g p e n m o xs ys
  slots_same p e n m o [] ys = refl
  slots_same p e n m o (x ∷ xs) [] = refl
  slots_same p e n m o (x ∷ xs) (y ∷ ys) =
      ap (λ rest. record { cells = merged_cells n (g.types.objects o) x.cells y.cells; live = walks.merged (walks.same_operand x.live y.live) m x.live } ∷ rest)
      (slots_same p e (past n (merge_cells p e (g.types.objects o) x.cells y.cells)) (next_merge (walks.same_operand x.live y.live) m) (suc o) xs ys)

  merge_if_same : (d : ℕ) (e : Entry) (n : ℕ) (w : Walk) → merge_if h d e n w ≡ merge_if g d e n w
  merge_if_same (suc d) e n w = refl
  merge_if_same zero e n w = λ i.
      let cells = slots_steps_same w.path e.path 1 e.slots w.slots i in
      let flags = merge_flags w.path e.path e.slots w.slots in
      record {
        walk = record w { path = Temp (past (past n cells) flags); slots = slots_same w.path e.path n (past n cells) 1 e.slots w.slots i };
        steps = cells ++ (flags ++ steps.Either w.path e.path ∷ []);
      }

  merge_all_same : (es : List Entry) (n : ℕ) (w : Walk) → merge_all h es n w ≡ merge_all g es n w
  merge_all_same [] n w = refl
  merge_all_same (e ∷ es) n w = λ i.
      let m = merge_if_same e.depth e n w i in
      let r = merge_all_same es (past n m.steps) m.walk i in
      record { walk = r.walk; steps = m.steps ++ r.steps }

  label_same : (temps : ℕ → Operand) (n : ℕ) (o o' : Out) → o ≡ o' → at_label h temps n o ≡ at_label g temps n o'
  label_same temps n o o' same = λ i.
      let m = merge_all_same (same i).entries (past n (same i).steps) (same i).after i in
      record (same i) { after = record m.walk { temps = temps }; steps = (same i).steps ++ m.steps; entries = outer (same i).entries }

  -- ---- loops

  scatter_one_same : (p b : Operand) (o f : ℕ) (ty : CellType) (n : ℕ) (w : Walk) → scatter_one h p b o f ty n w ≡ scatter_one g p b o f ty n w
  scatter_one_same p b o f (Integer ty) n w = refl
  scatter_one_same p b o f Pointer n w = refl

  scatter_cells_same : (p b : Operand) (o f : ℕ) (ts : List CellType) (n : ℕ) (w : Walk) → scatter_cells h p b o f ts n w ≡ scatter_cells g p b o f ts n w
  scatter_cells_same p b o f [] n w = refl
  scatter_cells_same p b o f (t ∷ ts) n w = λ i.
      let x = scatter_one_same p b o f t n w i in
      let y = scatter_cells_same p b o (suc f) ts (past n x.steps) x.after i in
      joined (pair x.given (pair nothing y.given)) x y

  scatter_same : (p b : Operand) (os : List ℕ) (n : ℕ) (w : Walk) → scatter h p b os n w ≡ scatter g p b os n w
  scatter_same p b [] n w = refl
  scatter_same p b (o ∷ os) n w = λ i.
      let x = scatter_cells_same p b o 0 (g.types.objects o) n w i in
      let y = scatter_same p b os (past n x.steps) x.after i in
      joined (pair x.given y.given) x y

  head_rows_same : (p b : Operand) (l r left n : ℕ) (w : Walk) → head_rows h p b l r left n w ≡ head_rows g p b l r left n w
  head_rows_same p b l r zero n w = refl
  head_rows_same p b l r (suc left) n w = λ i.
      let o = head_rows_same p b l (suc r) left (suc (suc (suc n))) (walks.with_path w (Temp (suc (suc n)))) i in
      record { walk = o.walk; steps = steps.Row p l r (vars_now w.slots (g.vars l)) ∷ steps.But b (Temp n) ∷ steps.But w.path (Temp (suc n)) ∷ o.steps }

  end_rows_same : (p c : Operand) (l r left n : ℕ) (w : Walk) → end_rows h p c l r left n w ≡ end_rows g p c l r left n w
  end_rows_same p c l r zero n w = refl
  end_rows_same p c l r (suc left) n w = λ i.
      let o = record (stepped (steps.Both w.path c ∷ steps.Row p l r (vars_now w.slots (g.vars l)) ∷ steps.But (Temp n) (Temp (suc n)) ∷ steps.Both w.path (Temp (suc n)) ∷ []) (walks.with_path w (Temp (suc (suc (suc n)))))) { events = walks.event (walks.RowGoal l r) (Temp (suc (suc n))) } in
      joined nothing o (end_rows_same p c l (suc r) left (suc (suc (suc (suc n)))) (walks.with_path w (Temp (suc (suc (suc n))))) i)

  end_rank_same : (b : Bool) (p c : Operand) (l : ℕ) (old : List Slot) (n : ℕ) (w : Walk) → end_rank h b p c l old n w ≡ end_rank g b p c l old n w
  end_rank_same false p c l old n w = refl
  end_rank_same true p c l old n w = refl

  end_turn_same : (x : Kind) (c : Operand) (l : ℕ) (old : List Slot) (n : ℕ) (w : Walk) → end_turn h x c l old n w ≡ end_turn g x c l old n w
  end_turn_same Bottom c l old n w = refl
  end_turn_same Plain c l old n w = refl
  end_turn_same (Rows r) c l old n w = λ i.
      let o = end_rows_same w.path c l 1 r n w i in
      joined nothing o (end_rank_same g.ranks w.path c l old (past n o.steps) o.after i)

  module _ (l : ℕ) (body body' : Frame → Operand → ℕ → Walk → Out) (same : (f : Frame) (d : Operand) (n : ℕ) (w : Walk) → body f d n w ≡ body' f d n w) where
    copies_same : (x : Kind) (b c : Operand) (temps : ℕ → Operand) (k n : ℕ) (w : Walk) → walk_copies h body l x b c temps k n w ≡ walk_copies g body' l x b c temps k n w
    copies_same x b c temps zero n w = refl
    copies_same x b c temps (suc k) n w = λ i.
        let xs = count_steps (is_last k) w.path b c in
        let d = count_name (is_last k) c n in
        let o = same (copy_frame (is_last k) b) d (past n xs) (record w { temps = temps }) i in
        let n1 = past (past n xs) o.steps in
        let p = end_turn_same x d l w.slots n1 o.after i in
        let q = copies_same x b c temps k (past n1 p.steps) p.after i in
        behind (w.path ∷ []) xs (joined (pair o.given q.given) o (joined nothing p q))

    loop_same : (x : Kind) (c : Operand) (n : ℕ) (w : Walk) → walk_loop h x body l c n w ≡ walk_loop g x body' l c n w
    loop_same Bottom c n w = ap entered (copies_same Bottom walks.F c w.temps g.copies n w)
    loop_same Plain c n w = ap entered (copies_same Plain walks.F c w.temps g.copies n w)
    loop_same (Rows r) c n w = λ i.
        let s = scatter_same w.path (Temp n) (g.mods l) (suc n) w i in
        let n1 = past (suc n) s.steps in
        let hd = head_rows_same w.path (Temp n) l 1 r n1 s.after i in
        let o = copies_same (Rows r) (Temp n) c w.temps g.copies (past n1 hd.steps) hd.walk i in
        record o { steps = steps.Choose w.path ∷ (s.steps ++ (hd.steps ++ o.steps)); given = pair (walks.chosen w.path n) (pair (pair s.given nothing) o.given) }

  mutual
    node_same : (x : Node) → AlikeNode kind g.kind x → (fs : List Frame) (c : Operand) (n : ℕ) (w : Walk) → walk_node h x fs c n w ≡ walk_node g x fs c n w
    node_same (Do a) alike fs c n w = action_same fs c n w a
    node_same (Block all) alike fs c n w = label_same w.temps n (walk h all (walks.Block ∷ fs) c n w) (walk g all (walks.Block ∷ fs) c n w) (nodes_same all alike (walks.Block ∷ fs) c n w)
    node_same (Loop l all) alike fs c n w =
        loop_same l (λ f d m v. walk h all (f ∷ fs) d m v) (λ f d m v. walk g all (f ∷ fs) d m v) (λ f d m v. nodes_same all alike.1 (f ∷ fs) d m v) (kind l) c n w
        ∙ ap (λ x. walk_loop g x (λ f d m v. walk g all (f ∷ fs) d m v) l c n w) alike.0

    pub nodes_same : (xs : Nodes) → Alike kind g.kind xs → (fs : List Frame) (c : Operand) (n : ℕ) (w : Walk) → walk h xs fs c n w ≡ walk g xs fs c n w
    nodes_same none alike fs c n w = refl
    nodes_same (more x rest) alike fs c n w = λ i.
        let o = node_same x alike.0 fs c n w i in
        let p = nodes_same rest alike.1 fs c (past n o.steps) o.after i in
        joined (pair o.given p.given) o p
