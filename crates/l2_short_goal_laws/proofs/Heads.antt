-- The paths of arrivals at heads are truth values, where no loop has rows.
use Rattle.std.proofs.Common.{arith, ◌≡◌, refl, ap, sym, ◌∙◌, subst, ℕ, zero, suc, ◌+◌, ◌<◌, Bool, true, false, List, [], ◌∷◌, ◌++◌, length, map, slice_index_or}
use Rattle.l2_runs.specs.declared.cells.CellType.{CellType}
use Rattle.l2_runs.specs.declared.cells.CellValue.TheVariants.{Number, Null, Invalid, At}
use Rattle.l2_code.specs.declared.action.Operand.{Operand}
use Rattle.l2_code.specs.declared.action.Operand.TheVariants.{Constant, Temp}
use Rattle.l2_code.specs.declared.action.Action.{Action}
use Rattle.l2_code.specs.declared.action.Action.TheVariants as action
use Rattle.l2_code.specs.Trees.{Node, Do, Block, Loop, Nodes, none, more, CodeTree}
use Rattle.l2_code.specs.Sets.{Family}
use Rattle.l2_ssa.specs.Steps.{Step, IsBefore}
use Rattle.l2_ssa.specs.Steps as steps
use Rattle.l2_ssa.specs.Walks as walks
use Rattle.l2_ssa.specs.Walks.{Setting, Kind, Plain, Walk, Entry, Out, Frame, Place, past, is_last, copy_frame, count_steps, count_name, leave_steps, merge_slots, merge_flags, merge_if, merge_all, at_label, write_steps, write_at, walk_action, walk_copies, walk_loop, walk_node, walk}
use Rattle.l2_ssa.specs.Law.{setting_of, first_walk, ssa}
use Rattle.l2_blast.specs.Sorts.{Truth, Sorts, HasTruth, IsTruth, sort_of, sorts_of}

write_steps_path : (a : Operand) (ty : CellType) (x : Operand) (ps : List Place) (n : ℕ) (w : Walk) → (write_steps a ty x ps n w).walk.path ≡ w.path
write_steps_path a ty x [] n w = refl
write_steps_path a ty x (p ∷ ps) n w = write_steps_path a ty x ps (suc n) (walks.with_cell w p.object p.offset (Temp n))

module _ (g : Setting) (plain : (l : ℕ) → g.kind l ≡ Plain) (sorts : Sorts) (total : ℕ) where
  -- the names of steps have the steps' sorts, and are among so many
  abbrev pub Named : ℕ → List Step → Type 0
  Named n [] = Unit {0}
  Named n (x ∷ xs) = ((sorts n ≡ sort_of x) × (n < total)) × Named (suc n) xs

  named_app : (n : ℕ) (xs ys : List Step) → Named n (xs ++ ys) → Named n xs × Named (past n xs) ys
  named_app n [] ys h = (tt, h)
  named_app n (x ∷ xs) ys h = let r = named_app (suc n) xs ys h.1 in ((h.0, r.0), r.1)

  -- a truth value that is there
  abbrev pub Good : Operand → Type 0
  Good a = IsBefore total a × IsTruth sorts a

  abbrev pub AllGood : List Operand → Type 0
  AllGood [] = Unit {0}
  AllGood (a ∷ rest) = Good a × AllGood rest

  good_app : (xs ys : List Operand) → AllGood xs → AllGood ys → AllGood (xs ++ ys)
  good_app [] ys h k = k
  good_app (x ∷ xs) ys h k = (h.0, good_app xs ys h.1 k)

  good_name : (n k : ℕ) → (sorts n ≡ Truth k) × (n < total) → Good (Temp n)
  good_name n k h = (h.1, subst HasTruth (sym h.0) tt)

  pub record Fine (o : Out) : Type 0 where
    pub path : Good o.after.path
    pub heads : AllGood o.heads

  write_path : (w : Walk) (ty : CellType) (a x : Operand) (n : ℕ) → (write_at g w ty a x n).walk.path ≡ w.path
  write_path w ty (Constant (At o f)) x n = refl
  write_path w ty (Constant (Number z)) x n = refl
  write_path w ty (Constant Null) x n = refl
  write_path w ty (Constant Invalid) x n = refl
  write_path w ty (Temp t) x n = write_steps_path (w.temps t) ty x (walks.candidates g (g.family.temp t) ty 1 g.objects) n w

  check_fine : (rk : Bool) (k : ℕ) (c a : Operand) (n : ℕ) (w : Walk) → Good w.path → Named n (walks.on_check rk k c a n w).steps → Fine (walks.on_check rk k c a n w)
  check_fine true k c a n w h named = record { path = good_name n 1 named.0; heads = tt }
  check_fine false k c a n w h named = record { path = good_name (suc (suc n)) 1 named.1.1.0; heads = tt }

  act_fine : (fs : List Frame) (c : Operand) (n : ℕ) (w : Walk) (a : Action) → Good w.path → Named n (walk_action g fs c n w a).steps → Fine (walk_action g fs c n w a)
  act_fine fs c n w (action.Compute t x) h named = record { path = h; heads = tt }
  act_fine fs c n w (action.Read t ty a) h named = record { path = h; heads = tt }
  act_fine fs c n w (action.Write ty a x) h named = record { path = subst Good (sym (write_path w ty a (walks.now w x) n)) h; heads = tt }
  act_fine fs c n w (action.Choice t ty) h named = record { path = h; heads = tt }
  act_fine fs c n w (action.Assume a) h named = record { path = good_name n 1 named.0; heads = tt }
  act_fine fs c n w (action.Check k a) h named = check_fine g.ranks k c (walks.now w a) n w h named
  act_fine fs c n w (action.Unless a d) h named =
      let xs = leave_steps fs d (Temp n) (suc n) in
      let r = named_app (suc n) xs (steps.Both w.path (walks.now w a) ∷ []) named.1 in
      record { path = good_name (past (suc n) xs) 1 r.1.0; heads = tt }
  act_fine fs c n w (action.Goto d) h named = record { path = (tt, tt); heads = tt }
  act_fine fs c n w (action.Live o) h named = record { path = h; heads = tt }
  act_fine fs c n w (action.Dead o) h named = record { path = h; heads = tt }
  act_fine fs c n w action.End h named = record { path = (tt, tt); heads = tt }

  -- ---- labels

  merge_fine : (d : ℕ) (e : Entry) (n : ℕ) (w : Walk) → Good w.path → Named n (merge_if g d e n w).steps → Good (merge_if g d e n w).walk.path
  merge_fine (suc d) e n w h named = h
  merge_fine zero e n w h named =
      let cells = merge_slots g w.path e.path 1 e.slots w.slots in
      let flags = merge_flags w.path e.path e.slots w.slots in
      let r = named_app n cells (flags ++ steps.Either w.path e.path ∷ []) named in
      let q = named_app (past n cells) flags (steps.Either w.path e.path ∷ []) r.1 in
      good_name (past (past n cells) flags) 1 q.1.0

  merges_fine : (es : List Entry) (n : ℕ) (w : Walk) → Good w.path → Named n (merge_all g es n w).steps → Good (merge_all g es n w).walk.path
  merges_fine [] n w h named = h
  merges_fine (e ∷ es) n w h named =
      let m = merge_if g e.depth e n w in
      let r = merge_all g es (past n m.steps) m.walk in
      let nm = named_app n m.steps r.steps named in
      merges_fine es (past n m.steps) m.walk (merge_fine e.depth e n w h nm.0) nm.1

  label_fine : (temps : ℕ → Operand) (n : ℕ) (o : Out) → Named n (at_label g temps n o).steps → (Named n o.steps → Fine o) → Fine (at_label g temps n o)
  label_fine temps n o named inner =
      let m = merge_all g o.entries (past n o.steps) o.after in
      let nm = named_app n o.steps m.steps named in
      let k = inner nm.0 in
      record { path = merges_fine o.entries (past n o.steps) o.after k.path nm.1; heads = k.heads }

  -- ---- loops

  module _ (l : ℕ) (body : Frame → Operand → ℕ → Walk → Out) (inner : (f : Frame) (d : Operand) (n : ℕ) (w : Walk) → Good w.path → Named n (body f d n w).steps → Fine (body f d n w)) where
    copies_fine : (b c : Operand) (temps : ℕ → Operand) (k n : ℕ) (w : Walk) → Good w.path → Named n (walk_copies g body l Plain b c temps k n w).steps → Fine (walk_copies g body l Plain b c temps k n w)
    copies_fine b c temps zero n w h named = record { path = (tt, tt); heads = tt }
    copies_fine b c temps (suc k) n w h named =
        let xs = count_steps (is_last k) w.path b c in
        let d = count_name (is_last k) c n in
        let at = record w { temps = temps } in
        let o = body (copy_frame (is_last k) b) d (past n xs) at in
        let n1 = past (past n xs) o.steps in
        let q = walk_copies g body l Plain b c temps k n1 o.after in
        let first = named_app n xs (o.steps ++ q.steps) named in
        let second = named_app (past n xs) o.steps q.steps first.1 in
        let ho = inner (copy_frame (is_last k) b) d (past n xs) at h second.0 in
        let hq = copies_fine b c temps k n1 o.after ho.path second.1 in
        record { path = hq.path; heads = (h, good_app o.heads q.heads ho.heads hq.heads) }

    loop_fine : (kind : Kind) → kind ≡ Plain → (c : Operand) (n : ℕ) (w : Walk) → Good w.path → Named n (walk_loop g kind body l c n w).steps → Fine (walk_loop g kind body l c n w)
    loop_fine kind e c n w h named =
        subst (λ kd. Named n (walk_loop g kd body l c n w).steps → Fine (walk_loop g kd body l c n w)) (sym e)
        (λ nm. let r = copies_fine walks.F c w.temps g.copies n w h nm in record { path = r.path; heads = r.heads }) named

  mutual
    node_fine : (x : Node) (fs : List Frame) (c : Operand) (n : ℕ) (w : Walk) → Good w.path → Named n (walk_node g x fs c n w).steps → Fine (walk_node g x fs c n w)
    node_fine (Do a) fs c n w h named = act_fine fs c n w a h named
    node_fine (Block all) fs c n w h named = label_fine w.temps n (walk g all (walks.Block ∷ fs) c n w) named (λ nm. nodes_fine all (walks.Block ∷ fs) c n w h nm)
    node_fine (Loop l all) fs c n w h named =
        loop_fine l (λ f d m v. walk g all (f ∷ fs) d m v) (λ f d m v hv nm. nodes_fine all (f ∷ fs) d m v hv nm) (g.kind l) (plain l) c n w h named

    pub nodes_fine : (xs : Nodes) (fs : List Frame) (c : Operand) (n : ℕ) (w : Walk) → Good w.path → Named n (walk g xs fs c n w).steps → Fine (walk g xs fs c n w)
    nodes_fine none fs c n w h named = record { path = h; heads = tt }
    nodes_fine (more x rest) fs c n w h named =
        let o = walk_node g x fs c n w in
        let p = walk g rest fs c (past n o.steps) o.after in
        let nm = named_app n o.steps p.steps named in
        let ho = node_fine x fs c n w h nm.0 in
        let hp = nodes_fine rest fs c (past n o.steps) o.after ho.path nm.1 in
        record { path = hp.path; heads = good_app o.heads p.heads ho.heads hp.heads }

-- ---- all steps

abbrev pub AreTruths : ℕ → Sorts → List Operand → Type 0
AreTruths total sorts [] = Unit {0}
AreTruths total sorts (a ∷ rest) = (IsBefore total a × IsTruth sorts a) × AreTruths total sorts rest

module _ (c : CodeTree) (f : Family) (k : ℕ) where
  abbrev out : Out
  out = ssa c f k (λ l. Plain) false

  abbrev set : Setting
  set = setting_of c f k (λ l. Plain) false

  own_names : (xs : List Step) (n : ℕ) → ((i : ℕ) → sorts_of out.steps (n + i) ≡ slice_index_or (map sort_of xs) i (Truth 1)) → n + length xs ≡ length out.steps
      → Named set (λ l. refl) (sorts_of out.steps) (length out.steps) n xs
  own_names [] n h e = tt
  own_names (x ∷ xs) n h e =
      let here : n + 0 ≡ n = omega arith in (
        (ap (sorts_of out.steps) (sym here) ∙ h 0, omega (arith, e)),
        own_names xs (suc n) (λ i. let m : suc n + i ≡ n + suc i = omega arith in ap (sorts_of out.steps) m ∙ h (suc i)) (omega (arith, e)),
      )

  truths : (hs : List Operand) → AllGood set (λ l. refl) (sorts_of out.steps) (length out.steps) hs → AreTruths (length out.steps) (sorts_of out.steps) hs
  truths [] h = tt
  truths (a ∷ rest) h = (h.0, truths rest h.1)

  pub heads_are_truths : AreTruths (length out.steps) (sorts_of out.steps) out.heads
  heads_are_truths =
      truths out.heads (nodes_fine set (λ l. refl) (sorts_of out.steps) (length out.steps) c.body [] walks.T 0 (first_walk c) (tt, tt)
      (own_names out.steps 0 (λ i. let e : 0 + i ≡ i = omega arith in ap (sorts_of out.steps) e) (omega arith))).heads
