-- Loops give typed steps.
use Rattle.std.proofs.Common.{◌≡◌, ℕ, zero, suc, ◌≤◌, Bool, true, false, List, [], ◌∷◌, ◌++◌, length, Option, Some, None, refl, sym, ap, slice_get}
use Rattle.l2_runs.specs.declared.cells.CellType.{CellType}
use Rattle.l2_runs.specs.declared.cells.CellType.TheVariants.{Integer, Pointer}
use Rattle.l2_runs.specs.Numbers.{at_number}
use Rattle.l2_code.specs.declared.action.Operand.{Operand}
use Rattle.l2_code.specs.declared.action.Operand.TheVariants.{Temp}
use Rattle.l2_code.specs.declared.code.CodeLoop.{CodeLoop}
use Rattle.l2_code.specs.Trees.{CodeTree}
use Rattle.l2_code.specs.Sets.{Family, AreOver}
use Rattle.l2_code.specs.Modes.{types_of}
use Rattle.l2_code.specs.WellFormed as code
use Rattle.l2_code.specs.WellFormed.{Scope, IsVariable, IsLoop}
use Rattle.l2_ssa.specs.Steps.{Step}
use Rattle.l2_ssa.specs.Steps as steps
use Rattle.l2_ssa.specs.Walks as walks
use Rattle.l2_ssa.specs.Walks.{Setting, Walk, Slot, Frame, Block, Last, Early, Kind, past, F, cell_at, with_cell}
use Rattle.l2_ssa.specs.Law.{setting_of, loop_vars}
use Rattle.l2_blast.specs.Sorts.{Sorts, Truth, Part, Cell, IsTruth, IsOf, IsNumber, AreNumbers}
use Rattle.l2_typed_steps.proofs.Operands.{AreKnown, variable_number}
use Rattle.l2_typed_steps.proofs.Places.{SlotsOk, plus, plus_zero, cell_ok, with_cell_ok}
use Rattle.l2_typed_steps.proofs.Steps.{Named, named_app, Typed, typed_app, truth_name, cell_name, object_set, WalkOk, FramesOk, OutOk, joined_ok, with_path_ok}

module _ (c : CodeTree) (f : Family) (over : AreOver c f) (small : (o : ℕ) → length ((types_of c).objects o) ≤ 65536) (loops : (n : ℕ) (l : CodeLoop) → at_number c.loops n ≡ Some l → IsLoop (types_of c).objects l) (sorts : Sorts)
    (k : ℕ) (kind : ℕ → Kind) (ranks : Bool) (scope : Scope) where
  abbrev cells : ℕ → List CellType
  cells = (types_of c).objects

  abbrev g : Setting
  g = setting_of c f k kind ranks

  abbrev TypedHere : List Step → Type 0
  TypedHere xs = Typed c f over small sorts xs

  abbrev Fine : Walk → Type 0
  Fine w = WalkOk c f over small sorts scope w

  abbrev FineOut : walks.Out → Type 0
  FineOut o = OutOk c f over small sorts scope o

  app : (xs ys : List Step) → TypedHere xs → TypedHere ys → TypedHere (xs ++ ys)
  app xs ys h k = typed_app c f over small sorts xs ys h k

  join : (given : walks.Given) (o p : walks.Out) → FineOut o → FineOut p → FineOut (walks.joined given o p)
  join given o p h k = joined_ok c f over small sorts given scope scope o p h k

  named_truth : (n : ℕ) → sorts n ≡ Truth 1 → IsTruth sorts (Temp n)
  named_truth n e = truth_name c f over small sorts n 1 e

  named_cell : (n : ℕ) (ty : CellType) → sorts n ≡ Cell ty → IsOf cells sorts ty (Temp n)
  named_cell n ty e = cell_name c f over small sorts n ty e

  with_path : (w : Walk) (p : Operand) → Fine w → IsTruth sorts p → Fine (walks.with_path w p)
  with_path w p h t = with_path_ok c f over small sorts scope w p h t

  stays : (w : Walk) → Fine w → FineOut (walks.goes_on w)
  stays w h = record { steps = tt; after = h; entries = tt; events = tt }

  -- ---- back starts

  module _ (p b : Operand) (hp : IsTruth sorts p) (hb : IsTruth sorts b) where
    one_ok : (o i : ℕ) (t : CellType) (n : ℕ) (w : Walk) → slice_get (cells o) i ≡ Some t → Fine w → Named sorts n (walks.scatter_one g p b o i t n w).steps → FineOut (walks.scatter_one g p b o i t n w)
    one_ok o i (Integer ty) n w at h named =
        let first = named_cell n (Integer ty) named.0 in
        let second = named_cell (suc n) (Integer ty) named.1.0 in
        record {
          steps = (hp, ((hp, hb, first, cell_ok c sorts w.slots o i (Integer ty) h.slots at), tt));
          after = record { path = h.path; temps = h.temps; slots = with_cell_ok c sorts w o i (Integer ty) (Temp (suc n)) h.slots at second };
          entries = tt;
          events = tt;
        }
    one_ok o i Pointer n w at h named =
        let n1 = suc n in
        let n2 = suc n1 in
        let n3 = suc n2 in
        let n4 = suc n3 in
        let n5 = suc n4 in
        let n6 = suc n5 in
        let sel : sorts n ≡ Part = named.0 in
        let off : sorts n1 ≡ Part = named.1.0 in
        let point = named_cell n2 Pointer named.1.1.0 in
        let cell = named_cell n3 Pointer named.1.1.1.0 in
        let among = named_truth n4 named.1.1.1.1.0 in
        let out = named_truth n5 named.1.1.1.1.1.0 in
        let path = named_truth n6 named.1.1.1.1.1.1.0 in
        record {
          steps = (hp, (hp, ((hp, sel, off), ((hp, hb, point, cell_ok c sorts w.slots o i Pointer h.slots at), ((hp, sel, off, object_set c f over small sorts o), ((hb, among), ((h.path, out), tt)))))));
          after = record { path = path; temps = h.temps; slots = with_cell_ok c sorts w o i Pointer (Temp n3) h.slots at cell };
          entries = tt;
          events = tt;
        }

    cells_ok : (o i : ℕ) (ts : List CellType) (n : ℕ) (w : Walk) → ((j : ℕ) → slice_get ts j ≡ slice_get (cells o) (plus i j)) → Fine w → Named sorts n (walks.scatter_cells g p b o i ts n w).steps → FineOut (walks.scatter_cells g p b o i ts n w)
    cells_ok o i [] n w from h named = stays w h
    cells_ok o i (t ∷ ts) n w from h named =
        let x = walks.scatter_one g p b o i t n w in
        let y = walks.scatter_cells g p b o (suc i) ts (past n x.steps) x.after in
        let nm = named_app sorts n x.steps y.steps named in
        let hx = one_ok o i t n w (sym (from 0)) h nm.0 in
        join _ x y hx (cells_ok o (suc i) ts (past n x.steps) x.after (λ j. from (suc j)) hx.after nm.1)

    scatter_ok : (os : List ℕ) (n : ℕ) (w : Walk) → Fine w → Named sorts n (walks.scatter g p b os n w).steps → FineOut (walks.scatter g p b os n w)
    scatter_ok [] n w h named = stays w h
    scatter_ok (o ∷ os) n w h named =
        let x = walks.scatter_cells g p b o 0 (cells o) n w in
        let y = walks.scatter g p b os (past n x.steps) x.after in
        let nm = named_app sorts n x.steps y.steps named in
        let hx = cells_ok o 0 (cells o) n w (λ j. ap (slice_get (cells o)) (sym (plus_zero j))) h nm.0 in
        join _ x y hx (scatter_ok os (past n x.steps) x.after hx.after nm.1)

  -- ---- rows

  variable_ok : (ts : List CellType) (o : ℕ) (xs : List Slot) → cells o ≡ ts → IsVariable ts → SlotsOk c sorts 1 xs → IsNumber sorts 1 (cell_at xs o 0)
  variable_ok [] o xs e v h = absurd v
  variable_ok (Pointer ∷ ts) o xs e v h = absurd v
  variable_ok (Integer ty ∷ t ∷ ts) o xs e v h = absurd v
  variable_ok (Integer ty ∷ []) o xs e v h = variable_number cells sorts ty (cell_at xs o 0) (cell_ok c sorts xs o 0 (Integer ty) h (ap (λ us. slice_get us 0) e))

  vars_ok : (vs : List ℕ) (xs : List Slot) → code.All (λ n. IsVariable (cells n)) vs → SlotsOk c sorts 1 xs → AreNumbers sorts (walks.vars_now xs vs)
  vars_ok [] xs v h = tt
  vars_ok (o ∷ os) xs v h = (variable_ok (cells o) o xs refl v.0 h, vars_ok os xs v.1 h)

  loop_vars_ok : (l : ℕ) (xs : List Slot) → SlotsOk c sorts 1 xs → AreNumbers sorts (walks.vars_now xs (g.vars l))
  loop_vars_ok l xs h = go (at_number c.loops l) refl
    where
      go : (x : Option CodeLoop) → at_number c.loops l ≡ x → AreNumbers sorts (walks.vars_now xs (loop_vars x))
      go None e = tt
      go (Some y) e = vars_ok y.vars xs (loops l y e).variables h

  head_ok : (p b : Operand) (l i more n : ℕ) (w : Walk) → IsTruth sorts p → IsTruth sorts b → Fine w → Named sorts n (walks.head_rows g p b l i more n w).steps
      → TypedHere (walks.head_rows g p b l i more n w).steps × Fine (walks.head_rows g p b l i more n w).walk
  head_ok p b l i zero n w hp hb h named = (tt, h)
  head_ok p b l i (suc more) n w hp hb h named =
      let n1 = suc n in
      let n2 = suc n1 in
      let t0 = named_truth n named.0 in
      let t1 = named_truth n1 named.1.0 in
      let t2 = named_truth n2 named.1.1.0 in
      let r = head_ok p b l (suc i) more (suc n2) (walks.with_path w (Temp n2)) hp hb (with_path w (Temp n2) h t2) named.1.1.1 in
      (((hp, loop_vars_ok l w.slots h.slots), ((hb, t0), ((h.path, t1), r.0))), r.1)

  end_ok : (p d : Operand) (l i more n : ℕ) (w : Walk) → IsTruth sorts p → IsTruth sorts d → Fine w → Named sorts n (walks.end_rows g p d l i more n w).steps → FineOut (walks.end_rows g p d l i more n w)
  end_ok p d l i zero n w hp hd h named = stays w h
  end_ok p d l i (suc more) n w hp hd h named =
      let n1 = suc n in
      let n2 = suc n1 in
      let n3 = suc n2 in
      let t0 = named_truth n named.0 in
      let t1 = named_truth n1 named.1.0 in
      let t2 = named_truth n2 named.1.1.0 in
      let t3 = named_truth n3 named.1.1.1.0 in
      let first : walks.Out = record (walks.stepped (steps.Both w.path d ∷ steps.Row p l i (walks.vars_now w.slots (g.vars l)) ∷ steps.But (Temp n) (Temp n1) ∷ steps.Both w.path (Temp n1) ∷ []) (walks.with_path w (Temp n3))) { events = walks.event (walks.RowGoal l i) (Temp n2) } in
      let next = with_path w (Temp n3) h t3 in
      join walks.nothing first (walks.end_rows g p d l (suc i) more (suc n3) (walks.with_path w (Temp n3)))
      (record { steps = ((h.path, hd), ((hp, loop_vars_ok l w.slots h.slots), ((t0, t1), ((h.path, t1), tt)))); after = next; entries = tt; events = (t2, tt) })
      (end_ok p d l (suc i) more (suc n3) (walks.with_path w (Temp n3)) hp hd next named.1.1.1.1)

  rank_ok : (rk : Bool) (p d : Operand) (l : ℕ) (old : List Slot) (n : ℕ) (w : Walk) → IsTruth sorts p → IsTruth sorts d → SlotsOk c sorts 1 old → Fine w → Named sorts n (walks.end_rank g rk p d l old n w).steps → FineOut (walks.end_rank g rk p d l old n w)
  rank_ok false p d l old n w hp hd ho h named = stays w h
  rank_ok true p d l old n w hp hd ho h named =
      let t0 = named_truth n named.0 in
      let t1 = named_truth (suc n) named.1.0 in
      let t2 = named_truth (suc (suc n)) named.1.1.0 in
      record { steps = ((h.path, hd), ((hp, loop_vars_ok l old ho, loop_vars_ok l w.slots h.slots), ((t0, t1), tt))); after = h; entries = tt; events = (t2, tt) }

  turn_ok : (kd : Kind) (d : Operand) (l : ℕ) (old : List Slot) (n : ℕ) (w : Walk) → IsTruth sorts d → SlotsOk c sorts 1 old → Fine w → Named sorts n (walks.end_turn g kd d l old n w).steps → FineOut (walks.end_turn g kd d l old n w)
  turn_ok walks.Bottom d l old n w hd ho h named = record { steps = ((h.path, hd), tt); after = with_path w F h tt; entries = tt; events = (named_truth n named.0, tt) }
  turn_ok walks.Plain d l old n w hd ho h named = stays w h
  turn_ok (walks.Rows r) d l old n w hd ho h named =
      let o = walks.end_rows g w.path d l 1 r n w in
      let p = walks.end_rank g ranks w.path d l old (past n o.steps) o.after in
      let nm = named_app sorts n o.steps p.steps named in
      let ho' = end_ok w.path d l 1 r n w h.path hd h nm.0 in
      join walks.nothing o p ho' (rank_ok ranks w.path d l old (past n o.steps) o.after h.path hd ho ho'.after nm.1)

  -- ---- copies

  count_ok : (last : Bool) (p b d : Operand) (n : ℕ) → IsTruth sorts p → IsTruth sorts b → IsTruth sorts d → Named sorts n (walks.count_steps last p b d)
      → TypedHere (walks.count_steps last p b d) × IsTruth sorts (walks.count_name last d n)
  count_ok true p b d n hp hb hd named = (tt, hd)
  count_ok false p b d n hp hb hd named = (((hp, hd, hb), tt), named_truth n named.0)

  frame_ok : (last : Bool) (b : Operand) (fs : List Frame) → IsTruth sorts b → FramesOk c f over small sorts fs → FramesOk c f over small sorts (walks.copy_frame last b ∷ fs)
  frame_ok true b fs hb hf = hf
  frame_ok false b fs hb hf = (hb, hf)

  behind_ok : (hs : List Operand) (xs : List Step) (o : walks.Out) → TypedHere xs → FineOut o → FineOut (walks.behind hs xs o)
  behind_ok hs xs o h k = record { steps = app xs o.steps h k.steps; after = k.after; entries = k.entries; events = k.events }

  module _ (body : Frame → Operand → ℕ → Walk → walks.Out) (fs : List Frame) (frames : FramesOk c f over small sorts fs)
      (body_ok : (x : Frame) (d : Operand) (n : ℕ) (w : Walk) → FramesOk c f over small sorts (x ∷ fs) → IsTruth sorts d → Fine w → Named sorts n (body x d n w).steps → FineOut (body x d n w)) (l : ℕ) where
    copies_ok : (kd : Kind) (b d : Operand) (temps : ℕ → Operand) (i n : ℕ) (w : Walk) → AreKnown cells sorts scope temps → IsTruth sorts b → IsTruth sorts d → Fine w → Named sorts n (walks.walk_copies g body l kd b d temps i n w).steps → FineOut (walks.walk_copies g body l kd b d temps i n w)
    copies_ok kd b d temps zero n w ht hb hd h named = stays (walks.with_path w F) (with_path w F h tt)
    copies_ok kd b d temps (suc i) n w ht hb hd h named =
        let last = walks.is_last i in
        let x = walks.count_steps last w.path b d in
        let e = walks.count_name last d n in
        let n0 = past n x in
        let o = body (walks.copy_frame last b) e n0 (record w { temps = temps }) in
        let n1 = past n0 o.steps in
        let p = walks.end_turn g kd e l w.slots n1 o.after in
        let n2 = past n1 p.steps in
        let q = walks.walk_copies g body l kd b d temps i n2 p.after in
        let nm0 = named_app sorts n x (o.steps ++ (p.steps ++ q.steps)) named in
        let nm1 = named_app sorts n0 o.steps (p.steps ++ q.steps) nm0.1 in
        let nm2 = named_app sorts n1 p.steps q.steps nm1.1 in
        let cn = count_ok last w.path b d n h.path hb hd nm0.0 in
        let ho = body_ok (walks.copy_frame last b) e n0 (record w { temps = temps }) (frame_ok last b fs hb frames) cn.1 (record { path = h.path; temps = ht; slots = h.slots }) nm1.0 in
        let hp = turn_ok kd e l w.slots n1 o.after cn.1 h.slots ho.after nm2.0 in
        let hq = copies_ok kd b d temps i n2 p.after ht hb hd hp.after nm2.1 in
        behind_ok (w.path ∷ []) x (walks.joined (walks.pair o.given q.given) o (walks.joined walks.nothing p q)) cn.0 (join (walks.pair o.given q.given) o (walks.joined walks.nothing p q) ho (join walks.nothing p q hp hq))

    pub loop_ok : (kd : Kind) (d : Operand) (n : ℕ) (w : Walk) → IsTruth sorts d → Fine w → Named sorts n (walks.walk_loop g kd body l d n w).steps → FineOut (walks.walk_loop g kd body l d n w)
    loop_ok walks.Bottom d n w hd h named = let x = copies_ok walks.Bottom F d w.temps k n w h.temps tt hd h named in record { steps = x.steps; after = x.after; entries = x.entries; events = x.events }
    loop_ok walks.Plain d n w hd h named = let x = copies_ok walks.Plain F d w.temps k n w h.temps tt hd h named in record { steps = x.steps; after = x.after; entries = x.entries; events = x.events }
    loop_ok (walks.Rows r) d n w hd h named =
        let s = walks.scatter g w.path (Temp n) (g.mods l) (suc n) w in
        let n1 = past (suc n) s.steps in
        let hd' = walks.head_rows g w.path (Temp n) l 1 r n1 s.after in
        let n2 = past n1 hd'.steps in
        let cp = walks.walk_copies g body l (walks.Rows r) (Temp n) d w.temps k n2 hd'.walk in
        let hb = named_truth n named.0 in
        let nm1 = named_app sorts (suc n) s.steps (hd'.steps ++ cp.steps) named.1 in
        let nm2 = named_app sorts n1 hd'.steps cp.steps nm1.1 in
        let hs = scatter_ok w.path (Temp n) h.path hb (g.mods l) (suc n) w h nm1.0 in
        let hh = head_ok w.path (Temp n) l 1 r n1 s.after h.path hb hs.after nm2.0 in
        let hc = copies_ok (walks.Rows r) (Temp n) d w.temps k n2 hd'.walk h.temps hb hd hh.1 nm2.1 in
        record { steps = (h.path, app s.steps (hd'.steps ++ cp.steps) hs.steps (app hd'.steps cp.steps hh.0 hc.steps)); after = hc.after; entries = hc.entries; events = hc.events }
