-- Labels give typed steps.
use Rattle.std.proofs.Common.{ℕ, zero, suc, ◌≤◌, Bool, true, false, List, [], ◌∷◌, ◌++◌, length}
use Rattle.l2_bits.specs.Types.{bool_type}
use Rattle.l2_runs.specs.declared.cells.CellType.{CellType}
use Rattle.l2_runs.specs.declared.cells.CellType.TheVariants.{Integer}
use Rattle.l2_code.specs.declared.action.Operand.{Operand}
use Rattle.l2_code.specs.Trees.{CodeTree}
use Rattle.l2_code.specs.Sets.{Family, AreOver}
use Rattle.l2_code.specs.Modes.{types_of}
use Rattle.l2_code.specs.WellFormed.{Scope}
use Rattle.l2_ssa.specs.Steps.{Step}
use Rattle.l2_ssa.specs.Steps as steps
use Rattle.l2_ssa.specs.Walks as walks
use Rattle.l2_ssa.specs.Walks.{Setting, Walk, Entry, Slot, Kind, past, merge_step, merged, next_merge, merge_cells, merged_cells, merge_slots, merged_slots, merge_flags, merge_if, merge_all, outer, outer_if, same_operand}
use Rattle.l2_ssa.specs.Law.{setting_of}
use Rattle.l2_blast.specs.Sorts.{Sorts, IsTruth, IsOf}
use Rattle.l2_typed_steps.proofs.Operands.{AreKnown}
use Rattle.l2_typed_steps.proofs.Places.{CellsOk, SlotsOk}
use Rattle.l2_typed_steps.proofs.Steps.{Named, named_app, Typed, typed_app, truth_name, cell_name, WalkOk, EntriesOk, OutOk}

module _ (c : CodeTree) (f : Family) (over : AreOver c f) (small : (o : ℕ) → length ((types_of c).objects o) ≤ 65536) (sorts : Sorts) where
  abbrev cells : ℕ → List CellType
  cells = (types_of c).objects

  abbrev TypedHere : List Step → Type 0
  TypedHere xs = Typed c f over small sorts xs

  app : (xs ys : List Step) → TypedHere xs → TypedHere ys → TypedHere (xs ++ ys)
  app xs ys h k = typed_app c f over small sorts xs ys h k

  module _ (p h : Operand) (hp : IsTruth sorts p) (hh : IsTruth sorts h) where
    -- one cell
    step_ok : (e : Bool) (t : CellType) (x y : Operand) (n : ℕ) (rest : List Step) → IsOf cells sorts t x → IsOf cells sorts t y → Named sorts n (merge_step e p h t x y ++ rest)
        → TypedHere (merge_step e p h t x y) × IsOf cells sorts t (merged e n x) × Named sorts (next_merge e n) rest
    step_ok true t x y n rest a b named = (tt, a, named)
    step_ok false t x y n rest a b named = (((hp, hh, a, b), tt), cell_name c f over small sorts n t named.0, named.1)

    cells_ok : (ts : List CellType) (xs ys : List Operand) (n : ℕ) → CellsOk c sorts ts xs → CellsOk c sorts ts ys → Named sorts n (merge_cells p h ts xs ys)
        → TypedHere (merge_cells p h ts xs ys) × CellsOk c sorts ts (merged_cells n ts xs ys)
    cells_ok [] xs ys n a b named = (tt, tt)
    cells_ok (t ∷ ts) [] ys n a b named = absurd a
    cells_ok (t ∷ ts) (x ∷ xs) [] n a b named = absurd b
    cells_ok (t ∷ ts) (x ∷ xs) (y ∷ ys) n a b named =
        let e = same_operand x y in
        let s = step_ok e t x y n (merge_cells p h ts xs ys) a.0 b.0 named in
        let r = cells_ok ts xs ys (next_merge e n) a.1 b.1 s.2 in
        (app (merge_step e p h t x y) (merge_cells p h ts xs ys) s.0 r.0, (s.1, r.1))

    -- the cells of the objects from a number on; their flags have the names from m on
    slots_ok : (k : ℕ) (kind : ℕ → Kind) (ranks : Bool) (o : ℕ) (xs ys : List Slot) (n m : ℕ) → SlotsOk c sorts o xs → SlotsOk c sorts o ys
        → Named sorts n (merge_slots (setting_of c f k kind ranks) p h o xs ys) → Named sorts m (merge_flags p h xs ys)
        → TypedHere (merge_slots (setting_of c f k kind ranks) p h o xs ys) × TypedHere (merge_flags p h xs ys) × SlotsOk c sorts o (merged_slots (setting_of c f k kind ranks) p h n m o xs ys)
    slots_ok k kind ranks o [] ys n m a b named flags = (tt, tt, a)
    slots_ok k kind ranks o (x ∷ xs) [] n m a b named flags = (tt, tt, b)
    slots_ok k kind ranks o (x ∷ xs) (y ∷ ys) n m a b named flags =
        let g = setting_of c f k kind ranks in
        let cs = merge_cells p h (cells o) x.cells y.cells in
        let nm = named_app sorts n cs (merge_slots g p h (suc o) xs ys) named in
        let r = cells_ok (cells o) x.cells y.cells n a.0.cells_ok b.0.cells_ok nm.0 in
        let e = same_operand x.live y.live in
        let l = step_ok e (Integer bool_type) x.live y.live m (merge_flags p h xs ys) a.0.live b.0.live flags in
        let t = slots_ok k kind ranks (suc o) xs ys (past n cs) (next_merge e m) a.1 b.1 nm.1 l.2 in
        (app cs (merge_slots g p h (suc o) xs ys) r.0 t.0, app (merge_step e p h (Integer bool_type) x.live y.live) (merge_flags p h xs ys) l.0 t.1, (record { cells_ok = r.1; live = l.1 }, t.2))

  module _ (k : ℕ) (kind : ℕ → Kind) (ranks : Bool) (scope : Scope) where
    abbrev g : Setting
    g = setting_of c f k kind ranks

    abbrev Fine : Walk → Type 0
    Fine w = WalkOk c f over small sorts scope w

    -- the temporaries are set back at a label
    record Placed (w : Walk) : Type 0 where
      pub path : IsTruth sorts w.path
      pub slots : SlotsOk c sorts 1 w.slots

    merge_ok : (d : ℕ) (e : Entry) (n : ℕ) (w : Walk) → IsTruth sorts e.path → SlotsOk c sorts 1 e.slots → Placed w → Named sorts n (merge_if g d e n w).steps → TypedHere (merge_if g d e n w).steps × Placed (merge_if g d e n w).walk
    merge_ok (suc d) e n w hp hs h named = (tt, h)
    merge_ok zero e n w hp hs h named =
        let cs = merge_slots g w.path e.path 1 e.slots w.slots in
        let fs = merge_flags w.path e.path e.slots w.slots in
        let last = steps.Either w.path e.path ∷ [] in
        let nm = named_app sorts n cs (fs ++ last) named in
        let nf = named_app sorts (past n cs) fs last nm.1 in
        let r = slots_ok w.path e.path h.path hp k kind ranks 1 e.slots w.slots n (past n cs) hs h.slots nm.0 nf.0 in
        (app cs (fs ++ last) r.0 (app fs last r.1 ((h.path, hp), tt)), record { path = truth_name c f over small sorts (past (past n cs) fs) 1 nf.1.0; slots = r.2 })

    all_ok : (es : List Entry) (n : ℕ) (w : Walk) → EntriesOk c f over small sorts es → Placed w → Named sorts n (merge_all g es n w).steps → TypedHere (merge_all g es n w).steps × Placed (merge_all g es n w).walk
    all_ok [] n w h p named = (tt, p)
    all_ok (e ∷ es) n w h p named =
        let m = merge_if g e.depth e n w in
        let r = merge_all g es (past n m.steps) m.walk in
        let nm = named_app sorts n m.steps r.steps named in
        let a = merge_ok e.depth e n w h.0.0 h.0.1 p nm.0 in
        let b = all_ok es (past n m.steps) m.walk h.1 a.1 nm.1 in
        (app m.steps r.steps a.0 b.0, b.1)

    outer_ok : (es : List Entry) → EntriesOk c f over small sorts es → EntriesOk c f over small sorts (outer es)
    outer_ok [] h = tt
    outer_ok (e ∷ es) h = go e.depth (outer_ok es h.1)
      where
        go : (d : ℕ) → EntriesOk c f over small sorts (outer es) → EntriesOk c f over small sorts (outer_if d e (outer es))
        go zero r = r
        go (suc d) r = (h.0, r)

    pub label_ok : (temps : ℕ → Operand) (n : ℕ) (o : walks.Out) → AreKnown cells sorts scope temps → Named sorts n (walks.at_label g temps n o).steps → (Named sorts n o.steps → OutOk c f over small sorts scope o) → OutOk c f over small sorts scope (walks.at_label g temps n o)
    label_ok temps n o known named inner =
        let m = merge_all g o.entries (past n o.steps) o.after in
        let nm = named_app sorts n o.steps m.steps named in
        let h = inner nm.0 in
        let r = all_ok o.entries (past n o.steps) o.after h.entries (record { path = h.after.path; slots = h.after.slots }) nm.1 in
        record {
          steps = app o.steps m.steps h.steps r.0;
          after = record { path = r.1.path; temps = known; slots = r.1.slots };
          entries = outer_ok o.entries h.entries;
          events = h.events;
        }
