-- Objects of a walk and of a run, where cells are read and written.
use Rattle.std.proofs.Common.{◌≡◌, ℕ, zero, suc, Bool, refl, List, [], ◌∷◌, pos}
use Rattle.std.specs.Prelude.{slice_get, slice_set, slice_index_or}
use Rattle.l2_runs.specs.declared.cells.CellType.{CellType}
use Rattle.l2_runs.specs.declared.cells.CellValue.{CellValue}
use Rattle.l2_runs.specs.declared.cells.CellValue.TheVariants.{Number}
use Rattle.l2_runs.specs.Numbers.{set_number}
use Rattle.l2_runs.specs.Store as runs
use Rattle.l2_runs.specs.Store.{Store, Object, or_nothing, object_at}
use Rattle.l2_code.specs.declared.action.Operand.{Operand}
use Rattle.l2_code.specs.Values.{operand_value}
use Rattle.l2_ssa.specs.Steps.{Names, on, Meaning}
use Rattle.l2_ssa.specs.Walks as walks
use Rattle.l2_ssa.specs.Walks.{Setting, Slot, or_no_slot, slot_at, F}
use Rattle.l2_ssa.proofs.Shows.{SameLength, CellsRead, SlotsRead, Sized}

pub length_set : {X Y : Type 0} (ts : List X) (xs : List Y) (f : ℕ) (x : Y) → SameLength ts xs → SameLength ts (slice_set xs f x)
length_set [] [] f x h = tt
length_set [] (y ∷ ys) f x h = absurd h
length_set (t ∷ ts) [] f x h = absurd h
length_set (t ∷ ts) (y ∷ ys) zero x h = h
length_set (t ∷ ts) (y ∷ ys) (suc f) x h = length_set ts ys f x h

module _ (m : Meaning) (s : Names) (g : Setting) where
  -- one object
  abbrev pub SlotReads : Slot → Object → Type 0
  SlotReads x o = CellsRead m s g x.cells o.cells × (on s x.live ≡ o.live)

  pub cells_get : (xs : List Operand) (vs : List CellValue) (f : ℕ) → CellsRead m s g xs vs → operand_value s (slice_index_or xs f F) ≡ slice_index_or vs f (Number (pos 0))
  cells_get [] [] f h = refl
  cells_get [] (v ∷ vs) f h = absurd h
  cells_get (x ∷ xs) [] f h = absurd h
  cells_get (x ∷ xs) (v ∷ vs) zero h = h.0
  cells_get (x ∷ xs) (v ∷ vs) (suc f) h = cells_get xs vs f h.1

  pub cells_set : (xs : List Operand) (vs : List CellValue) (f : ℕ) (a : Operand) (v : CellValue) → CellsRead m s g xs vs → operand_value s a ≡ v → CellsRead m s g (slice_set xs f a) (slice_set vs f v)
  cells_set [] [] f a v h e = tt
  cells_set [] (w ∷ vs) f a v h e = absurd h
  cells_set (x ∷ xs) [] f a v h e = absurd h
  cells_set (x ∷ xs) (w ∷ vs) zero a v h e = (e, h.1)
  cells_set (x ∷ xs) (w ∷ vs) (suc f) a v h e = (h.0, cells_set xs vs f a v h.1 e)

  cells_same : (xs : List Operand) (vs : List CellValue) (f : ℕ) (a : Operand) → CellsRead m s g xs vs → operand_value s a ≡ slice_index_or vs f (Number (pos 0)) → CellsRead m s g (slice_set xs f a) vs
  cells_same [] [] f a h e = tt
  cells_same [] (w ∷ vs) f a h e = absurd h
  cells_same (x ∷ xs) [] f a h e = absurd h
  cells_same (x ∷ xs) (w ∷ vs) zero a h e = (e, h.1)
  cells_same (x ∷ xs) (w ∷ vs) (suc f) a h e = (h.0, cells_same xs vs f a h.1 e)

  slots_get : (xs : List Slot) (st : Store) (i : ℕ) → SlotsRead m s g xs st → SlotReads (or_no_slot (slice_get xs i)) (or_nothing (slice_get st i))
  slots_get [] [] i h = (tt, refl)
  slots_get [] (o ∷ st) i h = absurd h
  slots_get (x ∷ xs) [] i h = absurd h
  slots_get (x ∷ xs) (o ∷ st) zero h = h.0
  slots_get (x ∷ xs) (o ∷ st) (suc i) h = slots_get xs st i h.1

  pub slot_reads : (xs : List Slot) (st : Store) (o : ℕ) → SlotsRead m s g xs st → SlotReads (slot_at xs o) (object_at st o)
  slot_reads xs st zero h = (tt, refl)
  slot_reads xs st (suc i) h = slots_get xs st i h

  slots_set : (xs : List Slot) (st : Store) (i : ℕ) (x : Slot) (o : Object) → SlotsRead m s g xs st → SlotReads x o → SlotsRead m s g (slice_set xs i x) (slice_set st i o)
  slots_set [] [] i x o h k = tt
  slots_set [] (p ∷ st) i x o h k = absurd h
  slots_set (y ∷ xs) [] i x o h k = absurd h
  slots_set (y ∷ xs) (p ∷ st) zero x o h k = (k, h.1)
  slots_set (y ∷ xs) (p ∷ st) (suc i) x o h k = (h.0, slots_set xs st i x o h.1 k)

  number_set : (xs : List Slot) (st : Store) (n : ℕ) (x : Slot) (o : Object) → SlotsRead m s g xs st → SlotReads x o → SlotsRead m s g (set_number xs n x) (set_number st n o)
  number_set xs st zero x o h k = h
  number_set xs st (suc i) x o h k = slots_set xs st i x o h k

  slots_same : (xs : List Slot) (st : Store) (i : ℕ) (x : Slot) → SlotsRead m s g xs st → SlotReads x (or_nothing (slice_get st i)) → SlotsRead m s g (slice_set xs i x) st
  slots_same [] [] i x h k = tt
  slots_same [] (p ∷ st) i x h k = absurd h
  slots_same (y ∷ xs) [] i x h k = absurd h
  slots_same (y ∷ xs) (p ∷ st) zero x h k = (k, h.1)
  slots_same (y ∷ xs) (p ∷ st) (suc i) x h k = (h.0, slots_same xs st i x h.1 k)

  number_same : (xs : List Slot) (st : Store) (n : ℕ) (x : Slot) → SlotsRead m s g xs st → SlotReads x (object_at st n) → SlotsRead m s g (set_number xs n x) st
  number_same xs st zero x h k = h
  number_same xs st (suc i) x h k = slots_same xs st i x h k

  -- a cell is read
  pub cell_reads : (xs : List Slot) (st : Store) (o f : ℕ) → SlotsRead m s g xs st → operand_value s (walks.cell_at xs o f) ≡ runs.cell_at st (record { object = o; offset = f })
  cell_reads xs st o f h = cells_get (slot_at xs o).cells (object_at st o).cells f (slot_reads xs st o h).0

  -- a cell takes a value
  pub cell_writes : (w : walks.Walk) (st : Store) (o f : ℕ) (a : Operand) (v : CellValue) → SlotsRead m s g w.slots st → operand_value s a ≡ v
      → SlotsRead m s g (walks.with_cell w o f a).slots (runs.with_cell st (record { object = o; offset = f }) v)
  cell_writes w st o f a v h e =
      number_set w.slots st o _ _ h (cells_set (slot_at w.slots o).cells (object_at st o).cells f a v (slot_reads w.slots st o h).0 e, (slot_reads w.slots st o h).1)

  -- a cell takes the value that it has
  pub cell_stays : (w : walks.Walk) (st : Store) (o f : ℕ) (a : Operand) → SlotsRead m s g w.slots st → operand_value s a ≡ runs.cell_at st (record { object = o; offset = f })
      → SlotsRead m s g (walks.with_cell w o f a).slots st
  cell_stays w st o f a h e =
      number_same w.slots st o _ h (cells_same (slot_at w.slots o).cells (object_at st o).cells f a (slot_reads w.slots st o h).0 e, (slot_reads w.slots st o h).1)

  pub live_writes : (w : walks.Walk) (st : Store) (o : ℕ) (a : Operand) (live : Bool) → SlotsRead m s g w.slots st → on s a ≡ live
      → SlotsRead m s g (walks.with_live w o a).slots (runs.with_live st o live)
  live_writes w st o a live h e = number_set w.slots st o _ _ h ((slot_reads w.slots st o h).0, e)

  -- ---- sizes

  sized_set : (change : Slot → Slot) → ((ts : List CellType) (x : Slot) → SameLength ts x.cells → SameLength ts (change x).cells)
      → (o k : ℕ) (xs : List Slot) (i : ℕ) → Sized m s g o k xs → Sized m s g o k (slice_set xs i (change (or_no_slot (slice_get xs i))))
  sized_set change keeps o zero [] i h = tt
  sized_set change keeps o zero (x ∷ xs) i h = absurd h
  sized_set change keeps o (suc k) [] i h = absurd h
  sized_set change keeps o (suc k) (x ∷ xs) zero h = (keeps (g.types.objects o) x h.0, h.1)
  sized_set change keeps o (suc k) (x ∷ xs) (suc i) h = (h.0, sized_set change keeps (suc o) k xs i h.1)

  sized_number : (change : Slot → Slot) → ((ts : List CellType) (x : Slot) → SameLength ts x.cells → SameLength ts (change x).cells)
      → (k : ℕ) (xs : List Slot) (n : ℕ) → Sized m s g 1 k xs → Sized m s g 1 k (set_number xs n (change (slot_at xs n)))
  sized_number change keeps k xs zero h = h
  sized_number change keeps k xs (suc i) h = sized_set change keeps 1 k xs i h

  pub sized_cell : (w : walks.Walk) (o f : ℕ) (a : Operand) → Sized m s g 1 g.objects w.slots → Sized m s g 1 g.objects (walks.with_cell w o f a).slots
  sized_cell w o f a h = sized_number (λ x. record x { cells = slice_set x.cells f a }) (λ ts x e. length_set ts x.cells f a e) g.objects w.slots o h

  pub sized_live : (w : walks.Walk) (o : ℕ) (a : Operand) → Sized m s g 1 g.objects w.slots → Sized m s g 1 g.objects (walks.with_live w o a).slots
  sized_live w o a h = sized_number (λ x. record x { live = a }) (λ ts x e. e) g.objects w.slots o h
