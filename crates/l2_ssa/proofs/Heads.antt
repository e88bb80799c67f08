-- What a solution shows at a loop's head.
use Rattle.std.proofs.Common.{◌≡◌, ℕ, zero, suc, Bool, true, false, not, refl, sym, ap, ◌∙◌, subst, List, [], ◌∷◌, Option, Some, None, IfSome}
use Rattle.std.specs.Prelude.{◌&&◌}
use Rattle.l2_bits.specs.Values.{wrap}
use Rattle.l2_runs.specs.declared.cells.CellType.{CellType}
use Rattle.l2_runs.specs.declared.cells.CellType.TheVariants.{Integer, Pointer}
use Rattle.l2_runs.specs.declared.cells.CellValue.{CellValue}
use Rattle.l2_runs.specs.declared.cells.CellValue.TheVariants.{Number}
use Rattle.l2_runs.specs.declared.outcome.Outcome.TheVariants.{Ended, Stopped, Broken, OutOfChoices, OutOfTurns}
use Rattle.l2_runs.specs.Store.{Store}
use Rattle.l2_runs.specs.Members.{is_in}
use Rattle.l2_runs.specs.Runs.{Over, Fallen, done, stop, either, write}
use Rattle.l2_runs.specs.Back.{pointer_of, on_member}
use Rattle.l2_code.specs.declared.action.Operand.{Operand}
use Rattle.l2_code.specs.declared.action.Operand.TheVariants.{Temp}
use Rattle.l2_code.specs.Values.{Types, operand_value, is_true}
use Rattle.l2_supply.specs.Supply.{Supply, left, right, number_of, Place, at, Come, Goes, Ends, on_goes, then_with, come_of}
use Rattle.l2_supply.specs.Going.{any_with, cells_with, scatter_with}
use Rattle.l2_ssa.specs.Steps.{Row, Names, on, bit, Meaning, Holds, Solves, is_among, number_in, values_of}
use Rattle.l2_ssa.specs.Walks as walks
use Rattle.l2_ssa.specs.Walks.{Setting, Slot, Walk, past, joined, goes_on, with_cell, with_path, scatter_one, scatter_cells, scatter, head_rows, vars_now}
use Rattle.l2_ssa.specs.Law.{Matches, first_cells, row_holds, rows_hold}
use Rattle.l2_ssa.proofs.Shows.{Spot, Off, At, SlotsRead, Stands, solves_first, solves_second}
use Rattle.l2_ssa.proofs.Labels.{bit_on}
use Rattle.l2_ssa.proofs.Slots.{cell_reads, cell_writes, cell_stays, sized_cell}

abbrev pub spot_if : Bool → Store → Spot
spot_if true st = At st
spot_if false st = Off

module _ (m : Meaning) (s : Names) (g : Setting) (types : m.types ≡ g.types) where
  abbrev pub Stand : Operand → List Slot → Spot → Type 0
  Stand p slots q = Stands m s g p slots q

  on_but : (n : ℕ) (a b : Operand) → s n ≡ bit (on s a && not (on s b)) → on s (Temp n) ≡ (on s a && not (on s b))
  on_but n a b q = ap is_true q ∙ bit_on (on s a && not (on s b))

  -- ---- an entry leaves the objects

  module _ (p b : Operand) (guard : on s p ≡ true) (entry : on s b ≡ false) where
    stays_one : (w : Walk) (st : Store) (o f n : ℕ) (v : Operand) → Stand w.path w.slots (At st) → s n ≡ operand_value s (walks.cell_at w.slots o f) → SlotsRead m s g (with_cell w o f (Temp n)).slots st
    stays_one w st o f n v h q = cell_stays m s g w st o f (Temp n) h.2 (q ∙ cell_reads m s g w.slots st o f h.2)

    path_stays : (w : Walk) (n k : ℕ) (y : Operand) → s n ≡ bit (on s b && not (on s y)) → s k ≡ bit (on s w.path && not (on s (Temp n))) → on s (Temp k) ≡ on s w.path
    path_stays w n k y q r = on_but k w.path (Temp n) r ∙ (λ i. on s w.path && not ((on_but n b y q ∙ ap (λ x. x && not (on s y)) entry) i)) ∙ and_true (on s w.path)
      where
        and_true : (x : Bool) → (x && true) ≡ x
        and_true true = refl
        and_true false = refl

    entry_one : (o f : ℕ) (t : CellType) (n : ℕ) (w : Walk) (st : Store) → Stand w.path w.slots (At st) → Solves m s n (scatter_one g p b o f t n w).steps
        → Stand (scatter_one g p b o f t n w).after.path (scatter_one g p b o f t n w).after.slots (At st)
    entry_one o f (Integer ty) n w st h ok = (h.0, sized_cell m s g w o f (Temp (suc n)) h.1, stays_one w st o f (suc n) (Temp n) h (ok.1.0.1 guard entry))
    entry_one o f Pointer n w st h ok = (
      path_stays w _ _ (Temp (suc (suc (suc (suc n))))) ok.1.1.1.1.1.0 ok.1.1.1.1.1.1.0 ∙ h.0,
      sized_cell m s g w o f (Temp (suc (suc (suc n)))) h.1,
      stays_one w st o f (suc (suc (suc n))) (Temp n) h (ok.1.1.1.0.1 guard entry),
    )

    entry_cells : (o f : ℕ) (ts : List CellType) (n : ℕ) (w : Walk) (st : Store) → Stand w.path w.slots (At st) → Solves m s n (scatter_cells g p b o f ts n w).steps
        → Stand (scatter_cells g p b o f ts n w).after.path (scatter_cells g p b o f ts n w).after.slots (At st)
    entry_cells o f [] n w st h ok = h
    entry_cells o f (t ∷ ts) n w st h ok =
        let x = scatter_one g p b o f t n w in
        entry_cells o (suc f) ts (past n x.steps) x.after st (entry_one o f t n w st h (solves_first m s g n x.steps _ ok)) (solves_second m s g n x.steps _ ok)

    pub entry_all : (os : List ℕ) (n : ℕ) (w : Walk) (st : Store) → Stand w.path w.slots (At st) → Solves m s n (scatter g p b os n w).steps
        → Stand (scatter g p b os n w).after.path (scatter g p b os n w).after.slots (At st)
    entry_all [] n w st h ok = h
    entry_all (o ∷ os) n w st h ok =
        let x = scatter_cells g p b o 0 (g.types.objects o) n w in
        entry_all os (past n x.steps) x.after st (entry_cells o 0 (g.types.objects o) n w st h (solves_first m s g n x.steps _ ok)) (solves_second m s g n x.steps _ ok)

  -- ---- where the path is off

  module _ (p b : Operand) where
    path_off : (w : Walk) (k : ℕ) (y : Operand) → on s w.path ≡ false → s k ≡ bit (on s w.path && not (on s y)) → on s (Temp k) ≡ false
    path_off w k y h r = on_but k w.path y r ∙ ap (λ x. x && not (on s y)) h

    off_one : (o f : ℕ) (t : CellType) (n : ℕ) (w : Walk) → Stand w.path w.slots Off → Solves m s n (scatter_one g p b o f t n w).steps
        → Stand (scatter_one g p b o f t n w).after.path (scatter_one g p b o f t n w).after.slots Off
    off_one o f (Integer ty) n w h ok = (h.0, sized_cell m s g w o f (Temp (suc n)) h.1)
    off_one o f Pointer n w h ok = (path_off w _ (Temp (suc (suc (suc (suc (suc n)))))) h.0 ok.1.1.1.1.1.1.0, sized_cell m s g w o f (Temp (suc (suc (suc n)))) h.1)

    off_cells : (o f : ℕ) (ts : List CellType) (n : ℕ) (w : Walk) → Stand w.path w.slots Off → Solves m s n (scatter_cells g p b o f ts n w).steps
        → Stand (scatter_cells g p b o f ts n w).after.path (scatter_cells g p b o f ts n w).after.slots Off
    off_cells o f [] n w h ok = h
    off_cells o f (t ∷ ts) n w h ok =
        let x = scatter_one g p b o f t n w in
        off_cells o (suc f) ts (past n x.steps) x.after (off_one o f t n w h (solves_first m s g n x.steps _ ok)) (solves_second m s g n x.steps _ ok)

    pub off_all : (os : List ℕ) (n : ℕ) (w : Walk) → Stand w.path w.slots Off → Solves m s n (scatter g p b os n w).steps
        → Stand (scatter g p b os n w).after.path (scatter g p b os n w).after.slots Off
    off_all [] n w h ok = h
    off_all (o ∷ os) n w h ok =
        let x = scatter_cells g p b o 0 (g.types.objects o) n w in
        off_all os (past n x.steps) x.after (off_cells o 0 (g.types.objects o) n w h (solves_first m s g n x.steps _ ok)) (solves_second m s g n x.steps _ ok)

  -- ---- a back start

  -- where the scatter of a back start has come to
  abbrev pub Lands : Operand → List Slot → Come (Unit {0}) → Type 0
  Lands path slots (Goes u p) = Stand path slots (At p.store)
  Lands path slots (Ends (Over Stopped) p) = Stand path slots Off
  Lands path slots (Ends e p) = ⊥

  module _ (p b : Operand) (guard : on s p ≡ true) (back : on s b ≡ true) where
    -- one cell takes any value
    abbrev one_with : ℕ → ℕ → CellType → Supply → Supply → Place → Come (Unit {0})
    one_with o f t u v q = on_goes (any_with g.types.objects (g.family.object o) t u q) (λ x. Rattle.l2_supply.specs.Supply.without (write (record { object = o; offset = f }) x) v)

    pointer_lands : (o f n : ℕ) (w : Walk) (q : Place) (x : Option CellValue) (v : Supply) → Stand w.path w.slots (At q.store)
        → IfSome x (λ y. s (suc (suc n)) ≡ y) → s (suc (suc (suc n))) ≡ s (suc (suc n))
        → s (suc (suc (suc (suc n)))) ≡ bit (is_among (g.family.object o) x)
        → s (suc (suc (suc (suc (suc n))))) ≡ bit (on s b && not (on s (Temp (suc (suc (suc (suc n)))))))
        → s (suc (suc (suc (suc (suc (suc n)))))) ≡ bit (on s w.path && not (on s (Temp (suc (suc (suc (suc (suc n))))))))
        → Lands (Temp (suc (suc (suc (suc (suc (suc n))))))) (with_cell w o f (Temp (suc (suc (suc n))))).slots
        (on_goes (come_of (on_member (g.family.object o) x done (at q [] 0))) (λ y. Rattle.l2_supply.specs.Supply.without (write (record { object = o; offset = f }) y) v))
    pointer_lands o f n w q None v h point merge among y next =
        (on_but (suc (suc (suc (suc (suc (suc n)))))) w.path (Temp (suc (suc (suc (suc (suc n)))))) next ∙ (λ i. h.0 i && not ((on_but (suc (suc (suc (suc (suc n))))) b (Temp (suc (suc (suc (suc n))))) y ∙ (λ j. back j && not ((ap is_true among ∙ bit_on false) j))) i)), sized_cell m s g w o f (Temp (suc (suc (suc n)))) h.1)
    pointer_lands o f n w q (Some x) v h point merge among y next = go (is_in (g.family.object o) x) among
      where
        y_is : (t : Bool) → s (suc (suc (suc (suc n)))) ≡ bit t → on s (Temp (suc (suc (suc (suc (suc (suc n))))))) ≡ (true && not (true && not t))
        y_is t e = on_but (suc (suc (suc (suc (suc (suc n)))))) w.path (Temp (suc (suc (suc (suc (suc n)))))) next ∙ (λ i. h.0 i && not ((on_but (suc (suc (suc (suc (suc n))))) b (Temp (suc (suc (suc (suc n))))) y ∙ (λ j. back j && not ((ap is_true e ∙ bit_on t) j))) i))

        go : (t : Bool) → s (suc (suc (suc (suc n)))) ≡ bit t → Lands (Temp (suc (suc (suc (suc (suc (suc n))))))) (with_cell w o f (Temp (suc (suc (suc n))))).slots
            (on_goes (come_of (either t (done x) stop (at q [] 0))) (λ y. Rattle.l2_supply.specs.Supply.without (write (record { object = o; offset = f }) y) v))
        go true e = (y_is true e, sized_cell m s g w o f (Temp (suc (suc (suc n)))) h.1, cell_writes m s g w q.store o f (Temp (suc (suc (suc n)))) x h.2 (merge ∙ point))
        go false e = (y_is false e, sized_cell m s g w o f (Temp (suc (suc (suc n)))) h.1)

    back_one : (o f : ℕ) (t : CellType) (n : ℕ) (w : Walk) (q : Place) (u v : Supply) → Stand w.path w.slots (At q.store) → Solves m s n (scatter_one g p b o f t n w).steps → Matches g.types.objects s (scatter_one g p b o f t n w).given u
        → Lands (scatter_one g p b o f t n w).after.path (scatter_one g p b o f t n w).after.slots (one_with o f t u v q)
    back_one o f (Integer ty) n w q u v h ok mt =
        (h.0, sized_cell m s g w o f (Temp (suc n)) h.1, cell_writes m s g w q.store o f (Temp (suc n)) (Number (wrap ty (number_of u))) h.2 (ok.1.0.0 back ∙ mt guard))
    back_one o f Pointer n w q u v h ok mt =
        pointer_lands o f n w q (pointer_of g.types.objects (number_of (left u)) (number_of (left (right u)))) v h
        (subst (λ (x : Option CellValue). IfSome x (λ y. s (suc (suc n)) ≡ y)) pointer (ok.1.1.0 guard))
        (ok.1.1.1.0.0 back)
        (ok.1.1.1.1.0 guard ∙ ap (λ (x : Option CellValue). bit (is_among (g.family.object o) x)) pointer)
        ok.1.1.1.1.1.0 ok.1.1.1.1.1.1.0
      where
        pointer : pointer_of m.types.objects (number_in (s n)) (number_in (s (suc n))) ≡ pointer_of g.types.objects (number_of (left u)) (number_of (left (right u)))
        pointer = ap (λ (t : Types). pointer_of t.objects (number_in (s n)) (number_in (s (suc n)))) types ∙ mt guard

    -- where a cell has landed, and the others after it
    lands_then : (path : Operand) (slots : List Slot) (e : Come (Unit {0})) (f : Place → Come (Unit {0})) (path' : Operand) (slots' : List Slot)
        → Lands path slots e → ((q : Place) → Stand path slots (At q.store) → Lands path' slots' (f q)) → (Stand path slots Off → Stand path' slots' Off) → Lands path' slots' (on_goes e (λ u q. f q))
    lands_then path slots (Goes u q) f path' slots' h on_ off = on_ q h
    lands_then path slots (Ends (Over Stopped) q) f path' slots' h on_ off = off h
    lands_then path slots (Ends (Over Ended) q) f path' slots' h on_ off = absurd h
    lands_then path slots (Ends (Over (Broken c)) q) f path' slots' h on_ off = absurd h
    lands_then path slots (Ends (Over OutOfChoices) q) f path' slots' h on_ off = absurd h
    lands_then path slots (Ends (Over OutOfTurns) q) f path' slots' h on_ off = absurd h
    lands_then path slots (Ends (Fallen l row) q) f path' slots' h on_ off = absurd h

    regroup : {A B C : Type 0} (e : Come A) (f : A → Place → Come B) (k : B → Place → Come C) → on_goes e (λ a q. on_goes (f a q) k) ≡ on_goes (on_goes e f) k
    regroup (Goes a q) f k = refl
    regroup (Ends x q) f k = refl

    back_cells : (o f : ℕ) (ts : List CellType) (n : ℕ) (w : Walk) (q : Place) (u : Supply) → Stand w.path w.slots (At q.store) → Solves m s n (scatter_cells g p b o f ts n w).steps → Matches g.types.objects s (scatter_cells g p b o f ts n w).given u
        → Lands (scatter_cells g p b o f ts n w).after.path (scatter_cells g p b o f ts n w).after.slots (cells_with g.types.objects (g.family.object o) o f ts u q)
    back_cells o f [] n w q u h ok mt = h
    back_cells o f (t ∷ ts) n w q u h ok mt =
        let x = scatter_one g p b o f t n w in
        let ok2 = solves_second m s g n x.steps _ ok in
        let y = scatter_cells g p b o (suc f) ts (past n x.steps) x.after in
        subst (λ e. Lands (scatter_cells g p b o f (t ∷ ts) n w).after.path (scatter_cells g p b o f (t ∷ ts) n w).after.slots e)
        (sym (regroup (any_with g.types.objects (g.family.object o) t (left u) q) (λ y. Rattle.l2_supply.specs.Supply.without (write (record { object = o; offset = f }) y) (left (right u))) (λ z q. cells_with g.types.objects (g.family.object o) o (suc f) ts (right (right u)) q)))
        (lands_then x.after.path x.after.slots (one_with o f t (left u) (left (right u)) q) (λ q. cells_with g.types.objects (g.family.object o) o (suc f) ts (right (right u)) q) y.after.path y.after.slots
        (back_one o f t n w q (left u) (left (right u)) h (solves_first m s g n x.steps _ ok) mt.0)
        (λ q k. back_cells o (suc f) ts (past n x.steps) x.after q (right (right u)) k ok2 mt.1.1)
        (λ k. off_cells p b o (suc f) ts (past n x.steps) x.after k ok2))

    pub back_all : (os : List ℕ) (n : ℕ) (w : Walk) (q : Place) (u : Supply) → Stand w.path w.slots (At q.store) → Solves m s n (scatter g p b os n w).steps → Matches g.types.objects s (scatter g p b os n w).given u
        → Lands (scatter g p b os n w).after.path (scatter g p b os n w).after.slots (scatter_with g.types.objects g.family.object os u q)
    back_all [] n w q u h ok mt = h
    back_all (o ∷ os) n w q u h ok mt =
        let x = scatter_cells g p b o 0 (g.types.objects o) n w in
        let ok2 = solves_second m s g n x.steps _ ok in
        let y = scatter g p b os (past n x.steps) x.after in
        lands_then x.after.path x.after.slots (cells_with g.types.objects (g.family.object o) o 0 (g.types.objects o) (left u) q) (λ q. scatter_with g.types.objects g.family.object os (right u) q) y.after.path y.after.slots
        (back_cells o 0 (g.types.objects o) n w q (left u) h (solves_first m s g n x.steps _ ok) mt.0)
        (λ q k. back_all os (past n x.steps) x.after q (right u) k ok2 mt.1)
        (λ k. off_all p b os (past n x.steps) x.after k ok2)

  -- ---- rows

  pub vars_read : (slots : List Slot) (st : Store) (vars : List ℕ) → SlotsRead m s g slots st → values_of s (vars_now slots vars) ≡ first_cells st vars
  vars_read slots st [] h = refl
  vars_read slots st (o ∷ os) h = λ i. cell_reads m s g slots st o 0 h i ∷ vars_read slots st os h i

  pub rows_off : (p b : Operand) (l i more n : ℕ) (w : Walk) → Stand w.path w.slots Off → Solves m s n (head_rows g p b l i more n w).steps → Stand (head_rows g p b l i more n w).walk.path (head_rows g p b l i more n w).walk.slots Off
  rows_off p b l i zero n w h ok = h
  rows_off p b l i (suc more) n w h ok = rows_off p b l (suc i) more _ (with_path w (Temp (suc (suc n)))) (on_but (suc (suc n)) w.path (Temp (suc n)) ok.1.1.0 ∙ ap (λ x. x && not (on s (Temp (suc n)))) h.0, h.1) ok.1.1.1

  row_path : (p b : Operand) (l i n : ℕ) (w : Walk) (st : Store) → on s p ≡ true → Stand w.path w.slots (At st) → Holds m s n (Row p l i (vars_now w.slots (g.vars l)))
      → s (suc n) ≡ bit (on s b && not (on s (Temp n))) → s (suc (suc n)) ≡ bit (on s w.path && not (on s (Temp (suc n)))) → on s (Temp (suc (suc n))) ≡ not (on s b && not (row_holds m.row g l i st))
  row_path p b l i n w st guard h x y z =
      on_but (suc (suc n)) w.path (Temp (suc n)) z
      ∙ (λ j. h.0 j && not ((on_but (suc n) b (Temp n) y ∙ (λ k. on s b && not ((ap is_true (x guard) ∙ bit_on (m.row l i (values_of s (vars_now w.slots (g.vars l)))) ∙ ap (m.row l i) (vars_read w.slots st (g.vars l) h.2)) k))) j))

  pub rows_entry : (p b : Operand) → on s p ≡ true → on s b ≡ false → (l i more n : ℕ) (w : Walk) (st : Store) → Stand w.path w.slots (At st) → Solves m s n (head_rows g p b l i more n w).steps
      → Stand (head_rows g p b l i more n w).walk.path (head_rows g p b l i more n w).walk.slots (At st)
  rows_entry p b guard entry l i zero n w st h ok = h
  rows_entry p b guard entry l i (suc more) n w st h ok =
      rows_entry p b guard entry l (suc i) more (suc (suc (suc n))) (with_path w (Temp (suc (suc n)))) st
      (row_path p b l i n w st guard h ok.0 ok.1.0 ok.1.1.0 ∙ ap (λ x. not (x && not (row_holds m.row g l i st))) entry, h.1, h.2) ok.1.1.1

  pub rows_back : (p b : Operand) → on s p ≡ true → on s b ≡ true → (l i more n : ℕ) (w : Walk) (st : Store) → Stand w.path w.slots (At st) → Solves m s n (head_rows g p b l i more n w).steps
      → (t : Bool) → rows_hold m.row g l i more st ≡ t → Stand (head_rows g p b l i more n w).walk.path (head_rows g p b l i more n w).walk.slots (spot_if t st)
  rows_back p b guard back l i zero n w st h ok true e = h
  rows_back p b guard back l i zero n w st h ok false e = cc
  rows_back p b guard back l i (suc more) n w st h ok t e = go (row_holds m.row g l i st) refl e (λ k q. rows_back p b guard back l (suc i) more (suc (suc (suc n))) (with_path w (Temp (suc (suc n)))) st k ok.1.1.1 t q)
    where
      path_is : (x : Bool) → row_holds m.row g l i st ≡ x → on s (Temp (suc (suc n))) ≡ not (true && not x)
      path_is x q = row_path p b l i n w st guard h ok.0 ok.1.0 ok.1.1.0 ∙ (λ j. not (back j && not (q j)))

      go : (x : Bool) → row_holds m.row g l i st ≡ x → (x && rows_hold m.row g l (suc i) more st) ≡ t
          → (Stand (Temp (suc (suc n))) w.slots (At st) → rows_hold m.row g l (suc i) more st ≡ t → Stand (head_rows g p b l i (suc more) n w).walk.path (head_rows g p b l i (suc more) n w).walk.slots (spot_if t st))
          → Stand (head_rows g p b l i (suc more) n w).walk.path (head_rows g p b l i (suc more) n w).walk.slots (spot_if t st)
      go true q d next = next (path_is true q, h.1, h.2) d
      go false q d next = subst (λ x. Stand (head_rows g p b l i (suc more) n w).walk.path (head_rows g p b l i (suc more) n w).walk.slots (spot_if x st)) d
          (rows_off p b l (suc i) more (suc (suc (suc n))) (with_path w (Temp (suc (suc n)))) (path_is false q, h.1) ok.1.1.1)
