-- What a solution shows behind a label.
use Rattle.std.proofs.Common.{arith, ◌≡◌, inl, inr, ℕ, zero, suc, ℤ, Bool, true, false, refl, ap, ◌∙◌, List, [], ◌∷◌, ◌++◌}
use Rattle.std.specs.Ordering.{int_eq}
use Rattle.std.proofs.lemmas.Int.{ints}
use Rattle.std.specs.Prelude.{◌||◌}
use Rattle.l2_bits.specs.Types.{bool_type}
use Rattle.l2_runs.specs.declared.cells.CellType.{CellType}
use Rattle.l2_runs.specs.declared.cells.CellType.TheVariants.{Integer}
use Rattle.l2_runs.specs.declared.cells.CellValue.{CellValue}
use Rattle.l2_runs.specs.declared.cells.CellValue.TheVariants as value
use Rattle.l2_runs.specs.declared.cells.CellValue.TheVariants.{Number, Null, Invalid}
use Rattle.l2_runs.specs.Store.{Store}
use Rattle.l2_code.specs.declared.action.Operand.{Operand}
use Rattle.l2_code.specs.declared.action.Operand.TheVariants.{Constant, Temp}
use Rattle.l2_code.specs.Values.{Temps, operand_value, is_true}
use Rattle.l2_code.specs.Machine.{Way, On, Out, leave}
use Rattle.l2_supply.specs.Supply.{Come, Goes, Ends}
use Rattle.l2_ssa.specs.Steps.{Step, Merge, Names, on, bit, Meaning, Holds, Solves}
use Rattle.l2_ssa.specs.Walks as walks
use Rattle.l2_ssa.specs.Walks.{Setting, Slot, Walk, Entry, past, same_value, same_operand, merge_step, merged, next_merge, merge_cells, merged_cells, merge_slots, merge_flags, merged_slots, merge_if, merge_all, outer_if, outer, at_label}
use Rattle.l2_ssa.proofs.Shows.{Spot, Off, At, SameLength, CellsRead, SlotsRead, Sized, Stands, AllShut, OneOpen, Shows, Stops, solves_first, solves_second}

pub bit_on : (b : Bool) → is_true (bit b) ≡ b
bit_on true = refl
bit_on false = refl

same_value_is : (a b : CellValue) → same_value a b ≡ true → a ≡ b
same_value_is (Number a) (Number b) e = ap Number (number_is a b e)
  where
    number_is : (a b : ℤ) → int_eq a b ≡ true → a ≡ b
    number_is a b e = grind (arith, ints, e)
same_value_is (Number a) Null e = absurd (grind (arith, e))
same_value_is (Number a) Invalid e = absurd (grind (arith, e))
same_value_is (Number a) (value.At o f) e = absurd (grind (arith, e))
same_value_is Null (Number a) e = absurd (grind (arith, e))
same_value_is Null Null e = refl
same_value_is Null Invalid e = absurd (grind (arith, e))
same_value_is Null (value.At o f) e = absurd (grind (arith, e))
same_value_is Invalid (Number a) e = absurd (grind (arith, e))
same_value_is Invalid Null e = absurd (grind (arith, e))
same_value_is Invalid Invalid e = refl
same_value_is Invalid (value.At o f) e = absurd (grind (arith, e))
same_value_is (value.At o f) (Number a) e = absurd (grind (arith, e))
same_value_is (value.At o f) Null e = absurd (grind (arith, e))
same_value_is (value.At o f) Invalid e = absurd (grind (arith, e))
same_value_is (value.At o f) (value.At p g) e = λ i. value.At (fst i) (snd i)
  where
    fst : o ≡ p
    fst = grind (arith, e)

    snd : f ≡ g
    snd = grind (arith, e)

same_is : (a b : Operand) → same_operand a b ≡ true → a ≡ b
same_is (Constant v) (Constant w) e = ap Constant (same_value_is v w e)
same_is (Constant v) (Temp n) e = absurd (grind (arith, e))
same_is (Temp n) (Constant v) e = absurd (grind (arith, e))
same_is (Temp n) (Temp m) e = ap Temp (grind (arith, e))

module _ (m : Meaning) (s : Names) (g : Setting) where
  -- cells of an entry where its path is true, else of the path that falls
  record ChosenCells (p h : Operand) (ts : List CellType) (xs ys zs : List Operand) : Type 0 where
    size : SameLength ts zs
    first : (vs : List CellValue) → on s h ≡ true → CellsRead m s g xs vs → CellsRead m s g zs vs
    second : (vs : List CellValue) → on s p ≡ true → on s h ≡ false → CellsRead m s g ys vs → CellsRead m s g zs vs

  cells_chosen : (p h : Operand) (ts : List CellType) (xs ys : List Operand) (n : ℕ) → SameLength ts xs → SameLength ts ys → Solves m s n (merge_cells p h ts xs ys)
      → ChosenCells p h ts xs ys (merged_cells n ts xs ys)
  cells_chosen p h [] [] [] n a b ok = record { size = tt; first = λ vs e k. k; second = λ vs e d k. k }
  cells_chosen p h [] [] (y ∷ ys) n a b ok = absurd b
  cells_chosen p h [] (x ∷ xs) ys n a b ok = absurd a
  cells_chosen p h (t ∷ ts) [] ys n a b ok = absurd a
  cells_chosen p h (t ∷ ts) (x ∷ xs) [] n a b ok = absurd b
  cells_chosen p h (t ∷ ts) (x ∷ xs) (y ∷ ys) n a b ok = go (same_operand x y) (same_is x y) (λ i ok. cells_chosen p h ts xs ys i a b ok) ok
    where
      firsts : (n : ℕ) (z : Operand) → ChosenCells p h ts xs ys (merged_cells n ts xs ys) → (on s h ≡ true → operand_value s z ≡ operand_value s x) → (vs : List CellValue) → on s h ≡ true → CellsRead m s g (x ∷ xs) vs
          → CellsRead m s g (z ∷ merged_cells n ts xs ys) vs
      firsts n z c i [] e k = k
      firsts n z c i (v ∷ vs) e k = (i e ∙ k.0, c.first vs e k.1)

      seconds : (n : ℕ) (z : Operand) → ChosenCells p h ts xs ys (merged_cells n ts xs ys) → (on s p ≡ true → on s h ≡ false → operand_value s z ≡ operand_value s y) → (vs : List CellValue) → on s p ≡ true → on s h ≡ false
          → CellsRead m s g (y ∷ ys) vs → CellsRead m s g (z ∷ merged_cells n ts xs ys) vs
      seconds n z c i [] e d k = k
      seconds n z c i (v ∷ vs) e d k = (i e d ∙ k.0, c.second vs e d k.1)

      go : (e : Bool) → (e ≡ true → x ≡ y) → ((i : ℕ) → Solves m s i (merge_cells p h ts xs ys) → ChosenCells p h ts xs ys (merged_cells i ts xs ys)) → Solves m s n (merge_step e p h t x y ++ merge_cells p h ts xs ys)
          → ChosenCells p h (t ∷ ts) (x ∷ xs) (y ∷ ys) (merged e n x ∷ merged_cells (next_merge e n) ts xs ys)
      go true e rest ok =
          let c = rest n ok in
          record { size = c.size; first = firsts n x c (λ i. refl); second = seconds n x c (λ i j. ap (operand_value s) (e refl)) }
      go false e rest ok =
          let c = rest (suc n) ok.1 in
          record { size = c.size; first = firsts (suc n) (Temp n) c ok.0.0; second = seconds (suc n) (Temp n) c ok.0.1 }

  record ChosenSlots (p h : Operand) (o k : ℕ) (xs ys zs : List Slot) : Type 0 where
    size : Sized m s g o k zs
    first : (st : Store) → on s h ≡ true → SlotsRead m s g xs st → SlotsRead m s g zs st
    second : (st : Store) → on s p ≡ true → on s h ≡ false → SlotsRead m s g ys st → SlotsRead m s g zs st

  slots_chosen : (p h : Operand) (o k : ℕ) (xs ys : List Slot) (n i : ℕ) → Sized m s g o k xs → Sized m s g o k ys → Solves m s n (merge_slots g p h o xs ys) → Solves m s i (merge_flags p h xs ys)
      → ChosenSlots p h o k xs ys (merged_slots g p h n i o xs ys)
  slots_chosen p h o zero [] [] n i a b ok fl = record { size = tt; first = λ st e q. q; second = λ st e d q. q }
  slots_chosen p h o zero [] (y ∷ ys) n i a b ok fl = absurd b
  slots_chosen p h o zero (x ∷ xs) ys n i a b ok fl = absurd a
  slots_chosen p h o (suc k) [] ys n i a b ok fl = absurd a
  slots_chosen p h o (suc k) (x ∷ xs) [] n i a b ok fl = absurd b
  slots_chosen p h o (suc k) (x ∷ xs) (y ∷ ys) n i a b ok fl =
      go (same_operand x.live y.live) (same_is x.live y.live)
      (λ j fl. slots_chosen p h (suc o) k xs ys (past n (merge_cells p h (g.types.objects o) x.cells y.cells)) j a.1 b.1
      (solves_second m s g n (merge_cells p h (g.types.objects o) x.cells y.cells) _ ok) fl) fl
    where
      after : ℕ → List Slot
      after j = merged_slots g p h (past n (merge_cells p h (g.types.objects o) x.cells y.cells)) j (suc o) xs ys

      cells : ChosenCells p h (g.types.objects o) x.cells y.cells (merged_cells n (g.types.objects o) x.cells y.cells)
      cells = cells_chosen p h (g.types.objects o) x.cells y.cells n a.0 b.0 (solves_first m s g n (merge_cells p h (g.types.objects o) x.cells y.cells) _ ok)

      slot : Operand → Slot
      slot z = record { cells = merged_cells n (g.types.objects o) x.cells y.cells; live = z }

      firsts : (j : ℕ) (z : Operand) → ChosenSlots p h (suc o) k xs ys (after j) → (on s h ≡ true → operand_value s z ≡ operand_value s x.live) → (st : Store) → on s h ≡ true → SlotsRead m s g (x ∷ xs) st
          → SlotsRead m s g (slot z ∷ after j) st
      firsts j z d l [] e q = q
      firsts j z d l (v ∷ vs) e q = ((cells.first v.cells e q.0.0, ap is_true (l e) ∙ q.0.1), d.first vs e q.1)

      seconds : (j : ℕ) (z : Operand) → ChosenSlots p h (suc o) k xs ys (after j) → (on s p ≡ true → on s h ≡ false → operand_value s z ≡ operand_value s y.live) → (st : Store) → on s p ≡ true → on s h ≡ false
          → SlotsRead m s g (y ∷ ys) st → SlotsRead m s g (slot z ∷ after j) st
      seconds j z d l [] e f q = q
      seconds j z d l (v ∷ vs) e f q = ((cells.second v.cells e f q.0.0, ap is_true (l e f) ∙ q.0.1), d.second vs e f q.1)

      go : (e : Bool) → (e ≡ true → x.live ≡ y.live) → ((j : ℕ) → Solves m s j (merge_flags p h xs ys) → ChosenSlots p h (suc o) k xs ys (after j))
          → Solves m s i (merge_step e p h (Integer bool_type) x.live y.live ++ merge_flags p h xs ys)
          → ChosenSlots p h o (suc k) (x ∷ xs) (y ∷ ys) (slot (merged e i x.live) ∷ after (next_merge e i))
      go true e rest fl =
          let d = rest i fl in
          record { size = (cells.size, d.size); first = firsts i x.live d (λ l. refl); second = seconds i x.live d (λ l j. ap (operand_value s) (e refl)) }
      go false e rest fl =
          let d = rest (suc i) fl.1 in
          record { size = (cells.size, d.size); first = firsts (suc i) (Temp i) d fl.0.0; second = seconds (suc i) (Temp i) d fl.0.1 }

  -- ---- one entry

  abbrev join : Spot → Spot → Spot
  join Off q = q
  join (At st) q = At st

  abbrev NotBoth : Spot → Spot → Type 0
  NotBoth Off q = Unit {0}
  NotBoth (At st) Off = Unit {0}
  NotBoth (At st) (At t) = ⊥

  module _ (e : Entry) (w : Walk) (n : ℕ) (ok : Solves m s n (merge_if g zero e n w).steps) where
    abbrev cell_steps : List Step
    cell_steps = merge_slots g w.path e.path 1 e.slots w.slots

    abbrev flag_steps : List Step
    flag_steps = merge_flags w.path e.path e.slots w.slots

    both_path : (ge gw : Bool) → on s e.path ≡ ge → on s w.path ≡ gw → on s (merge_if g zero e n w).walk.path ≡ (gw || ge)
    both_path ge gw h k =
        ap is_true (solves_second m s g (past n cell_steps) flag_steps _ (solves_second m s g n cell_steps _ ok)).0
        ∙ bit_on (on s w.path || on s e.path) ∙ (λ i. k i || h i)

    both_slots : Sized m s g 1 g.objects e.slots → Sized m s g 1 g.objects w.slots → ChosenSlots w.path e.path 1 g.objects e.slots w.slots (merge_if g zero e n w).walk.slots
    both_slots h k =
        slots_chosen w.path e.path 1 g.objects e.slots w.slots n (past n cell_steps) h k (solves_first m s g n cell_steps _ ok)
        (solves_first m s g (past n cell_steps) flag_steps _ (solves_second m s g n cell_steps _ ok))

    merge_stands : (q r : Spot) → NotBoth q r → Stands m s g e.path e.slots q → Stands m s g w.path w.slots r → Stands m s g (merge_if g zero e n w).walk.path (merge_if g zero e n w).walk.slots (join q r)
    merge_stands Off Off d h k = (both_path false false h.0 k.0, (both_slots h.1 k.1).size)
    merge_stands Off (At t) d h k = (both_path false true h.0 k.0, (both_slots h.1 k.1).size, (both_slots h.1 k.1).second t k.0 h.0 k.2)
    merge_stands (At st) Off d h k = (both_path true false h.0 k.0, (both_slots h.1 k.1).size, (both_slots h.1 k.1).first st h.0 h.2)
    merge_stands (At st) (At t) d h k = absurd d

  -- ---- all entries of a label

  shut_if : (d : ℕ) (e : Entry) (n : ℕ) (w : Walk) (q : Spot) → Stands m s g e.path e.slots Off → Stands m s g w.path w.slots q → Solves m s n (merge_if g d e n w).steps
      → Stands m s g (merge_if g d e n w).walk.path (merge_if g d e n w).walk.slots q
  shut_if zero e n w q h k ok = merge_stands e w n ok Off q tt h k
  shut_if (suc d) e n w q h k ok = k

  all_shut : (es : List Entry) (n : ℕ) (w : Walk) (q : Spot) → AllShut m s g es → Stands m s g w.path w.slots q → Solves m s n (merge_all g es n w).steps
      → Stands m s g (merge_all g es n w).walk.path (merge_all g es n w).walk.slots q
  all_shut [] n w q h k ok = k
  all_shut (e ∷ es) n w q h k ok =
      let x = merge_if g e.depth e n w in
      all_shut es (past n x.steps) x.walk q h.1 (shut_if e.depth e n w q h.0 k (solves_first m s g n x.steps _ ok)) (solves_second m s g n x.steps _ ok)

  abbrev land : ℕ → Store → Spot
  land zero st = At st
  land (suc n) st = Off

  open_if : (d : ℕ) (e : Entry) (n : ℕ) (w : Walk) (k : ℕ) (st : Store) → d ≡ k → Stands m s g e.path e.slots (At st) → Stands m s g w.path w.slots Off → Solves m s n (merge_if g d e n w).steps
      → Stands m s g (merge_if g d e n w).walk.path (merge_if g d e n w).walk.slots (land k st)
  open_if zero e n w zero st i h q ok = merge_stands e w n ok (At st) Off tt h q
  open_if zero e n w (suc k) st i h q ok = absurd (omega (arith, i))
  open_if (suc d) e n w zero st i h q ok = absurd (omega (arith, i))
  open_if (suc d) e n w (suc k) st i h q ok = q

  one_open : (es : List Entry) (n : ℕ) (w : Walk) (k : ℕ) (st : Store) → OneOpen m s g k st es → Stands m s g w.path w.slots Off → Solves m s n (merge_all g es n w).steps
      → Stands m s g (merge_all g es n w).walk.path (merge_all g es n w).walk.slots (land k st)
  one_open [] n w k st h q ok = absurd h
  one_open (e ∷ es) n w k st (inl h) q ok =
      let x = merge_if g e.depth e n w in
      all_shut es (past n x.steps) x.walk (land k st) h.2 (open_if e.depth e n w k st h.0 h.1 q (solves_first m s g n x.steps _ ok)) (solves_second m s g n x.steps _ ok)
  one_open (e ∷ es) n w k st (inr h) q ok =
      let x = merge_if g e.depth e n w in
      one_open es (past n x.steps) x.walk k st h.1 (shut_if e.depth e n w Off h.0 q (solves_first m s g n x.steps _ ok)) (solves_second m s g n x.steps _ ok)

  outer_shut_if : (d : ℕ) (e : Entry) (es : List Entry) → Stands m s g e.path e.slots Off → AllShut m s g es → AllShut m s g (outer_if d e es)
  outer_shut_if zero e es h k = k
  outer_shut_if (suc d) e es h k = (h, k)

  outer_shut : (es : List Entry) → AllShut m s g es → AllShut m s g (outer es)
  outer_shut [] h = tt
  outer_shut (e ∷ es) h = outer_shut_if e.depth e (outer es) h.0 (outer_shut es h.1)

  outer_land : (es : List Entry) (st : Store) → OneOpen m s g zero st es → AllShut m s g (outer es)
  outer_land [] st h = absurd h
  outer_land (e ∷ es) st (inl h) = here e.depth h.0
    where
      here : (d : ℕ) → d ≡ zero → AllShut m s g (outer_if d e (outer es))
      here zero i = outer_shut es h.2
      here (suc d) i = absurd (omega (arith, i))
  outer_land (e ∷ es) st (inr h) = outer_shut_if e.depth e (outer es) h.0 (outer_land es st h.1)

  outer_open_if : (d n : ℕ) (st : Store) (e : Entry) (es : List Entry) → Stands m s g e.path e.slots Off → OneOpen m s g n st es → OneOpen m s g n st (outer_if d e es)
  outer_open_if zero n st e es h k = k
  outer_open_if (suc d) n st e es h k = inr (h, k)

  outer_open : (es : List Entry) (n : ℕ) (st : Store) → OneOpen m s g (suc n) st es → OneOpen m s g n st (outer es)
  outer_open [] n st h = absurd h
  outer_open (e ∷ es) n st (inl h) = here e.depth h.0
    where
      here : (d : ℕ) → d ≡ suc n → OneOpen m s g n st (outer_if d e (outer es))
      here zero i = absurd (omega (arith, i))
      here (suc d) i = inl (omega (arith, i), h.1, outer_shut es h.2)
  outer_open (e ∷ es) n st (inr h) = outer_open_if e.depth n st e (outer es) h.0 (outer_open es n st h.1)

  -- the way behind a block's end
  abbrev pub leave_come : Temps → Come Way → Come Way
  leave_come t (Goes w p) = Goes (leave t w) p
  leave_come t (Ends e p) = Ends e p

  module _ (temps : ℕ → Operand) (n : ℕ) (o : walks.Out) (ok : Solves m s n (at_label g temps n o).steps) where
    merges : Solves m s (past n o.steps) (merge_all g o.entries (past n o.steps) o.after).steps
    merges = solves_second m s g n o.steps _ ok

    pub label_shows : (t : Temps) (e : Come Way) → ((i : ℕ) → operand_value s (temps i) ≡ t i) → Shows m s g o e → Shows m s g (at_label g temps n o) (leave_come t e)
    label_shows t (Goes (On c) p) same h = record {
      after = record { stands = all_shut o.entries (past n o.steps) o.after (At p.store) h.entries h.after.stands merges; temps = same };
      entries = outer_shut o.entries h.entries;
      events = h.events;
    }
    label_shows t (Goes (Out zero) p) same h = record {
      after = record { stands = one_open o.entries (past n o.steps) o.after zero p.store h.entries h.after.stands merges; temps = same };
      entries = outer_land o.entries p.store h.entries;
      events = h.events;
    }
    label_shows t (Goes (Out (suc k)) p) same h = record {
      after = record { stands = one_open o.entries (past n o.steps) o.after (suc k) p.store h.entries h.after.stands merges; temps = tt };
      entries = outer_open o.entries k p.store h.entries;
      events = h.events;
    }
    label_shows t (Ends e p) same h = record {
      after = record { stands = all_shut o.entries (past n o.steps) o.after Off h.entries h.after.stands merges; temps = tt };
      entries = outer_shut o.entries h.entries;
      events = h.events;
    }

    pub label_stops : Stops m s g o → Stops m s g (at_label g temps n o)
    label_stops h = record {
      after = all_shut o.entries (past n o.steps) o.after Off h.entries h.after merges;
      entries = outer_shut o.entries h.entries;
      events = h.events;
    }
