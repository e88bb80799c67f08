-- The solutions of a code's equations are its cut runs.
use Rattle.std.proofs.Common.{arith, ◌≡◌, inl, inr, ℕ, zero, suc, ◌+◌, ◌<◌, ◌≤◌, Bool, true, false, refl, sym, ap, ◌∙◌, subst, List, [], ◌∷◌, ◌++◌, length, map, Option, Some, None, ℤ}
use Rattle.std.specs.Prelude.{◌||◌, slice_get}
use Rattle.l2_runs.specs.declared.cells.CellType.{CellType}
use Rattle.l2_runs.specs.declared.cells.CellValue.{CellValue}
use Rattle.l2_runs.specs.Fits.{Layout, CellsFit}
use Rattle.l2_runs.specs.Numbers.{at_number}
use Rattle.l2_runs.specs.declared.outcome.Outcome.TheVariants.{Ended, Stopped, Broken, OutOfChoices, OutOfTurns}
use Rattle.l2_runs.specs.Runs.{End, Over, Fallen, Result, Go, Halt, on_go, stop}
use Rattle.l2_code.specs.declared.code.CodeObject.{CodeObject}
use Rattle.l2_code.specs.Trees.{CodeTree}
use Rattle.l2_code.specs.Values.{no_temps}
use Rattle.l2_code.specs.Machine.{Way, On, Out}
use Rattle.l2_code.specs.Sets.{Family, HasCell, IsResolved}
use Rattle.l2_code.specs.Modes.{Cut, object_cells, types_of, first_object, first_store, limit_of, run_code, start}
use Rattle.l2_code.specs.WellFormed.{IsWellFormed, IsStuck, empty_scope}
use Rattle.l2_code_laws.specs.Holding.{StoreHolds, TempsHold}
use Rattle.l2_code_laws.proofs.Starts.{small_objects, limits_hold, start_holds}
use Rattle.l2_supply.specs.Supply.{IsFailure, IsSupplied, place_of, Supply, Place, Come, Goes, Ends, Chosen}
use Rattle.l2_supply.specs.Going.{nodes_with, machine_of}
use Rattle.l2_supply.proofs.Runs.{nodes_agree}
use Rattle.l2_ssa.specs.Steps.{Names, on, Meaning, Solves}
use Rattle.l2_ssa.specs.Walks as walks
use Rattle.l2_ssa.specs.Walks.{Setting, Kind, Goal, Event, walk}
use Rattle.l2_ssa.specs.Law.{RowsOf, RanksOf, tests, starts, setting_of, constants, flag_of, first_slots, first_walk, ssa, HasEvent, HasEnd, Matches, end_of, EndsAt, IsReached, SolutionsRun, RunsSolve}
use Rattle.l2_ssa.proofs.Shows.{SameLength, CellsRead, SlotsRead, Sized, Begins, Standing, AllFalse, OneTrue, OneIf, Shows, is_shown}
use Rattle.l2_ssa.proofs.Frames.{outs_of, allow, NotStuck}
use Rattle.l2_ssa.proofs.Givens.{supply_of, match_own, nodes_given}
use Rattle.l2_ssa.proofs.Whole.{run, nodes_shows}
use Rattle.l2_ssa.proofs.Enters.{enter, Halted, Same, nodes_enter}

-- ---- the start

there_get : (xs : List CodeObject) (i : ℕ) → 0 < length (object_cells (slice_get xs i)) → i < length xs
there_get [] i h = absurd (omega (arith, h))
there_get (x ∷ xs) zero h = omega arith
there_get (x ∷ xs) (suc i) h = let k = there_get xs i h in omega arith

pub there_number : (xs : List CodeObject) (o : ℕ) → 0 < length (object_cells (at_number xs o)) → (1 ≤ o) × (o < 1 + length xs)
there_number xs zero h = absurd (omega (arith, h))
there_number xs (suc i) h = let k = there_get xs i h in (omega arith, omega arith)

same_length : (cells : Layout) (ts : List CellType) (vs : List CellValue) → CellsFit cells ts vs → SameLength ts (constants vs)
same_length cells [] [] h = tt
same_length cells [] (v ∷ vs) h = absurd h
same_length cells (t ∷ ts) [] h = absurd h
same_length cells (t ∷ ts) (v ∷ vs) h = same_length cells ts vs h.1

has_cell : (x : Option CodeObject) → HasCell x → 0 < length (object_cells x)
has_cell None h = absurd h
has_cell (Some o) h = h

module _ (m : Meaning) (s : Names) (g : Setting) where
  constants_read : (vs : List CellValue) → CellsRead m s g (constants vs) vs
  constants_read [] = tt
  constants_read (v ∷ vs) = (refl, constants_read vs)

  flag_reads : (b : Bool) → on s (flag_of b) ≡ b
  flag_reads true = refl
  flag_reads false = refl

  first_reads : (xs : List CodeObject) → SlotsRead m s g (first_slots xs) (map first_object xs)
  first_reads [] = tt
  first_reads (x ∷ xs) = ((constants_read x.start, flag_reads (x.is_static || x.hidden)), first_reads xs)

  first_sized : (xs : List CodeObject) (o : ℕ) → ((i : ℕ) (x : CodeObject) → slice_get xs i ≡ Some x → SameLength (g.types.objects (o + i)) (constants x.start)) → Sized m s g o (length xs) (first_slots xs)
  first_sized [] o h = tt
  first_sized (x ∷ xs) o h = (subst (λ k. SameLength (g.types.objects k) (constants x.start)) (omega arith) (h zero x refl), first_sized xs (suc o) (λ i y e. subst (λ k. SameLength (g.types.objects k) (constants y.start)) (omega arith) (h (suc i) y e)))

  -- ---- events

  pub no_event : (goal : Goal) (es : List Event) → AllFalse m s g es → HasEvent s goal es → ⊥
  no_event goal [] h k = k
  no_event goal (e ∷ es) h (inl k) = let a = k.1 in let b = h.0 in cc
  no_event goal (e ∷ es) h (inr k) = no_event goal es h.1 k

  one_event : (goal : Goal) (x : End) (es : List Event) → OneTrue m s g x es → HasEvent s goal es → x ≡ end_of g goal
  one_event goal x [] h k = absurd k
  one_event goal x (e ∷ es) (inl h) (inl k) = sym h.0 ∙ ap (end_of g) k.0
  one_event goal x (e ∷ es) (inl h) (inr k) = absurd (no_event goal es h.2 k)
  one_event goal x (e ∷ es) (inr h) (inl k) = let a = k.1 in let b = h.0 in cc
  one_event goal x (e ∷ es) (inr h) (inr k) = one_event goal x es h.1 k

  pub event_if : (b : Bool) (goal : Goal) (x : End) (es : List Event) → OneIf m s g b x es → HasEvent s goal es → x ≡ end_of g goal
  event_if true goal x es h k = one_event goal x es h k
  event_if false goal x es h k = absurd (no_event goal es h k)

-- ---- the law

module _ (c : CodeTree) (f : Family) (w : IsWellFormed c) (z : IsResolved c f) (k0 : ℕ) (kind : ℕ → Kind) (row : RowsOf) (lower : RanksOf) (s : Names) where
  abbrev g : Setting
  g = setting_of c f (suc k0) kind false

  abbrev m : Meaning
  m = record { types = types_of c; row = row; lower = lower }

  abbrev pub there : (o : ℕ) → 0 < length ((types_of c).objects o) → (1 ≤ o) × (o < 1 + length c.objects)
  there o h = there_number c.objects o h

  abbrev the_run : Rattle.l2_supply.specs.Going.Setting
  the_run = run row lower s g (length c.checks) (length c.loops) (small_objects c w) there refl k0 refl

  abbrev p0 : Place
  p0 = record { store = first_store c; arrivals = 0 }

  abbrev come : Supply → Come Way
  come u = nodes_with the_run true c.body no_temps u p0

  not_stuck : (e : Come Way) → Chosen (Rattle.l2_code.specs.Machine.nodes (machine_of the_run) true c.body no_temps) p0 e → NotStuck e
  not_stuck (Goes a p) h = tt
  not_stuck (Ends (Over o) p) h = tt
  not_stuck (Ends (Fallen zero r) p) h =
      w.never_stuck f z (Cut (suc k0) (starts row g)) (tests row lower g) (h.choices ++ []) 0 (subst (λ (x : Result Way). IsStuck (on_go x (λ v. stop))) (sym (h.comes [] 0)) tt)
  not_stuck (Ends (Fallen (suc l) r) p) h = tt

  sized : (i : ℕ) (x : CodeObject) → slice_get c.objects i ≡ Some x → SameLength ((types_of c).objects (1 + i)) (constants x.start)
  sized i x e =
      subst (λ k. SameLength ((types_of c).objects k) (constants x.start)) one_more
      (subst (λ (y : Option CodeObject). SameLength (object_cells y) (constants x.start)) (sym e) (same_length (types_of c).objects x.cells x.start (w.objects (suc i) x e).fits))
    where
      one_more : suc i ≡ 1 + i
      one_more = omega arith

  pub begins : Begins m s g (first_walk c) (Standing no_temps p0)
  begins = record { stands = (refl, first_sized m s g c.objects 1 sized, first_reads m s g c.objects); temps = λ n. refl }

  pub temps_hold : TempsHold (types_of c).objects f empty_scope no_temps
  temps_hold = record { sets = λ n x e. cc; types = λ n. tt }

  pub stored : StoreHolds (types_of c).objects f (first_store c)
  stored = start_holds (types_of c).objects f (small_objects c w) (λ n o e. has_cell (at_number c.objects o) (z.over.objects n o e)) c.objects (λ n. refl) (λ n o e. (w.objects n o e, z.closed.objects n o e))

  module _ (ok : Solves m s 0 (ssa c f (suc k0) kind false).steps) (goal : Goal) (ev : HasEvent s goal (ssa c f (suc k0) kind false).events) where
    abbrev u : Supply
    u = supply_of s (ssa c f (suc k0) kind false).given

    reached : (e : Come Way) → Shows m s g (ssa c f (suc k0) kind false) (allow (outs_of s []) e) → Chosen (Rattle.l2_code.specs.Machine.nodes (machine_of the_run) true c.body no_temps) p0 e → IsReached c f (suc k0) row lower kind goal
    reached (Goes (On t) p) h ch = absurd (no_event m s g goal _ h.events ev)
    reached (Goes (Out n) p) h ch = absurd (no_event m s g goal _ h.events ev)
    reached (Ends e p) h ch =
        (ch.choices, λ rest turns. subst (λ (x : Result Way). EndsAt (end_of g goal) (on_go x (λ v. stop))) (sym (ch.comes rest turns)) (event_if m s g (is_shown g e) goal e _ h.events ev))

    pub solution_runs : IsReached c f (suc k0) row lower kind goal
    solution_runs =
        reached (come u)
        (nodes_shows row lower s g (length c.checks) (length c.loops) (small_objects c w) there refl k0 refl (limits_hold c f w z (Cut (suc k0) (starts row g))) c.body [] walks.T 0 (first_walk c) no_temps p0 u empty_scope
        w.typed z.closed.actions begins temps_hold stored ok (match_own s (types_of c).objects (ssa c f (suc k0) kind false).given (nodes_given m s g c.body [] walks.T 0 (first_walk c) ok))
        (not_stuck (come u) ((nodes_agree the_run true c.body no_temps).by_supply p0 u)))
        ((nodes_agree the_run true c.body no_temps).by_supply p0 u)

pub solutions_run : SolutionsRun
solutions_run c f w z zero some kind row lower s ok goal ev = absurd (omega arith)
solutions_run c f w z (suc k0) some kind row lower s ok goal ev = solution_runs c f w z k0 kind row lower s ok goal ev

-- ---- the converse

fail_shown : (c : CodeTree) (f : Family) (k : ℕ) (kind : ℕ → Kind) (x : End) → IsFailure x → is_shown (setting_of c f k kind false) x ≡ true
fail_shown c f k kind (Over Ended) h = absurd h
fail_shown c f k kind (Over Stopped) h = absurd h
fail_shown c f k kind (Over (Broken i)) h = refl
fail_shown c f k kind (Over OutOfChoices) h = absurd h
fail_shown c f k kind (Over OutOfTurns) h = absurd h
fail_shown c f k kind (Fallen l r) h = refl

fail_goes_on : (x : End) (p : Place) → IsFailure x → Halted {A = Way} (Ends x p) → ⊥
fail_goes_on (Over Ended) p h k = k
fail_goes_on (Over Stopped) p h k = h
fail_goes_on (Over (Broken i)) p h k = k
fail_goes_on (Over OutOfChoices) p h k = k
fail_goes_on (Over OutOfTurns) p h k = k
fail_goes_on (Fallen l r) p h k = k

one_end : (m : Meaning) (s : Names) (g : Setting) (x : End) (es : List Event) → OneTrue m s g x es → HasEnd s g x es
one_end m s g x [] h = h
one_end m s g x (e ∷ es) (inl h) = inl (h.0, h.1)
one_end m s g x (e ∷ es) (inr h) = inr (one_end m s g x es h.1)

module _ (c : CodeTree) (f : Family) (w : IsWellFormed c) (z : IsResolved c f) (k0 : ℕ) (kind : ℕ → Kind) (no_plain : (l : ℕ) → kind l ≡ walks.Plain → ⊥) (row : RowsOf) (lower : RanksOf) (x : End) (fails : IsFailure x) where
  abbrev gg : Setting
  gg = setting_of c f (suc k0) kind false

  abbrev rr : Rattle.l2_supply.specs.Going.Setting
  rr = record { heads = Rattle.l2_supply.specs.Going.Cut (suc k0) (starts row gg); tests = tests row lower gg; types = types_of c; sets = f.object; mods = gg.mods }

  abbrev pp : Place
  pp = record { store = first_store c; arrivals = 0 }

  abbrev comes : Supply → Come Way
  comes u = nodes_with rr true c.body no_temps u pp

  record Found : Type 0 where
    supply : Supply
    place : Place
    is : comes supply ≡ Ends x place

  find : (r : Result Way) → IsSupplied (λ u. comes u) r → EndsAt x (on_go r (λ v. stop)) → Found
  find (Go a st) h e = absurd (subst IsFailure (sym e) fails)
  find (Halt y st) h e =
      let d = h (subst IsFailure (sym e) fails) in
      record { supply = d.0; place = place_of st; is = d.1 ∙ ap (λ i. Ends i (place_of st)) e }

  entered_is : (u : Supply) (p : Place) → comes u ≡ Ends x p → Same (comes u) (comes (enter (ssa c f (suc k0) kind false).given u)) → comes (enter (ssa c f (suc k0) kind false).given u) ≡ Ends x p
  entered_is u p e (inl q) = sym q ∙ e
  entered_is u p e (inr h) = absurd (fail_goes_on x p fails (subst (λ (y : Come Way). Halted y) e h))

  shown : (s : Names) (u : Supply) (p : Place) → comes u ≡ Ends x p → Solves (record { types = types_of c; row = row; lower = lower }) s 0 (ssa c f (suc k0) kind false).steps → Matches (types_of c).objects s (ssa c f (suc k0) kind false).given u → HasEnd s gg x (ssa c f (suc k0) kind false).events
  shown s u p e ok mt =
      let sh = nodes_shows row lower s gg (length c.checks) (length c.loops) (small_objects c w) (there c f w z k0 kind row lower s) refl k0 refl (limits_hold c f w z (Cut (suc k0) (starts row gg))) c.body [] walks.T 0 (first_walk c) no_temps pp u empty_scope
      w.typed z.closed.actions (begins c f w z k0 kind row lower s) (temps_hold c f w z k0 kind row lower s) (stored c f w z k0 kind row lower s) ok mt
      (not_stuck c f w z k0 kind row lower s (comes u) ((nodes_agree rr true c.body no_temps).by_supply pp u)) in
      let ends = subst (λ y. Shows (record { types = types_of c; row = row; lower = lower }) s gg (ssa c f (suc k0) kind false) (allow (outs_of s []) y)) e sh in
      one_end (record { types = types_of c; row = row; lower = lower }) s gg x (ssa c f (suc k0) kind false).events
      (subst (λ b. OneIf (record { types = types_of c; row = row; lower = lower }) s gg b x (ssa c f (suc k0) kind false).events) (fail_shown c f (suc k0) kind x fails) ends.events)

  solve : (choices : List ℤ) (turns : ℕ) → EndsAt x (run_code c (limit_of c f (Cut (suc k0) (starts row gg))) (tests row lower gg) (start c choices turns))
      → (u : Supply) × ((s : Names) → Solves (record { types = types_of c; row = row; lower = lower }) s 0 (ssa c f (suc k0) kind false).steps → Matches (types_of c).objects s (ssa c f (suc k0) kind false).given u → HasEnd s gg x (ssa c f (suc k0) kind false).events)
  solve choices turns e =
      let d = find (Rattle.l2_code.specs.Machine.nodes (machine_of rr) true c.body no_temps (start c choices turns)) ((nodes_agree rr true c.body no_temps).by_choices (start c choices turns)) e in
      let given = (ssa c f (suc k0) kind false).given in (
        enter given d.supply,
        λ s ok mt. shown s (enter given d.supply) d.place
            (entered_is d.supply d.place d.is (nodes_enter gg row (tests row lower gg) k0 refl no_plain c.body [] walks.T 0 (first_walk c) true no_temps d.supply pp)) ok mt,
      )

pub runs_solve : RunsSolve
runs_solve c f w z zero some kind no_plain row lower choices turns x fails e = absurd (omega arith)
runs_solve c f w z (suc k0) some kind no_plain row lower choices turns x fails e = solve c f w z k0 kind no_plain row lower x fails choices turns e
