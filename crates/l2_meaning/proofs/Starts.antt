-- Executions of lawful programs keep the types of cells from the start on.
use Rattle.std.proofs.Common.{◌≡◌, ℕ, zero, suc, ℤ, Bool, true, false, List, [], ◌∷◌, Option, Some, length, take, drop, map, subst, sym, if◌then◌else◌}
use Rattle.std.specs.Prelude.{slice_get, ◌==◌}
use Rattle.l2_runs.specs.declared.cells.CellType.{CellType}
use Rattle.l2_runs.specs.declared.cells.CellType.TheVariants.{Integer, Pointer}
use Rattle.l2_runs.specs.declared.outcome.Outcome.TheVariants.{Broken}
use Rattle.l2_runs.specs.Numbers.{at_number}
use Rattle.l2_runs.specs.Store.{or_nothing, object_at}
use Rattle.l2_runs.specs.Fits.{Layout, CellsFit, StoreFits}
use Rattle.l2_runs.specs.Runs.{State, Over, Result, Go, Halt}
use Rattle.l2_runs.specs.Loops.{Limit, Tests}
use Rattle.l2_runs.specs.Keeps.{EndFits, ResultFits, Keeps, Anything, LimitKeeps}
use Rattle.l2_runs.proofs.Keeping.{then_keep, done_keep}
use Rattle.l2_program.specs.declared.program.ObjectInfo.{ObjectInfo}
use Rattle.l2_program.specs.declared.program.StaticValue.{StaticValue}
use Rattle.l2_program.specs.Programs.{ProgramTree, FunctionTree}
use Rattle.l2_meaning.specs.Meaning.{Calls}
use Rattle.l2_meaning.specs.Execution.{first_cell, value_in, static_object, dead_object, first_objects, first_store, known_cells, cells_of, calls_of, setting_of, declare_all, enter, run_program, report, exec}
use Rattle.l2_meaning.specs.Lawful.{Listing, HoldStart, HoldObject, HoldStatics, IsLawful, IsSome, IsCheckOf, IsTypedStatement, StatementHasChecks}
use Rattle.l2_meaning.proofs.Numbers.{zero_value}
use Rattle.l2_meaning.proofs.Typed.{here, declare_keep, act_keep}

module _ (layout : Layout) where
  dead_fits : (types : List CellType) → CellsFit layout types (map first_cell types)
  dead_fits [] = tt
  dead_fits (Integer ty ∷ types) = (zero_value ty, dead_fits types)
  dead_fits (Pointer ∷ types) = (tt, dead_fits types)

  held_fits : (n f : ℕ) (types : List CellType) (values : List StaticValue) (Rest : List StaticValue → Type 0) → HoldStart layout n f types values Rest →
      CellsFit layout types (map value_in (take (length types) values)) × Rest (drop (length types) values)
  held_fits n f [] values Rest h = (tt, h)
  held_fits n f (t ∷ types) [] Rest h = absurd h
  held_fits n f (t ∷ types) (s ∷ values) Rest (o, i, p, g, q) = let r = held_fits n (suc f) types values Rest q in ((p, r.0), r.1)

  start_fits : (n : ℕ) (os : List ObjectInfo) (values : List StaticValue) → HoldStatics layout n os values → (i : ℕ) →
      CellsFit layout (known_cells (slice_get os i)) (or_nothing (slice_get (first_objects values os) i)).cells
  start_fits n [] values h i = tt
  start_fits n (o ∷ os) values h i = go o.is_static h i (λ vs k j. start_fits (suc n) os vs k j) where
    go : (b : Bool) → HoldObject b layout n o.cells values (HoldStatics layout (suc n) os) → (i : ℕ) →
        ((vs : List StaticValue) → HoldStatics layout (suc n) os vs → (j : ℕ) → CellsFit layout (known_cells (slice_get os j)) (or_nothing (slice_get (first_objects vs os) j)).cells) →
        CellsFit layout (known_cells (slice_get (o ∷ os) i)) (or_nothing (slice_get (if b then static_object o values ∷ first_objects (drop (length o.cells) values) os else (dead_object o ∷ first_objects values os)) i)).cells
    go true h zero rest = (held_fits n 0 o.cells values (HoldStatics layout (suc n) os) h).0
    go true h (suc i) rest = rest (drop (length o.cells) values) (held_fits n 0 o.cells values (HoldStatics layout (suc n) os) h).1 i
    go false h zero rest = dead_fits o.cells
    go false h (suc i) rest = rest values h i

pub first_fits : (p : ProgramTree) → IsLawful p → StoreFits (cells_of p) (first_store p)
first_fits p h = record { cells = at } where
  at : (n : ℕ) → CellsFit (cells_of p) (cells_of p n) (object_at (first_store p) n).cells
  at zero = tt
  at (suc i) = start_fits (cells_of p) 1 p.objects p.static_values h.statics i

module _ (cells : Layout) (g : Listing) (limit : Limit) (tests : Tests) (calls : Calls) (back : LimitKeeps cells (λ c. IsSome (at_number g.checks c)) limit) where
  declare_all_keep : (ns : List ℕ) → Keeps cells (λ c. IsSome (at_number g.checks c)) Anything (declare_all (here cells g limit tests true calls) ns)
  declare_all_keep [] = done_keep cells (λ c. IsSome (at_number g.checks c)) tt tt
  declare_all_keep (n ∷ ns) = then_keep cells (λ c. IsSome (at_number g.checks c)) (declare_keep cells g limit tests true calls n) (λ u w. declare_all_keep ns)

  enter_keep : (f : FunctionTree) → IsTypedStatement cells f.result f.body → StatementHasChecks g f.body → Keeps cells (λ c. IsSome (at_number g.checks c)) Anything (enter (here cells g limit tests true calls) (Some f))
  enter_keep f h c =
      then_keep cells (λ c. IsSome (at_number g.checks c)) (declare_all_keep f.parameters)
      (λ u w. then_keep cells (λ c. IsSome (at_number g.checks c)) (act_keep cells g limit tests true calls f.result back true f.body h c) (λ e k. done_keep cells (λ c. IsSome (at_number g.checks c)) tt tt))

pub run_keep : (p : ProgramTree) → IsLawful p → (limit : Limit) (tests : Tests) → LimitKeeps (cells_of p) (IsCheckOf p) limit → Keeps (cells_of p) (IsCheckOf p) Anything (run_program p limit tests)
run_keep p h limit tests back =
    let main = h.functions h.main h.main_function h.has_main in
    subst (λ (f : Option FunctionTree). Keeps (cells_of p) (IsCheckOf p) Anything (enter (setting_of p limit tests) f)) (sym h.is_main)
    (enter_keep (cells_of p) (record { checks = p.checks; is_reached = h.main == h.main; overflow = h.overflow }) limit tests (calls_of p limit tests (length p.functions)) back h.main_function main.typed main.checks)

pub run_law : (p : ProgramTree) → IsLawful p → (limit : Limit) (tests : Tests) → LimitKeeps (cells_of p) (IsCheckOf p) limit → (s : State) → StoreFits (cells_of p) s.store → ResultFits (cells_of p) (IsCheckOf p) Anything (run_program p limit tests s)
run_law p h limit tests back s k = (run_keep p h limit tests back).by s k

broken_listed : (layout : Layout) (IsCheck : ℕ → Type 0) (choices : List ℤ) (turns c : ℕ) (x : Result (Unit {0})) → ResultFits layout IsCheck Anything x → (report choices turns x).end ≡ Over (Broken c) → IsCheck c
broken_listed layout IsCheck choices turns c (Go u s) h e = cc
broken_listed layout IsCheck choices turns c (Halt end s) (h, k) e = subst (EndFits IsCheck) e h

pub broken_law : (p : ProgramTree) → IsLawful p → (limit : Limit) (tests : Tests) → LimitKeeps (cells_of p) (IsCheckOf p) limit → (choices : List ℤ) (turns c : ℕ) → (exec p limit tests choices turns).end ≡ Over (Broken c) → IsSome (at_number p.checks c)
broken_law p h limit tests back choices turns c e =
    broken_listed (cells_of p) (IsCheckOf p) choices turns c (run_program p limit tests (record { store = first_store p; choices = choices; turns = turns; arrivals = 0 }))
    ((run_keep p h limit tests back).by (record { store = first_store p; choices = choices; turns = turns; arrivals = 0 }) (first_fits p h)) e
