-- The code of a program does what the program does.
use Rattle.std.proofs.Common.{◌≡◌, ℕ, zero, suc, Bool, true, false, List, [], ◌∷◌, Option, Some, length, take, drop, map, refl, sym, ap, subst}
use Rattle.std.specs.Prelude.{slice_get, if◌then◌else◌}
use Rattle.l2_syntax.specs.declared.token.Name.{Name}
use Rattle.l2_runs.specs.declared.cells.CellType.{CellType}
use Rattle.l2_runs.specs.declared.outcome.Outcome.{Outcome}
use Rattle.l2_runs.specs.declared.outcome.Outcome.TheVariants.{Ended}
use Rattle.l2_runs.specs.Numbers.{at_number}
use Rattle.l2_runs.specs.Fits.{Layout, StoreFits}
use Rattle.l2_runs.specs.Runs.{State, End, Over, Result, Go, Halt, Run, on_go, and_then, done, over, stop}
use Rattle.l2_runs.specs.Loops.{Limit, Tests}
use Rattle.l2_program.specs.declared.program.ObjectInfo.{ObjectInfo}
use Rattle.l2_program.specs.declared.program.StaticValue.{StaticValue}
use Rattle.l2_program.specs.Names.{loops_in}
use Rattle.l2_program.specs.Programs.{ProgramTree, FunctionTree}
use Rattle.l2_meaning.specs.Meaning.{Calls, Setting, Ending, Next, Broke, Continued, Returned, Jumping, act}
use Rattle.l2_meaning.specs.Execution.{known_cells, cells_of, calls_of, setting_of, declare_all, enter, run_program, main_among, value_in, first_cell}
use Rattle.l2_meaning.specs.Lawful.{IsLawful, IsIn, IsTypedStatement}
use Rattle.l2_code.specs.declared.action.Action.TheVariants.{End as EndOf}
use Rattle.l2_code.specs.Trees.{Nodes, join}
use Rattle.l2_code.specs.Values.{Types, Temps, no_temps}
use Rattle.l2_code.specs.Machine.{Way, On, Out, follow, nodes}
use Rattle.l2_code.specs.Machine as machine
use Rattle.l2_code.specs.Modes.{object_cells, pointed_cells, types_of, run_code}
use Rattle.l2_lower.specs.Alike.{Agree}
use Rattle.l2_lower.specs.Emitting.{only}
use Rattle.l2_lower.specs.Statements.{declaration, deads, statement}
use Rattle.l2_lower.specs.Code.{code_object, code_objects, declarations, main_code, code}
use Rattle.l2_lower.proofs.Matches.{Match, Matches, done_matches}
use Rattle.l2_lower.proofs.MatchLoops.{AreFine, StartsAlike}
use Rattle.l2_lower.proofs.Joins.{join_matches, assoc_at}
use Rattle.l2_lower.proofs.StatementRuns.{Leads, GoesOn, code_at, tree_at, declared_does, ends_do, statement_does}

-- ---- the types of a program's code

code_cells : (names : List Name) (values : List StaticValue) (os : List ObjectInfo) (i : ℕ) → object_cells (slice_get (code_objects names values os) i) ≡ known_cells (slice_get os i)
code_cells names values [] i = refl
code_cells names values (o ∷ os) i = go o.is_static i (λ vs j. code_cells names vs os j) where
  go : (x : Bool) (i : ℕ) → ((vs : List StaticValue) (j : ℕ) → object_cells (slice_get (code_objects names vs os) j) ≡ known_cells (slice_get os j)) →
      object_cells (slice_get (if x then code_object names o (map value_in (take (length o.cells) values)) ∷ code_objects names (drop (length o.cells) values) os else (code_object names o (map first_cell o.cells) ∷ code_objects names values os)) i) ≡ known_cells (slice_get (o ∷ os) i)
  go true zero rest = refl
  go true (suc i) rest = rest (drop (length o.cells) values) i
  go false zero rest = refl
  go false (suc i) rest = rest values i

pub program_types : (p : ProgramTree) → types_of (code p) ≡ (record { objects = cells_of p; pointed = λ n. pointed_cells (at_number [] n) })
program_types p = λ i. record { objects = λ n. at n i; pointed = λ n. pointed_cells (at_number [] n) } where
  at : (n : ℕ) → object_cells (at_number (code p).objects n) ≡ cells_of p n
  at zero = refl
  at (suc n) = code_cells p.names p.static_values p.objects n

-- ---- whole runs

-- neither side is left before it is over
abbrev Never : {A B : Type 0} → A → B → Type 0
Never a b = ⊥

module _ (cells : Layout) (Fine : End → Type 0) where
  -- over, and to an end that is fine
  abbrev pub EndsFine : Result (Unit {0}) → Type 0
  EndsFine (Go u s) = ⊥
  EndsFine (Halt e s) = Fine e

  -- a program that comes to its end has ended
  ends_alike : {A : Type 0} (x : Result A) (y : Result Way) → Match cells Fine {B = Way} (Never {A = Unit {0}}) (on_go x (λ a. over (Over Ended))) y → Agree (on_go {B = Unit {0}} x (λ a. done tt)) (on_go {B = Unit {0}} y (λ w. stop)) × EndsFine (on_go {B = Unit {0}} y (λ w. stop))
  ends_alike (Go a s) (Go w t) h = absurd h
  ends_alike (Go a s) (Halt f t) (e, alike, p) = (record { end = e; states = alike }, subst Fine e p)
  ends_alike (Halt e s) (Go w t) h = absurd h
  ends_alike (Halt e s) (Halt f t) (q, alike, p) = (record { end = q; states = alike }, subst Fine q p)

  module _ (pointed : ℕ → List CellType) (fine : (o : Outcome) → Fine (Over o)) (limit : Limit) (tests : Tests) (calls : Calls) (result : List CellType) (back : StartsAlike cells Fine limit) where
    abbrev code_here : machine.Setting
    code_here = code_at cells pointed Fine fine limit tests calls

    abbrev tree_here : Setting
    tree_here = tree_at cells pointed Fine fine limit tests calls

    behind_declared : {A : Type 0} {T : A → Way → Type 0} (ys : Nodes) (r : Run A) → ((t : Temps) → Matches cells Fine T r (nodes code_here true ys t)) → (u : Unit {0}) (w : Way) → GoesOn u w → Matches cells Fine T r (follow (nodes code_here true ys) w)
    behind_declared ys r h u (On t) p = record { by = λ s k. (h t).by s k }
    behind_declared ys r h u (Out n) p = absurd p

    all_declared : (os : List ℕ) (n : ℕ) (t : Temps) → Matches cells Fine GoesOn (declare_all tree_here os) (nodes code_here true (declarations cells n os).nodes t)
    all_declared [] n t = done_matches cells Fine tt (On t) tt
    all_declared (o ∷ os) n t =
        let d = declaration cells n o in
        join_matches code_here true cells Fine d.nodes (declarations cells d.next os).nodes t _ _ (declared_does cells pointed Fine fine limit tests calls true o n t)
        (behind_declared (declarations cells d.next os).nodes (declare_all tree_here os) (λ u. all_declared os d.next u))

    after_body : (os : List ℕ) (e : Ending) (w : Way) → Leads e w → Matches cells Fine {A = Unit {0}} Never (over (Over Ended)) (follow (nodes code_here true (join (deads os) (only EndOf))) w)
    after_body os Next (On t) p = record { by = λ s k. (ends_do cells pointed Fine fine limit tests calls true {A = Unit {0}} {T = Never} os t).by s k }
    after_body os Next (Out n) p = absurd p
    after_body os Broke w p = absurd p
    after_body os Continued w p = absurd p
    after_body os (Returned v) w p = absurd p
    after_body os (Jumping l) w p = absurd p

    pub main_does : (f : FunctionTree) → IsTypedStatement cells result f.body → ((l : ℕ) → IsIn l (loops_in f.body) → AreFine cells Fine l) →
        Matches cells Fine {A = Unit {0}} Never (and_then (and_then (declare_all tree_here f.parameters) (λ u. act tree_here true f.body)) (λ e. over (Over Ended))) (nodes code_here true (main_code cells 1 (Some f)).nodes no_temps)
    main_does f h ok =
        let d = declarations cells 1 f.parameters in
        let s = statement cells f.parameters d.next f.body in
        let last = join (deads f.parameters) (only EndOf) in
        subst (λ (r : Run (Unit {0})). Matches cells Fine {A = Unit {0}} Never r (nodes code_here true (main_code cells 1 (Some f)).nodes no_temps)) (sym (λ i s. assoc_at (declare_all tree_here f.parameters s) (λ u. act tree_here true f.body) (λ e. over (Over Ended)) i))
        (join_matches code_here true cells Fine d.nodes (join s.nodes last) no_temps (declare_all tree_here f.parameters) _ (all_declared f.parameters 1 no_temps)
        (behind_declared (join s.nodes last) (and_then (act tree_here true f.body) (λ e. over (Over Ended)))
        (λ t. join_matches code_here true cells Fine s.nodes last t (act tree_here true f.body) _ (statement_does cells pointed Fine fine limit tests calls result back f.body h ok true f.parameters d.next t) (after_body f.parameters))))

-- ---- lawful programs

module _ (Fine : End → Type 0) (fine : (o : Outcome) → Fine (Over o)) (p : ProgramTree) (lawful : IsLawful p) (limit : Limit) (tests : Tests) (back : StartsAlike (cells_of p) Fine limit) (ok : (l : ℕ) → IsIn l (loops_in lawful.main_function.body) → AreFine (cells_of p) Fine l) where
  -- the run of the code, over the program's own types
  abbrev plain_run : Option FunctionTree → Run (Unit {0})
  plain_run f = and_then (nodes (record { limit = limit; tests = tests; types = record { objects = cells_of p; pointed = λ n. pointed_cells (at_number [] n) } }) true (main_code (cells_of p) 1 f).nodes no_temps) (λ w. stop)

  run_is : run_code (code p) limit tests ≡ plain_run (main_among p.names p.functions)
  run_is = ap (λ (types : Types). and_then {B = Unit {0}} (nodes (record { limit = limit; tests = tests; types = types }) true (code p).body no_temps) (λ w. stop)) (program_types p)

  abbrev Ends : Result (Unit {0}) → Result (Unit {0}) → Type 0
  Ends x y = Agree x y × EndsFine (cells_of p) Fine y

  main_agrees : (s : State) → StoreFits (cells_of p) s.store → Ends (enter (setting_of p limit tests) (Some lawful.main_function) s) (plain_run (Some lawful.main_function) s)
  main_agrees s k =
      let f = lawful.main_function in
      let g = setting_of p limit tests in
      let main = lawful.functions lawful.main f lawful.has_main in
      let m = main_does (cells_of p) Fine (λ n. pointed_cells (at_number [] n)) fine limit tests (calls_of p limit tests (length p.functions)) f.result back f main.typed ok in
      subst (λ (x : Result (Unit {0})). Ends x (plain_run (Some f) s)) (assoc_at (declare_all g f.parameters s) (λ u. act g true f.body) (λ e. done tt))
      (ends_alike (cells_of p) Fine (and_then (declare_all g f.parameters) (λ u. act g true f.body) s) _ (m.by s k))

  pub run_agrees : (s : State) → StoreFits (cells_of p) s.store → Agree (run_program p limit tests s) (run_code (code p) limit tests s) × EndsFine (cells_of p) Fine (run_code (code p) limit tests s)
  run_agrees s k =
      subst (λ (q : Run (Unit {0})). Ends (run_program p limit tests s) (q s)) (sym run_is)
      (subst (λ (f : Option FunctionTree). Ends (enter (setting_of p limit tests) f s) (plain_run f s)) (sym lawful.is_main) (main_agrees s k))
