-- Executions of a program and of its code are the same.
use Rattle.std.proofs.Common.{◌≡◌, ℕ, ◌-◌, ◌+◌, ℤ, Bool, true, false, List, [], ◌∷◌, length, take, drop, map, refl, sym, ap, ◌∙◌}
use Rattle.std.specs.Prelude.{if◌then◌else◌, ◌||◌}
use Rattle.l2_syntax.specs.declared.token.Name.{Name}
use Rattle.l2_runs.specs.declared.outcome.Outcome.TheVariants.{Ended, Stopped, Broken, OutOfChoices, OutOfTurns}
use Rattle.l2_runs.specs.Fits.{Layout, StoreFits}
use Rattle.l2_runs.specs.Runs.{State, End, Over, Fallen, Result, Go, Halt}
use Rattle.l2_runs.specs.Loops.{Limit, Real, Short, Cut, Tests}
use Rattle.l2_runs.specs.Keeps.{ResultFits, Anything, LimitKeeps}
use Rattle.l2_program.specs.declared.program.ObjectInfo.{ObjectInfo}
use Rattle.l2_program.specs.declared.program.StaticValue.{StaticValue}
use Rattle.l2_program.specs.Programs.{ProgramTree}
use Rattle.l2_meaning.specs.Execution.{Execution, report, exec, first_objects, static_object, dead_object, value_in, first_cell, cells_of, run_program}
use Rattle.l2_meaning.specs.Execution as meaning
use Rattle.l2_meaning.specs.Lawful.{IsLawful, IsCheckOf}
use Rattle.l2_meaning.proofs.Starts as starts
use Rattle.l2_code.specs.Modes.{first_object, first_store, run_code}
use Rattle.l2_lower.specs.Alike.{AreUsedAlike, AreAlike, Agree, end_of, state_of, exec_code}
use Rattle.l2_lower.specs.Code.{code_object, code_objects, code}
use Rattle.l2_lower.proofs.Matches.{AnyTwo, Match, same_alike}
use Rattle.l2_lower.proofs.MatchLoops.{StartsAlike}
use Rattle.l2_lower.proofs.ProgramRuns.{run_agrees}

-- ---- the start

objects_start : (names : List Name) (values : List StaticValue) (os : List ObjectInfo) → map first_object (code_objects names values os) ≡ first_objects values os
objects_start names values [] = refl
objects_start names values (o ∷ os) = go o.is_static refl (λ vs. objects_start names vs os) where
  go : (x : Bool) → o.is_static ≡ x → ((vs : List StaticValue) → map first_object (code_objects names vs os) ≡ first_objects vs os) →
      map first_object (if x then code_object names o (map value_in (take (length o.cells) values)) ∷ code_objects names (drop (length o.cells) values) os else (code_object names o (map first_cell o.cells) ∷ code_objects names values os))
      ≡ (if x then static_object o values ∷ first_objects (drop (length o.cells) values) os else (dead_object o ∷ first_objects values os))
  go true e rest = λ i. record { cells = map value_in (take (length o.cells) values); live = e i || false } ∷ rest (drop (length o.cells) values) i
  go false e rest = λ i. record { cells = map first_cell o.cells; live = e i || false } ∷ rest values i

pub start_same : (p : ProgramTree) → first_store (code p) ≡ meaning.first_store p
start_same p = objects_start p.names p.static_values p.objects

-- ---- every end

abbrev AnyEnd : End → Type 0
AnyEnd e = Unit {0}

kept_match : (layout : Layout) (IsCheck : ℕ → Type 0) (x : Result (Unit {0})) → ResultFits layout IsCheck Anything x → Match layout AnyEnd AnyTwo x x
kept_match layout IsCheck (Go u s) (p, k) = (tt, refl, k)
kept_match layout IsCheck (Halt e s) h = (refl, same_alike e s, tt)

kept_starts : (layout : Layout) (IsCheck : ℕ → Type 0) (limit : Limit) → LimitKeeps layout IsCheck limit → StartsAlike layout AnyEnd limit
kept_starts layout IsCheck Real h = tt
kept_starts layout IsCheck (Short k) h = tt
kept_starts layout IsCheck (Cut k back) h = λ l. record { by = λ s k. kept_match layout IsCheck (back l s) ((h l).by s k) }

pub run_law : (p : ProgramTree) → IsLawful p → (limit : Limit) (tests : Tests) → LimitKeeps (cells_of p) (IsCheckOf p) limit → (s : State) → StoreFits (cells_of p) s.store → Agree (run_program p limit tests s) (run_code (code p) limit tests s)
run_law p h limit tests back s k = (run_agrees AnyEnd (λ o. tt) p h limit tests (kept_starts (cells_of p) (IsCheckOf p) limit back) (λ l q. record { over = λ o. tt; fallen = λ row. tt }) s k).0

-- ---- executions

used : (e : End) (s t : State) → AreAlike e s t → AreUsedAlike s t
used (Over Ended) s t h = h
used (Over Stopped) s t h = record { choices = ap (λ x. x.choices) h; turns = ap (λ x. x.turns) h; arrivals = ap (λ x. x.arrivals) h }
used (Over (Broken c)) s t h = record { choices = ap (λ x. x.choices) h; turns = ap (λ x. x.turns) h; arrivals = ap (λ x. x.arrivals) h }
used (Over OutOfChoices) s t h = record { choices = ap (λ x. x.choices) h; turns = ap (λ x. x.turns) h; arrivals = ap (λ x. x.arrivals) h }
used (Over OutOfTurns) s t h = record { choices = ap (λ x. x.choices) h; turns = ap (λ x. x.turns) h; arrivals = ap (λ x. x.arrivals) h }
used (Fallen l row) s t h = record { choices = ap (λ x. x.choices) h; turns = ap (λ x. x.turns) h; arrivals = ap (λ x. x.arrivals) h }

report_is : (choices : List ℤ) (turns : ℕ) (x : Result (Unit {0})) → report choices turns x ≡ (record { end = end_of x; choices_used = length choices - length (state_of x).choices; turns_used = turns - (state_of x).turns + (state_of x).arrivals })
report_is choices turns (Go u s) = refl
report_is choices turns (Halt e s) = refl

same_report : (choices : List ℤ) (turns : ℕ) (x y : Result (Unit {0})) → Agree x y → report choices turns x ≡ report choices turns y
same_report choices turns x y h =
    let u = used (end_of x) (state_of x) (state_of y) h.states in
    report_is choices turns x
    ∙ (λ i. record { end = h.end i; choices_used = length choices - length (u.choices i); turns_used = turns - u.turns i + u.arrivals i })
    ∙ sym (report_is choices turns y)

pub exec_law : (p : ProgramTree) → IsLawful p → (limit : Limit) (tests : Tests) → LimitKeeps (cells_of p) (IsCheckOf p) limit → (choices : List ℤ) (turns : ℕ) → exec p limit tests choices turns ≡ exec_code (code p) limit tests choices turns
exec_law p h limit tests back choices turns =
    let s : State = record { store = meaning.first_store p; choices = choices; turns = turns; arrivals = 0 } in
    same_report choices turns (run_program p limit tests s) (run_code (code p) limit tests s) (run_law p h limit tests back s (starts.first_fits p h))
    ∙ (λ i. report choices turns (run_code (code p) limit tests (record { store = sym (start_same p) i; choices = choices; turns = turns; arrivals = 0 })))
