-- A short run of a tree that isn't stopped is a real run of as many turns as it arrived at heads.
use Rattle.std.proofs.Common.{◌≡◌, ◌+◌, ◌-◌, ℕ, zero, suc, ℤ, Bool, true, List, [], ◌∷◌, length, Option, Some, None, refl, sym, ap, ◌∙◌, arith}
use Rattle.std.specs.Prelude.{not}
use Rattle.l2_runs.specs.declared.cells.CellType.{CellType}
use Rattle.l2_runs.specs.declared.cells.CellType.TheVariants.{Integer, Pointer}
use Rattle.l2_runs.specs.declared.cells.CellValue.{CellValue}
use Rattle.l2_runs.specs.declared.outcome.Outcome.TheVariants.{Ended, Broken}
use Rattle.l2_runs.specs.Fits.{Layout}
use Rattle.l2_runs.specs.Runs.{Over, Result, Go, Halt, Run, and_then, done, bury_all}
use Rattle.l2_runs.specs.Loops.{Real, Short, no_tests}
use Rattle.l2_runs.specs.Operators.{unary_overflows, binary_overflows}
use Rattle.l2_run_laws.proofs.CutRuns.{EndsIn}
use Rattle.l2_run_laws.proofs.ShortRuns.{plus, Shorted, Shorts, then_shorts, done_shorts, over_shorts, choose_shorts, read_shorts, write_shorts, enliven_shorts, bury_shorts, check_shorts, same_runs, either_shorts, loop_shorts}
use Rattle.l2_program.specs.Checked.{Object, TypedTree, Constant, Choice, Read, Unary, Binary, Convert, Assign, Assert, CheckedTree, Block, Declare, Static, Initialise, Label, Evaluate, If, IfElse, While, Return, CheckedTrees, none, more}
use Rattle.l2_program.specs.Programs.{ProgramTree, FunctionTree}
use Rattle.l2_meaning.specs.Meaning.{Ending, Next, Broke, Continued, Returned, Jumping, Calls, Setting, number_of, holds, write_cells, first_of, fresh, fill, declare, value, declared, past, or_rest, to_turn, while_turn, tree_loop, act, act_all}
use Rattle.l2_meaning.specs.Execution.{cells_of, calls_of, declare_all, enter, run_program, main_among, Execution, report, exec}
use Rattle.l2_cut_laws.proofs.Following.{start, ends_in}

module _ (k : ℕ) (is_main : Bool) (cells : Layout) (c d : Calls) where
  abbrev short : Setting
  short = record { limit = Short k; tests = no_tests; is_main = is_main; cells = cells; calls = c }

  abbrev real : Setting
  real = record { limit = Real; tests = no_tests; is_main = is_main; cells = cells; calls = d }

  write_cells_short : (n f : ℕ) (vs : List CellValue) → Shorts (write_cells n f vs) (write_cells n f vs)
  write_cells_short n f [] = done_shorts tt
  write_cells_short n f (v ∷ vs) = then_shorts (write_shorts (record { object = n; offset = f }) v) (λ u. write_cells_short n (suc f) vs)

  fresh_short : (t : CellType) → Shorts (fresh t) (fresh t)
  fresh_short (Integer ty) = then_shorts choose_shorts (λ c. done_shorts _)
  fresh_short Pointer = done_shorts _

  fill_short : (n f : ℕ) (types : List CellType) → Shorts (fill n f types) (fill n f types)
  fill_short n f [] = done_shorts tt
  fill_short n f (t ∷ types) = then_shorts (fresh_short t) (λ v. then_shorts (write_shorts (record { object = n; offset = f }) v) (λ u. fill_short n (suc f) types))

  declare_short : (n : ℕ) → Shorts (declare short n) (declare real n)
  declare_short n = then_shorts (enliven_shorts n) (λ u. fill_short n 0 (cells n))

  bury_all_short : (ms : List ℕ) → Shorts (bury_all ms) (bury_all ms)
  bury_all_short [] = done_shorts tt
  bury_all_short (m ∷ ms) = then_shorts (bury_shorts m) (λ u. bury_all_short ms)

  value_short : (e : TypedTree) → Shorts (value short true e) (value real true e)
  value_short (Constant ty v) = done_shorts _
  value_short (Choice ty) = then_shorts choose_shorts (λ c. done_shorts _)
  value_short (Read ty (Object n)) = then_shorts (read_shorts (first_of n)) (λ v. done_shorts (v ∷ []))
  value_short (Unary op ty c e) = then_shorts (value_short e) (λ v. then_shorts (check_shorts c (not (unary_overflows op ty (number_of v)))) (λ u. done_shorts _))
  value_short (Binary op ty c a b) =
      then_shorts (value_short a) (λ v. then_shorts (value_short b) (λ w. then_shorts (check_shorts c (not (binary_overflows op ty (number_of v) (number_of w)))) (λ u. done_shorts _)))
  value_short (Convert ty e) = then_shorts (value_short e) (λ v. done_shorts _)
  value_short (Assign ty (Object n) e) = then_shorts (value_short e) (λ v. then_shorts (write_cells_short n 0 v) (λ u. done_shorts v))
  value_short (Assert c e) = then_shorts (value_short e) (λ v. then_shorts (check_shorts c (holds v)) (λ u. done_shorts _))

  rest_short : (r p : Option ℕ → Run Ending) → ((from : Option ℕ) → Shorts (r from) (p from)) → (e : Ending) → Shorts (or_rest r e) (or_rest p e)
  rest_short r p h Next = record { by = λ s. same_runs s (r None s) (p None) (or_rest p Next) (λ q. refl) ((h None).by s) }
  rest_short r p h Broke = done_shorts Broke
  rest_short r p h Continued = done_shorts Continued
  rest_short r p h (Returned v) = done_shorts (Returned v)
  rest_short r p h (Jumping l) = record { by = λ s. same_runs s (r (Some l) s) (p (Some l)) (or_rest p (Jumping l)) (λ q. refl) ((h (Some l)).by s) }

  loop_short : (l : ℕ) (f g : Bool → Run (Option Ending)) → Shorts (f true) (g true) → Shorts (tree_loop short l f true) (tree_loop real l g true)
  loop_short l f g h =
      then_shorts (loop_shorts l (λ b (u : Unit {0}). and_then (f b) (λ o. done (tt, o))) (λ b (u : Unit {0}). and_then (g b) (λ o. done (tt, o))) (then_shorts h (λ o. done_shorts (tt, o))) k) (λ r. done_shorts r.1)

  mutual
    act_short : (x : CheckedTree) → Shorts (act short true x) (act real true x)
    act_short (Block all) = then_shorts (all_short None all) (λ e. then_shorts (bury_all_short (declared all)) (λ u. done_shorts e))
    act_short (Declare n) = then_shorts (declare_short n) (λ u. done_shorts Next)
    act_short (Static n) = done_shorts Next
    act_short (Initialise n e) = then_shorts (enliven_shorts n) (λ u. then_shorts (value_short e) (λ v. then_shorts (write_cells_short n 0 v) (λ u. done_shorts Next)))
    act_short (Label n) = done_shorts Next
    act_short (Evaluate e) = then_shorts (value_short e) (λ v. done_shorts Next)
    act_short (If e s) = then_shorts (value_short e) (λ v. either_shorts (holds v) (act_short s) (done_shorts Next))
    act_short (IfElse e s t) = then_shorts (value_short e) (λ v. either_shorts (holds v) (act_short s) (act_short t))
    act_short (While l named e s) =
        loop_short l (λ b. while_turn (value short b e) (act short b s)) (λ b. while_turn (value real b e) (act real b s))
        (then_shorts (value_short e) (λ v. either_shorts (holds v) (then_shorts (act_short s) (λ e. done_shorts (to_turn e))) (done_shorts (Some Next))))
    act_short (Return e) = then_shorts (value_short e) (λ v. either_shorts is_main (over_shorts (Over Ended)) (done_shorts (Returned v)))

    all_short : (from : Option ℕ) (all : CheckedTrees) → Shorts (act_all short true from all) (act_all real true from all)
    all_short None none = done_shorts Next
    all_short (Some l) none = done_shorts (Jumping l)
    all_short None (more s rest) = then_shorts (act_short s) (rest_short (λ from. act_all short true from rest) (λ from. act_all real true from rest) (λ from. all_short from rest))
    all_short (Some l) (more s rest) = all_short (past l s) rest

  params_short : (ns : List ℕ) → Shorts (declare_all short ns) (declare_all real ns)
  params_short [] = done_shorts tt
  params_short (n ∷ ns) = then_shorts (declare_short n) (λ u. params_short ns)

  main_short : (f : Option FunctionTree) → Shorts (enter short f) (enter real f)
  main_short None = done_shorts tt
  main_short (Some f) = then_shorts (params_short f.parameters) (λ u. then_shorts (act_short f.body) (λ e. done_shorts tt))

-- ---- executions

module _ (p : ProgramTree) (choices : List ℤ) (c : ℕ) where
  abbrev real_at : ℕ → Execution
  real_at t = exec p Real no_tests choices t

  reported : (x : Result (Unit {0})) → EndsIn x (Over (Broken c)) → Shorted (start p choices 0) x (run_program p Real no_tests) → real_at (report choices 0 x).turns_used ≡ report choices 0 x
  reported (Go u s) ends h = absurd ends
  reported (Halt e s) ends h =
      let j = h (λ stopped. let f = sym stopped ∙ ends in cc) in
      let all : 0 - s.turns + s.arrivals ≡ plus j.more zero = omega (arith, j.count) in
      let runs = j.runs zero zero in
      let used : plus j.more zero - 0 + 0 ≡ 0 - s.turns + s.arrivals = omega (arith, j.count) in
      ap (λ t. real_at t) all ∙ ap (λ x. report choices (plus j.more zero) x) runs ∙ ap (λ u. record { end = e; choices_used = length choices - length s.choices; turns_used = u }) used

-- where a short execution breaks a check, so does the real one of as many turns as it arrived at heads, and uses them up
pub short_law : (p : ProgramTree) (k : ℕ) (choices : List ℤ) (c : ℕ) → (exec p (Short k) no_tests choices 0).end ≡ Over (Broken c) → exec p Real no_tests choices (exec p (Short k) no_tests choices 0).turns_used ≡ exec p (Short k) no_tests choices 0
short_law p k choices c h =
    let x = run_program p (Short k) no_tests (start p choices 0) in
    reported p choices c x (ends_in choices 0 x (Over (Broken c)) (λ e. cc) h)
    ((main_short k true (cells_of p) (calls_of p (Short k) no_tests (length p.functions)) (calls_of p Real no_tests (length p.functions)) (main_among p.names p.functions)).by (start p choices 0))
