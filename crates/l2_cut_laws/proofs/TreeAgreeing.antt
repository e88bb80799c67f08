-- Trees with more tests do the same, or fall.
use Rattle.std.proofs.Common.{ℕ, Bool, true, List, [], ◌∷◌, Option, Some, None}
use Rattle.std.specs.Prelude.{not}
use Rattle.l2_runs.specs.Fits.{Layout}
use Rattle.l2_runs.specs.Runs.{Run, and_then, done, enliven, bury_all, check}
use Rattle.l2_runs.specs.Loops.{Limit, Tests}
use Rattle.l2_runs.specs.Operators.{unary, binary, unary_overflows, binary_overflows}
use Rattle.l2_run_laws.proofs.Agreeing.{Agrees, then_agrees, same_agrees, either_agrees, TestsAgree, loop_agrees}
use Rattle.l2_program.specs.Checked.{Object, TypedTree, Constant, Choice, Read, Unary, Binary, Convert, Assign, Assert, CheckedTree, Block, Declare, Static, Initialise, Label, Evaluate, If, IfElse, While, Return, CheckedTrees, none, more}
use Rattle.l2_program.specs.Programs.{FunctionTree}
use Rattle.l2_meaning.specs.Execution.{declare_all, enter}
use Rattle.l2_meaning.specs.Meaning.{Value, Ending, Next, Broke, Continued, Returned, Jumping, Calls, Setting, number, number_of, holds, put, first_of, declare, value, declared, past, or_rest, to_turn, while_turn, tree_loop, act, act_all}

module _ (Watched : ℕ → ℕ → Type 0) (more_tests fewer_tests : Tests) (tests_agree : TestsAgree Watched more_tests fewer_tests) (limit : Limit) (is_main : Bool) (cells : Layout) (c d : Calls) where
  abbrev with_more : Setting
  with_more = record { limit = limit; tests = more_tests; is_main = is_main; cells = cells; calls = c }

  abbrev with_fewer : Setting
  with_fewer = record { limit = limit; tests = fewer_tests; is_main = is_main; cells = cells; calls = d }

  abbrev Does : {A : Type 0} → Bool → Run A → Run A → Type 0
  Does y r p = Agrees Watched y r p

  same : {A : Type 0} (y : Bool) (r : Run A) → Does y r r
  same y r = same_agrees Watched y r

  on : {A B : Type 0} {y : Bool} {r p : Run A} {f g : A → Run B} → Does y r p → ((a : A) → Does y (f a) (g a)) → Does y (and_then r f) (and_then p g)
  on h next = then_agrees Watched h next

  value_agrees : (y : Bool) (e : TypedTree) → Does y (value with_more y e) (value with_fewer y e)
  value_agrees y (Constant ty v) = same y (done _)
  value_agrees y (Choice ty) = same y (value with_fewer y (Choice ty))
  value_agrees y (Read ty (Object n)) = same y (value with_fewer y (Read ty (Object n)))
  value_agrees y (Unary op ty c e) = on (value_agrees y e) (λ v. same y (and_then (check y c (not (unary_overflows op ty (number_of v)))) (λ u. done (number (unary op ty (number_of v))))))
  value_agrees y (Binary op ty c a b) = on (value_agrees y a) (λ v. on (value_agrees y b) (λ w. same y (and_then (check y c (not (binary_overflows op ty (number_of v) (number_of w)))) (λ u. done (number (binary op ty (number_of v) (number_of w)))))))
  value_agrees y (Convert ty e) = on (value_agrees y e) (λ v. same y (done _))
  value_agrees y (Assign ty (Object n) e) = on (same y (done (first_of n))) (λ a. on (value_agrees y e) (λ v. same y (and_then (put a v) (λ u. done v))))
  value_agrees y (Assert c e) = on (value_agrees y e) (λ v. same y (and_then (check y c (holds v)) (λ u. done _)))

  rest_agrees : (y : Bool) (r p : Option ℕ → Run Ending) → ((from : Option ℕ) → Does y (r from) (p from)) → (e : Ending) → Does y (or_rest r e) (or_rest p e)
  rest_agrees y r p h Next = record { by = λ s. (h None).by s }
  rest_agrees y r p h Broke = same y (done Broke)
  rest_agrees y r p h Continued = same y (done Continued)
  rest_agrees y r p h (Returned v) = same y (done (Returned v))
  rest_agrees y r p h (Jumping l) = record { by = λ s. (h (Some l)).by s }

  turn_agrees : (y : Bool) (test test' : Run Value) (body body' : Run Ending) → Does y test test' → Does y body body' → Does y (while_turn test body) (while_turn test' body')
  turn_agrees y test test' body body' h k = on h (λ v. either_agrees Watched (holds v) (on k (λ e. same y (done (to_turn e)))) (same y (done (Some Next))))

  while_agrees : (l : ℕ) (t t' : Bool → Run (Option Ending)) → ((y : Bool) → Does y (t y) (t' y)) → (y : Bool) → Does y (tree_loop with_more l t y) (tree_loop with_fewer l t' y)
  while_agrees l t t' h y =
      on (loop_agrees Watched more_tests fewer_tests tests_agree limit l (λ b (u : Unit {0}). and_then (t b) (λ o. done (tt, o))) (λ b (u : Unit {0}). and_then (t' b) (λ o. done (tt, o)))
      (λ b. on (h b) (λ o. same b (done (tt, o)))) y) (λ r. same y (done r.1))

  mutual
    pub act_agrees : (y : Bool) (x : CheckedTree) → Does y (act with_more y x) (act with_fewer y x)
    act_agrees y (Block all) = on (all_agrees y None all) (λ e. same y (and_then (bury_all (declared all)) (λ u. done e)))
    act_agrees y (Declare n) = same y (act with_fewer y (Declare n))
    act_agrees y (Static n) = same y (done Next)
    act_agrees y (Initialise n e) = on (same y (enliven n)) (λ u. on (value_agrees y e) (λ v. same y (and_then (put (first_of n) v) (λ u. done Next))))
    act_agrees y (Label n) = same y (done Next)
    act_agrees y (Evaluate e) = on (value_agrees y e) (λ v. same y (done Next))
    act_agrees y (If e s) = on (value_agrees y e) (λ v. either_agrees Watched (holds v) (act_agrees y s) (same y (done Next)))
    act_agrees y (IfElse e s t) = on (value_agrees y e) (λ v. either_agrees Watched (holds v) (act_agrees y s) (act_agrees y t))
    act_agrees y (While l named e s) =
        while_agrees l (λ b. while_turn (value with_more b e) (act with_more b s)) (λ b. while_turn (value with_fewer b e) (act with_fewer b s))
        (λ b. turn_agrees b (value with_more b e) (value with_fewer b e) (act with_more b s) (act with_fewer b s) (value_agrees b e) (act_agrees b s)) y
    act_agrees y (Return e) = on (value_agrees y e) (λ v. same y _)

    pub all_agrees : (y : Bool) (from : Option ℕ) (all : CheckedTrees) → Does y (act_all with_more y from all) (act_all with_fewer y from all)
    all_agrees y None none = same y (done Next)
    all_agrees y (Some l) none = same y (done (Jumping l))
    all_agrees y None (more s rest) = on (act_agrees y s) (rest_agrees y (λ from. act_all with_more y from rest) (λ from. act_all with_fewer y from rest) (λ from. all_agrees y from rest))
    all_agrees y (Some l) (more s rest) = all_agrees y (past l s) rest

  params_agree : (ns : List ℕ) → Does true (declare_all with_more ns) (declare_all with_fewer ns)
  params_agree [] = same true (done tt)
  params_agree (n ∷ ns) = on (same true (declare with_fewer n)) (λ u. params_agree ns)

  pub main_agrees : (f : Option FunctionTree) → Does true (enter with_more f) (enter with_fewer f)
  main_agrees None = same true (done tt)
  main_agrees (Some f) = on (params_agree f.parameters) (λ u. on (act_agrees true f.body) (λ e. same true (done tt)))
