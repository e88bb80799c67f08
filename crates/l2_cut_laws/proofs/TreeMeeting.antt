-- Cut runs of trees under the stronger tests go as those under two others, or one of these falls.
use Rattle.std.proofs.Common.{ℕ, Bool, true, false, List, [], ◌∷◌, Option, Some, None}
use Rattle.std.specs.Prelude.{not}
use Rattle.l2_runs.specs.Store.{Store}
use Rattle.l2_runs.specs.Fits.{Layout}
use Rattle.l2_runs.specs.Runs.{Run, and_then, done, enliven, bury_all, check}
use Rattle.l2_runs.specs.Loops.{Cut, Tests}
use Rattle.l2_runs.specs.Operators.{unary, binary, unary_overflows, binary_overflows}
use Rattle.l2_run_laws.specs.Watches.{HoldAll}
use Rattle.l2_run_laws.proofs.Meeting.{Meets, then_meets, same_meets, either_meets, TestsMeet, loop_meets}
use Rattle.l2_program.specs.Checked.{Object, TypedTree, Constant, Choice, Read, Unary, Binary, Convert, Assign, Assert, CheckedTree, Block, Declare, Static, Initialise, Label, Evaluate, If, IfElse, While, Return, CheckedTrees, none, more}
use Rattle.l2_program.specs.Programs.{FunctionTree}
use Rattle.l2_meaning.specs.Execution.{declare_all, enter}
use Rattle.l2_meaning.specs.Meaning.{Value, Ending, Next, Broke, Continued, Returned, Jumping, Calls, Setting, number, number_of, holds, put, first_of, declare, value, declared, past, or_rest, to_turn, while_turn, tree_loop, act, act_all}

module _ (k : ℕ) (br bp bq : ℕ → Run (Unit {0})) (tr tp tq : Tests) (back : (l : ℕ) → Meets (br l) (bp l) (bq l)) (counted : TestsMeet (tr true) (tp true) (tq true)) (stronger : (l : ℕ) (a b : Store) → HoldAll (tr false l) a b → HoldAll (tp false l) a b × HoldAll (tq false l) a b) (is_main : Bool) (cells : Layout) (cr cp cq : Calls) where
  abbrev r : Setting
  r = record { limit = Cut k br; tests = tr; is_main = is_main; cells = cells; calls = cr }

  abbrev p : Setting
  p = record { limit = Cut k bp; tests = tp; is_main = is_main; cells = cells; calls = cp }

  abbrev q : Setting
  q = record { limit = Cut k bq; tests = tq; is_main = is_main; cells = cells; calls = cq }

  value_meets : (y : Bool) (e : TypedTree) → Meets (value r y e) (value p y e) (value q y e)
  value_meets y (Constant ty v) = same_meets (done _)
  value_meets y (Choice ty) = same_meets (value r y (Choice ty))
  value_meets y (Read ty (Object n)) = same_meets (value r y (Read ty (Object n)))
  value_meets y (Unary op ty c e) = then_meets (value_meets y e) (λ v. same_meets (and_then (check y c (not (unary_overflows op ty (number_of v)))) (λ u. done (number (unary op ty (number_of v))))))
  value_meets y (Binary op ty c a b) = then_meets (value_meets y a) (λ v. then_meets (value_meets y b) (λ w. same_meets (and_then (check y c (not (binary_overflows op ty (number_of v) (number_of w)))) (λ u. done (number (binary op ty (number_of v) (number_of w)))))))
  value_meets y (Convert ty e) = then_meets (value_meets y e) (λ v. same_meets (done _))
  value_meets y (Assign ty (Object n) e) = then_meets (same_meets (done (first_of n))) (λ a. then_meets (value_meets y e) (λ v. same_meets (and_then (put a v) (λ u. done v))))
  value_meets y (Assert c e) = then_meets (value_meets y e) (λ v. same_meets (and_then (check y c (holds v)) (λ u. done _)))

  rest_meets : (f g h : Option ℕ → Run Ending) → ((from : Option ℕ) → Meets (f from) (g from) (h from)) → (e : Ending) → Meets (or_rest f e) (or_rest g e) (or_rest h e)
  rest_meets f g h m Next = record { by = λ s. (m None).by s }
  rest_meets f g h m Broke = same_meets (done Broke)
  rest_meets f g h m Continued = same_meets (done Continued)
  rest_meets f g h m (Returned v) = same_meets (done (Returned v))
  rest_meets f g h m (Jumping l) = record { by = λ s. (m (Some l)).by s }

  turn_meets : (f g h : Run Value) (f' g' h' : Run Ending) → Meets f g h → Meets f' g' h' → Meets (while_turn f f') (while_turn g g') (while_turn h h')
  turn_meets f g h f' g' h' m m' = then_meets m (λ v. either_meets (holds v) (then_meets m' (λ e. same_meets (done (to_turn e)))) (same_meets (done (Some Next))))

  while_meets : (l : ℕ) (f g h : Bool → Run (Option Ending)) → ((y : Bool) → Meets (f y) (g y) (h y)) → (y : Bool) → Meets (tree_loop r l f y) (tree_loop p l g y) (tree_loop q l h y)
  while_meets l f g h m y =
      then_meets (loop_meets k br bp bq tr tp tq back counted stronger l (λ b (u : Unit {0}). and_then (f b) (λ o. done (tt, o))) (λ b (u : Unit {0}). and_then (g b) (λ o. done (tt, o))) (λ b (u : Unit {0}). and_then (h b) (λ o. done (tt, o)))
      (λ b. then_meets (m b) (λ o. same_meets (done (tt, o)))) y) (λ z. same_meets (done z.1))

  mutual
    pub act_meets : (y : Bool) (x : CheckedTree) → Meets (act r y x) (act p y x) (act q y x)
    act_meets y (Block all) = then_meets (all_meet y None all) (λ e. same_meets (and_then (bury_all (declared all)) (λ u. done e)))
    act_meets y (Declare n) = same_meets (act r y (Declare n))
    act_meets y (Static n) = same_meets (done Next)
    act_meets y (Initialise n e) = then_meets (same_meets (enliven n)) (λ u. then_meets (value_meets y e) (λ v. same_meets (and_then (put (first_of n) v) (λ u. done Next))))
    act_meets y (Label n) = same_meets (done Next)
    act_meets y (Evaluate e) = then_meets (value_meets y e) (λ v. same_meets (done Next))
    act_meets y (If e s) = then_meets (value_meets y e) (λ v. either_meets (holds v) (act_meets y s) (same_meets (done Next)))
    act_meets y (IfElse e s t) = then_meets (value_meets y e) (λ v. either_meets (holds v) (act_meets y s) (act_meets y t))
    act_meets y (While l named e s) =
        while_meets l (λ b. while_turn (value r b e) (act r b s)) (λ b. while_turn (value p b e) (act p b s)) (λ b. while_turn (value q b e) (act q b s))
        (λ b. turn_meets (value r b e) (value p b e) (value q b e) (act r b s) (act p b s) (act q b s) (value_meets b e) (act_meets b s)) y
    act_meets y (Return e) = then_meets (value_meets y e) (λ v. same_meets _)

    pub all_meet : (y : Bool) (from : Option ℕ) (all : CheckedTrees) → Meets (act_all r y from all) (act_all p y from all) (act_all q y from all)
    all_meet y None none = same_meets (done Next)
    all_meet y (Some l) none = same_meets (done (Jumping l))
    all_meet y None (more s rest) = then_meets (act_meets y s) (rest_meets (λ from. act_all r y from rest) (λ from. act_all p y from rest) (λ from. act_all q y from rest) (λ from. all_meet y from rest))
    all_meet y (Some l) (more s rest) = all_meet y (past l s) rest

  params_meet : (ns : List ℕ) → Meets (declare_all r ns) (declare_all p ns) (declare_all q ns)
  params_meet [] = same_meets (done tt)
  params_meet (n ∷ ns) = then_meets (same_meets (declare r n)) (λ u. params_meet ns)

  pub main_meets : (f : Option FunctionTree) → Meets (enter r f) (enter p f) (enter q f)
  main_meets None = same_meets (done tt)
  main_meets (Some f) = then_meets (params_meet f.parameters) (λ u. then_meets (act_meets true f.body) (λ e. same_meets (done tt)))
