-- Cut runs of trees under stronger tests go as those under weaker ones, or fall.
use Rattle.std.proofs.Common.{ℕ, Bool, true, List, [], ◌∷◌, Option, Some, None}
use Rattle.std.specs.Prelude.{not}
use Rattle.l2_runs.specs.Store.{Store}
use Rattle.l2_runs.specs.Fits.{Layout}
use Rattle.l2_runs.specs.Runs.{State, Run, and_then, done, enliven, bury_all, check}
use Rattle.l2_runs.specs.Loops.{Cut, Tests, events}
use Rattle.l2_runs.specs.Operators.{unary, binary, unary_overflows, binary_overflows}
use Rattle.l2_point_laws.proofs.Weaker.{WeakerAt, Weaker, then_weaker, same_weaker, either_weaker, loop_weaker}
use Rattle.l2_program.specs.Checked.{Object, TypedTree, Constant, Choice, Read, Unary, Binary, Convert, Assign, Assert, CheckedTree, Block, Declare, Static, Initialise, Label, Evaluate, If, IfElse, While, Return, CheckedTrees, none, more}
use Rattle.l2_program.specs.Programs.{FunctionTree}
use Rattle.l2_meaning.specs.Execution.{declare_all, enter}
use Rattle.l2_meaning.specs.Meaning.{Value, Ending, Next, Broke, Continued, Returned, Jumping, Calls, Setting, number, number_of, holds, put, first_of, declare, value, declared, past, or_rest, to_turn, while_turn, tree_loop, act, act_all}

module _ (Watched : ℕ → ℕ → Type 0) (k : ℕ) (br bq : ℕ → Run (Unit {0})) (tr tq : Tests) (back : (l : ℕ) → Weaker Watched (br l) (bq l)) (tests : (y : Bool) (l : ℕ) (a : Store) (s : State) → WeakerAt Watched (events y l (tr y l) a s) (events y l (tq y l) a s)) (is_main : Bool) (cells : Layout) (cr cq : Calls) where
  abbrev r : Setting
  r = record { limit = Cut k br; tests = tr; is_main = is_main; cells = cells; calls = cr }

  abbrev q : Setting
  q = record { limit = Cut k bq; tests = tq; is_main = is_main; cells = cells; calls = cq }

  abbrev Weak : {A : Type 0} → Run A → Run A → Type 0
  Weak x y = Weaker Watched x y

  on : {A B : Type 0} {x y : Run A} {f g : A → Run B} → Weak x y → ((a : A) → Weak (f a) (g a)) → Weak (and_then x f) (and_then y g)
  on h next = then_weaker Watched h next

  same : {A : Type 0} (x : Run A) → Weak x x
  same x = same_weaker Watched x

  value_weaker : (y : Bool) (e : TypedTree) → Weak (value r y e) (value q y e)
  value_weaker y (Constant ty v) = same (done _)
  value_weaker y (Choice ty) = same (value r y (Choice ty))
  value_weaker y (Read ty (Object n)) = same (value r y (Read ty (Object n)))
  value_weaker y (Unary op ty c e) = on (value_weaker y e) (λ v. same (and_then (check y c (not (unary_overflows op ty (number_of v)))) (λ u. done (number (unary op ty (number_of v))))))
  value_weaker y (Binary op ty c a b) = on (value_weaker y a) (λ v. on (value_weaker y b) (λ w. same (and_then (check y c (not (binary_overflows op ty (number_of v) (number_of w)))) (λ u. done (number (binary op ty (number_of v) (number_of w)))))))
  value_weaker y (Convert ty e) = on (value_weaker y e) (λ v. same (done _))
  value_weaker y (Assign ty (Object n) e) = on (same (done (first_of n))) (λ a. on (value_weaker y e) (λ v. same (and_then (put a v) (λ u. done v))))
  value_weaker y (Assert c e) = on (value_weaker y e) (λ v. same (and_then (check y c (holds v)) (λ u. done _)))

  rest_weaker : (f g : Option ℕ → Run Ending) → ((from : Option ℕ) → Weak (f from) (g from)) → (e : Ending) → Weak (or_rest f e) (or_rest g e)
  rest_weaker f g m Next = record { by = λ s. (m None).by s }
  rest_weaker f g m Broke = same (done Broke)
  rest_weaker f g m Continued = same (done Continued)
  rest_weaker f g m (Returned v) = same (done (Returned v))
  rest_weaker f g m (Jumping l) = record { by = λ s. (m (Some l)).by s }

  turn_weaker : (f g : Run Value) (f' g' : Run Ending) → Weak f g → Weak f' g' → Weak (while_turn f f') (while_turn g g')
  turn_weaker f g f' g' m m' = on m (λ v. either_weaker Watched (holds v) (on m' (λ e. same (done (to_turn e)))) (same (done (Some Next))))

  while_weaker : (l : ℕ) (f g : Bool → Run (Option Ending)) → ((y : Bool) → Weak (f y) (g y)) → (y : Bool) → Weak (tree_loop r l f y) (tree_loop q l g y)
  while_weaker l f g m y =
      on (loop_weaker Watched k br bq tr tq back tests l (λ b (u : Unit {0}). and_then (f b) (λ o. done (tt, o))) (λ b (u : Unit {0}). and_then (g b) (λ o. done (tt, o)))
      (λ b. on (m b) (λ o. same (done (tt, o)))) y) (λ z. same (done z.1))

  mutual
    act_weaker : (y : Bool) (x : CheckedTree) → Weak (act r y x) (act q y x)
    act_weaker y (Block all) = on (all_weaker y None all) (λ e. same (and_then (bury_all (declared all)) (λ u. done e)))
    act_weaker y (Declare n) = same (act r y (Declare n))
    act_weaker y (Static n) = same (done Next)
    act_weaker y (Initialise n e) = on (same (enliven n)) (λ u. on (value_weaker y e) (λ v. same (and_then (put (first_of n) v) (λ u. done Next))))
    act_weaker y (Label n) = same (done Next)
    act_weaker y (Evaluate e) = on (value_weaker y e) (λ v. same (done Next))
    act_weaker y (If e s) = on (value_weaker y e) (λ v. either_weaker Watched (holds v) (act_weaker y s) (same (done Next)))
    act_weaker y (IfElse e s t) = on (value_weaker y e) (λ v. either_weaker Watched (holds v) (act_weaker y s) (act_weaker y t))
    act_weaker y (While l named e s) =
        while_weaker l (λ b. while_turn (value r b e) (act r b s)) (λ b. while_turn (value q b e) (act q b s))
        (λ b. turn_weaker (value r b e) (value q b e) (act r b s) (act q b s) (value_weaker b e) (act_weaker b s)) y
    act_weaker y (Return e) = on (value_weaker y e) (λ v. same _)

    all_weaker : (y : Bool) (from : Option ℕ) (all : CheckedTrees) → Weak (act_all r y from all) (act_all q y from all)
    all_weaker y None none = same (done Next)
    all_weaker y (Some l) none = same (done (Jumping l))
    all_weaker y None (more s rest) = on (act_weaker y s) (rest_weaker (λ from. act_all r y from rest) (λ from. act_all q y from rest) (λ from. all_weaker y from rest))
    all_weaker y (Some l) (more s rest) = all_weaker y (past l s) rest

  params_weaker : (ns : List ℕ) → Weak (declare_all r ns) (declare_all q ns)
  params_weaker [] = same (done tt)
  params_weaker (n ∷ ns) = on (same (declare r n)) (λ u. params_weaker ns)

  pub main_weaker : (f : Option FunctionTree) → Weak (enter r f) (enter q f)
  main_weaker None = same (done tt)
  main_weaker (Some f) = on (params_weaker f.parameters) (λ u. on (act_weaker true f.body) (λ e. same (done tt)))
