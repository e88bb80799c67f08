-- At which row a run of a tree falls.
use Rattle.std.proofs.Common.{ℕ, suc, Bool, true, List, [], ◌∷◌, Option, Some, None}
use Rattle.std.specs.Prelude.{not}
use Rattle.l2_runs.specs.declared.cells.CellType.{CellType}
use Rattle.l2_runs.specs.declared.cells.CellType.TheVariants.{Integer, Pointer}
use Rattle.l2_runs.specs.declared.cells.CellValue.{CellValue}
use Rattle.l2_runs.specs.declared.member.Member.{Member}
use Rattle.l2_runs.specs.Store.{Store, Address}
use Rattle.l2_runs.specs.Fits.{Layout}
use Rattle.l2_runs.specs.Members.{is_in}
use Rattle.l2_runs.specs.Back.{on_member, pointer_of, any_value, scatter_cells, scatter, back}
use Rattle.l2_runs.specs.Runs.{Run, and_then, done, stop, write, enliven, bury, bury_all}
use Rattle.l2_runs.specs.Loops.{Limit, Tests}
use Rattle.l2_runs.specs.Operators.{unary_overflows, binary_overflows}
use Rattle.l2_point_laws.proofs.Rows.{Rows, LimitRows, then_rows, done_rows, choose_rows, check_rows, either_rows, loop_rows}
use Rattle.l2_program.specs.Checked.{Object, TypedTree, Constant, Choice, Read, Unary, Binary, Convert, Assign, Assert, CheckedTree, Block, Declare, Static, Initialise, Label, Evaluate, If, IfElse, While, Return, CheckedTrees, none, more}
use Rattle.l2_program.specs.Programs.{FunctionTree}
use Rattle.l2_meaning.specs.Meaning.{Value, Ending, Next, Broke, Continued, Returned, Jumping, Calls, Setting, number_of, holds, write_cells, fresh, fill, declare, value, declared, past, or_rest, to_turn, while_turn, tree_loop, act, act_all}
use Rattle.l2_meaning.specs.Execution.{declare_all, enter}

module _ (tests : Tests) where
  abbrev Ok : {A : Type 0} → Run A → Type 0
  Ok r = Rows tests r

  on : {A B : Type 0} {r : Run A} {f : A → Run B} → Ok r → ((a : A) → Ok (f a)) → Ok (and_then r f)
  on h next = then_rows tests h next

  ok : {A : Type 0} (a : A) → Ok (done a)
  ok a = done_rows tests a

  write_ok : (a : Address) (v : CellValue) → Ok (write a v)
  write_ok a v = record { by = λ s. tt }

  stop_ok : {A : Type 0} → Ok (stop {A = A})
  stop_ok = record { by = λ s. tt }

  -- ---- back starts

  member_ok : (set : Member → Bool) (v : Option CellValue) → Ok (on_member set v done)
  member_ok set None = stop_ok
  member_ok set (Some v) = either_rows tests (is_in set v) (ok v) stop_ok

  any_ok : (cells : Layout) (set : Member → Bool) (t : CellType) → Ok (any_value cells set t)
  any_ok cells set (Integer ty) = on (choose_rows tests) (λ z. ok _)
  any_ok cells set Pointer = on (choose_rows tests) (λ sel. on (choose_rows tests) (λ off. member_ok set (pointer_of cells sel off)))

  scatter_cells_ok : (cells : Layout) (set : Member → Bool) (o f : ℕ) (types : List CellType) → Ok (scatter_cells cells set o f types)
  scatter_cells_ok cells set o f [] = ok tt
  scatter_cells_ok cells set o f (t ∷ types) = on (any_ok cells set t) (λ v. on (write_ok (record { object = o; offset = f }) v) (λ u. scatter_cells_ok cells set o (suc f) types))

  scatter_ok : (cells : Layout) (sets : ℕ → Member → Bool) (os : List ℕ) → Ok (scatter cells sets os)
  scatter_ok cells sets [] = ok tt
  scatter_ok cells sets (o ∷ os) = on (scatter_cells_ok cells (sets o) o 0 (cells o)) (λ u. scatter_ok cells sets os)

  pub back_rows : (cells : Layout) (sets : ℕ → Member → Bool) (mods : ℕ → List ℕ) (starts : ℕ → Store → Bool) (l : ℕ) → Ok (back cells sets mods starts l)
  back_rows cells sets mods starts l = on (scatter_ok cells sets (mods l)) (λ u. record { by = λ s. (either_rows tests (starts l s.store) (ok tt) stop_ok).by s })

  -- ---- trees

  module _ (limit : Limit) (quiet : LimitRows tests limit) (is_main : Bool) (cells : Layout) (calls : Calls) where
    abbrev here : Setting
    here = record { limit = limit; tests = tests; is_main = is_main; cells = cells; calls = calls }

    write_cells_ok : (n f : ℕ) (vs : List CellValue) → Ok (write_cells n f vs)
    write_cells_ok n f [] = ok tt
    write_cells_ok n f (v ∷ vs) = on (write_ok (record { object = n; offset = f }) v) (λ u. write_cells_ok n (suc f) vs)

    fresh_ok : (t : CellType) → Ok (fresh t)
    fresh_ok (Integer ty) = on (choose_rows tests) (λ c. ok _)
    fresh_ok Pointer = ok _

    fill_ok : (n f : ℕ) (types : List CellType) → Ok (fill n f types)
    fill_ok n f [] = ok tt
    fill_ok n f (t ∷ types) = on (fresh_ok t) (λ v. on (write_ok (record { object = n; offset = f }) v) (λ u. fill_ok n (suc f) types))

    enliven_ok : (n : ℕ) → Ok (enliven n)
    enliven_ok n = record { by = λ s. tt }

    declare_ok : (n : ℕ) → Ok (declare here n)
    declare_ok n = on (enliven_ok n) (λ u. fill_ok n 0 (cells n))

    bury_ok : (ms : List ℕ) → Ok (bury_all ms)
    bury_ok [] = ok tt
    bury_ok (m ∷ ms) = on {r = bury m} (record { by = λ s. tt }) (λ u. bury_ok ms)

    value_ok : (y : Bool) (e : TypedTree) → Ok (value here y e)
    value_ok y (Constant ty v) = ok _
    value_ok y (Choice ty) = on (choose_rows tests) (λ c. ok _)
    value_ok y (Read ty (Object n)) = record { by = λ s. tt }
    value_ok y (Unary op ty c e) = on (value_ok y e) (λ v. on (check_rows tests y c (not (unary_overflows op ty (number_of v)))) (λ u. ok _))
    value_ok y (Binary op ty c a b) = on (value_ok y a) (λ v. on (value_ok y b) (λ w. on (check_rows tests y c (not (binary_overflows op ty (number_of v) (number_of w)))) (λ u. ok _)))
    value_ok y (Convert ty e) = on (value_ok y e) (λ v. ok _)
    value_ok y (Assign ty (Object n) e) = on (value_ok y e) (λ v. on (write_cells_ok n 0 v) (λ u. ok v))
    value_ok y (Assert c e) = on (value_ok y e) (λ v. on (check_rows tests y c (holds v)) (λ u. ok _))

    rest_ok : (r : Option ℕ → Run Ending) → ((from : Option ℕ) → Ok (r from)) → (e : Ending) → Ok (or_rest r e)
    rest_ok r h Next = record { by = λ s. (h None).by s }
    rest_ok r h Broke = ok Broke
    rest_ok r h Continued = ok Continued
    rest_ok r h (Returned v) = ok (Returned v)
    rest_ok r h (Jumping l) = record { by = λ s. (h (Some l)).by s }

    turn_ok : (test : Run Value) (body : Run Ending) → Ok test → Ok body → Ok (while_turn test body)
    turn_ok test body h k = on h (λ v. either_rows tests (holds v) (on k (λ e. ok (to_turn e))) (ok (Some Next)))

    while_ok : (l : ℕ) (t : Bool → Run (Option Ending)) → ((y : Bool) → Ok (t y)) → (y : Bool) → Ok (tree_loop here l t y)
    while_ok l t h y = on (loop_rows tests limit quiet l (λ b (u : Unit {0}). and_then (t b) (λ o. done (tt, o))) (λ b. on (h b) (λ o. ok (tt, o))) y) (λ r. ok r.1)

    mutual
      act_ok : (y : Bool) (x : CheckedTree) → Ok (act here y x)
      act_ok y (Block all) = on (all_ok y None all) (λ e. on (bury_ok (declared all)) (λ u. ok e))
      act_ok y (Declare n) = on (declare_ok n) (λ u. ok Next)
      act_ok y (Static n) = ok Next
      act_ok y (Initialise n e) = on (enliven_ok n) (λ u. on (value_ok y e) (λ v. on (write_cells_ok n 0 v) (λ u. ok Next)))
      act_ok y (Label n) = ok Next
      act_ok y (Evaluate e) = on (value_ok y e) (λ v. ok Next)
      act_ok y (If e s) = on (value_ok y e) (λ v. either_rows tests (holds v) (act_ok y s) (ok Next))
      act_ok y (IfElse e s t) = on (value_ok y e) (λ v. either_rows tests (holds v) (act_ok y s) (act_ok y t))
      act_ok y (While l named e s) = while_ok l (λ b. while_turn (value here b e) (act here b s)) (λ b. turn_ok (value here b e) (act here b s) (value_ok b e) (act_ok b s)) y
      act_ok y (Return e) = on (value_ok y e) (λ v. either_rows tests is_main (record { by = λ s. tt }) (ok (Returned v)))

      all_ok : (y : Bool) (from : Option ℕ) (all : CheckedTrees) → Ok (act_all here y from all)
      all_ok y None none = ok Next
      all_ok y (Some l) none = ok (Jumping l)
      all_ok y None (more s rest) = on (act_ok y s) (rest_ok (λ from. act_all here y from rest) (λ from. all_ok y from rest))
      all_ok y (Some l) (more s rest) = all_ok y (past l s) rest

    params_ok : (ns : List ℕ) → Ok (declare_all here ns)
    params_ok [] = ok tt
    params_ok (n ∷ ns) = on (declare_ok n) (λ u. params_ok ns)

    pub main_rows : (f : Option FunctionTree) → Ok (enter here f)
    main_rows None = ok tt
    main_rows (Some f) = on (params_ok f.parameters) (λ u. on (act_ok true f.body) (λ e. ok tt))
