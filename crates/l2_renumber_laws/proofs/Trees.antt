-- Trees under renumbered tests.
use Rattle.std.proofs.Common.{◌≡◌, ℕ, suc, ℤ, Bool, true, false, List, [], ◌∷◌, length, Option, Some, None, refl, ap}
use Rattle.std.specs.Prelude.{not}
use Rattle.l2_runs.specs.declared.cells.CellType.{CellType}
use Rattle.l2_runs.specs.declared.cells.CellType.TheVariants.{Integer, Pointer}
use Rattle.l2_runs.specs.declared.cells.CellValue.{CellValue}
use Rattle.l2_runs.specs.declared.member.Member.{Member}
use Rattle.l2_runs.specs.Store.{Store, Address}
use Rattle.l2_runs.specs.Fits.{Layout}
use Rattle.l2_runs.specs.Members.{is_in}
use Rattle.l2_runs.specs.Back.{on_member, pointer_of, any_value, scatter_cells, scatter, back}
use Rattle.l2_runs.specs.Runs.{State, Result, Go, Halt, Run, and_then, done, stop, write, enliven, bury, bury_all}
use Rattle.l2_runs.specs.Loops.{Limit, Tests}
use Rattle.l2_runs.specs.Operators.{unary_overflows, binary_overflows}
use Rattle.l2_program.specs.Checked.{Object, TypedTree, Constant, Choice, Read, Unary, Binary, Convert, Assign, Assert, CheckedTree, Block, Declare, Static, Initialise, Label, Evaluate, If, IfElse, While, Return, CheckedTrees, none, more}
use Rattle.l2_program.specs.Programs.{ProgramTree, FunctionTree}
use Rattle.l2_templates.specs.declared.point.LoopPoint.{LoopPoint}
use Rattle.l2_meaning.specs.Meaning.{Value, Ending, Next, Broke, Continued, Returned, Jumping, Calls, Setting, number_of, holds, write_cells, fresh, fill, declare, value, declared, past, or_rest, to_turn, while_turn, tree_loop, act, act_all}
use Rattle.l2_meaning.specs.Execution.{cells_of, calls_of, declare_all, enter, run_program, main_among, first_store, report}
use Rattle.l2_cuts.specs.Points.{starts}
use Rattle.l2_cuts.specs.Cuts.{mods_of, cut_limit, cut_end}
use Rattle.l2_renumber_laws.specs.Renumbered.{renumbered_end, AreRenumbered, all_hold}
use Rattle.l2_renumber_laws.proofs.Loops.{renumbered, Renames, then_renames, done_renames, choose_renames, check_renames, either_renames, StartsQuiet, loop_renames, EndsRename, renumbered_ends, counted_ends}

module _ (number : ℕ → ℕ → ℕ) where
  abbrev Ok : {A : Type 0} → Run A → Run A → Type 0
  Ok r p = Renames number r p

  on : {A B : Type 0} {r p : Run A} {f g : A → Run B} → Ok r p → ((a : A) → Ok (f a) (g a)) → Ok (and_then r f) (and_then p g)
  on h next = then_renames number h next

  ok : {A : Type 0} (a : A) → Ok (done a) (done a)
  ok a = done_renames number a

  write_ok : (a : Address) (v : CellValue) → Ok (write a v) (write a v)
  write_ok a v = record { by = λ s. refl }

  stop_ok : {A : Type 0} → Ok (stop {A = A}) (stop {A = A})
  stop_ok = record { by = λ s. refl }

  -- ---- back starts

  member_ok : (set : Member → Bool) (v : Option CellValue) → Ok (on_member set v done) (on_member set v done)
  member_ok set None = stop_ok
  member_ok set (Some v) = either_renames number (is_in set v) (ok v) stop_ok

  any_ok : (cells : Layout) (set : Member → Bool) (t : CellType) → Ok (any_value cells set t) (any_value cells set t)
  any_ok cells set (Integer ty) = on (choose_renames number) (λ z. ok _)
  any_ok cells set Pointer = on (choose_renames number) (λ sel. on (choose_renames number) (λ off. member_ok set (pointer_of cells sel off)))

  scatter_cells_ok : (cells : Layout) (set : Member → Bool) (o f : ℕ) (types : List CellType) → Ok (scatter_cells cells set o f types) (scatter_cells cells set o f types)
  scatter_cells_ok cells set o f [] = ok tt
  scatter_cells_ok cells set o f (t ∷ types) = on (any_ok cells set t) (λ v. on (write_ok (record { object = o; offset = f }) v) (λ u. scatter_cells_ok cells set o (suc f) types))

  scatter_ok : (cells : Layout) (sets : ℕ → Member → Bool) (os : List ℕ) → Ok (scatter cells sets os) (scatter cells sets os)
  scatter_ok cells sets [] = ok tt
  scatter_ok cells sets (o ∷ os) = on (scatter_cells_ok cells (sets o) o 0 (cells o)) (λ u. scatter_ok cells sets os)

  back_ok : (cells : Layout) (sets : ℕ → Member → Bool) (mods : ℕ → List ℕ) (starts : ℕ → Store → Bool) (l : ℕ) → Ok (back cells sets mods starts l) (back cells sets mods starts l)
  back_ok cells sets mods starts l = on (scatter_ok cells sets (mods l)) (λ u. record { by = λ s. (either_renames number (starts l s.store) (ok tt) stop_ok).by s })

  -- ---- trees

  module _ (tests others : Tests) (are : EndsRename number tests others) (limit : Limit) (quiet : StartsQuiet number limit) (is_main : Bool) (cells : Layout) (calls other_calls : Calls) where
    abbrev here : Setting
    here = record { limit = limit; tests = tests; is_main = is_main; cells = cells; calls = calls }

    abbrev there : Setting
    there = record { limit = limit; tests = others; is_main = is_main; cells = cells; calls = other_calls }

    write_cells_ok : (n f : ℕ) (vs : List CellValue) → Ok (write_cells n f vs) (write_cells n f vs)
    write_cells_ok n f [] = ok tt
    write_cells_ok n f (v ∷ vs) = on (write_ok (record { object = n; offset = f }) v) (λ u. write_cells_ok n (suc f) vs)

    fresh_ok : (t : CellType) → Ok (fresh t) (fresh t)
    fresh_ok (Integer ty) = on (choose_renames number) (λ c. ok _)
    fresh_ok Pointer = ok _

    fill_ok : (n f : ℕ) (types : List CellType) → Ok (fill n f types) (fill n f types)
    fill_ok n f [] = ok tt
    fill_ok n f (t ∷ types) = on (fresh_ok t) (λ v. on (write_ok (record { object = n; offset = f }) v) (λ u. fill_ok n (suc f) types))

    enliven_ok : (n : ℕ) → Ok (enliven n) (enliven n)
    enliven_ok n = record { by = λ s. refl }

    declare_ok : (n : ℕ) → Ok (declare here n) (declare there n)
    declare_ok n = on (enliven_ok n) (λ u. fill_ok n 0 (cells n))

    bury_ok : (ms : List ℕ) → Ok (bury_all ms) (bury_all ms)
    bury_ok [] = ok tt
    bury_ok (m ∷ ms) = on {r = bury m} {p = bury m} (record { by = λ s. refl }) (λ u. bury_ok ms)

    value_ok : (y : Bool) (e : TypedTree) → Ok (value here y e) (value there y e)
    value_ok y (Constant ty v) = ok _
    value_ok y (Choice ty) = on (choose_renames number) (λ c. ok _)
    value_ok y (Read ty (Object n)) = record { by = λ s. refl }
    value_ok y (Unary op ty c e) = on (value_ok y e) (λ v. on (check_renames number y c (not (unary_overflows op ty (number_of v)))) (λ u. ok _))
    value_ok y (Binary op ty c a b) = on (value_ok y a) (λ v. on (value_ok y b) (λ w. on (check_renames number y c (not (binary_overflows op ty (number_of v) (number_of w)))) (λ u. ok _)))
    value_ok y (Convert ty e) = on (value_ok y e) (λ v. ok _)
    value_ok y (Assign ty (Object n) e) = on (value_ok y e) (λ v. on (write_cells_ok n 0 v) (λ u. ok v))
    value_ok y (Assert c e) = on (value_ok y e) (λ v. on (check_renames number y c (holds v)) (λ u. ok _))

    rest_ok : (r p : Option ℕ → Run Ending) → ((from : Option ℕ) → Ok (r from) (p from)) → (e : Ending) → Ok (or_rest r e) (or_rest p e)
    rest_ok r p h Next = record { by = λ s. (h None).by s }
    rest_ok r p h Broke = ok Broke
    rest_ok r p h Continued = ok Continued
    rest_ok r p h (Returned v) = ok (Returned v)
    rest_ok r p h (Jumping l) = record { by = λ s. (h (Some l)).by s }

    turn_ok : (test test' : Run Value) (body body' : Run Ending) → Ok test test' → Ok body body' → Ok (while_turn test body) (while_turn test' body')
    turn_ok test test' body body' h k = on h (λ v. either_renames number (holds v) (on k (λ e. ok (to_turn e))) (ok (Some Next)))

    while_ok : (l : ℕ) (t t' : Bool → Run (Option Ending)) → ((y : Bool) → Ok (t y) (t' y)) → (y : Bool) → Ok (tree_loop here l t y) (tree_loop there l t' y)
    while_ok l t t' h y =
        on (loop_renames number tests others are limit quiet l (λ b (u : Unit {0}). and_then (t b) (λ o. done (tt, o))) (λ b (u : Unit {0}). and_then (t' b) (λ o. done (tt, o))) (λ b. on (h b) (λ o. ok (tt, o))) y) (λ r. ok r.1)

    mutual
      act_ok : (y : Bool) (x : CheckedTree) → Ok (act here y x) (act there y x)
      act_ok y (Block all) = on (all_ok y None all) (λ e. on (bury_ok (declared all)) (λ u. ok e))
      act_ok y (Declare n) = on (declare_ok n) (λ u. ok Next)
      act_ok y (Static n) = ok Next
      act_ok y (Initialise n e) = on (enliven_ok n) (λ u. on (value_ok y e) (λ v. on (write_cells_ok n 0 v) (λ u. ok Next)))
      act_ok y (Label n) = ok Next
      act_ok y (Evaluate e) = on (value_ok y e) (λ v. ok Next)
      act_ok y (If e s) = on (value_ok y e) (λ v. either_renames number (holds v) (act_ok y s) (ok Next))
      act_ok y (IfElse e s t) = on (value_ok y e) (λ v. either_renames number (holds v) (act_ok y s) (act_ok y t))
      act_ok y (While l named e s) =
          while_ok l (λ b. while_turn (value here b e) (act here b s)) (λ b. while_turn (value there b e) (act there b s)) (λ b. turn_ok (value here b e) (value there b e) (act here b s) (act there b s) (value_ok b e) (act_ok b s)) y
      act_ok y (Return e) = on (value_ok y e) (λ v. either_renames number is_main (record { by = λ s. refl }) (ok (Returned v)))

      all_ok : (y : Bool) (from : Option ℕ) (all : CheckedTrees) → Ok (act_all here y from all) (act_all there y from all)
      all_ok y None none = ok Next
      all_ok y (Some l) none = ok (Jumping l)
      all_ok y None (more s rest) = on (act_ok y s) (rest_ok (λ from. act_all here y from rest) (λ from. act_all there y from rest) (λ from. all_ok y from rest))
      all_ok y (Some l) (more s rest) = all_ok y (past l s) rest

    params_ok : (ns : List ℕ) → Ok (declare_all here ns) (declare_all there ns)
    params_ok [] = ok tt
    params_ok (n ∷ ns) = on (declare_ok n) (λ u. params_ok ns)

    main_ok : (f : Option FunctionTree) → Ok (enter here f) (enter there f)
    main_ok None = ok tt
    main_ok (Some f) = on (params_ok f.parameters) (λ u. on (act_ok true f.body) (λ e. ok tt))

  same_report : (cs : List ℤ) (t : ℕ) (x y : Result (Unit {0})) → y ≡ renumbered number x → (report cs t y).end ≡ renumbered_end number (report cs t x).end
  same_report cs t (Go u s) y e = ap (λ z. (report cs t z).end) e
  same_report cs t (Halt o s) y e = ap (λ z. (report cs t z).end) e

abbrev start : ProgramTree → List ℤ → State
start p choices = record { store = first_store p; choices = choices; turns = 0; arrivals = 0 }

module _ (p : ProgramTree) (sets : ℕ → Member → Bool) (k : ℕ) (q : List LoopPoint) (number : ℕ → ℕ → ℕ) (tests others : Tests) where
  renaming : EndsRename number tests others → (choices : List ℤ) → cut_end p sets k q others choices ≡ renumbered_end number (cut_end p sets k q tests choices)
  renaming are choices =
      let limit = cut_limit p sets k q in
      same_report number choices 0 (run_program p limit tests (start p choices)) (run_program p limit others (start p choices))
      ((main_ok number tests others are limit (back_ok number (cells_of p) sets (mods_of p) (starts q)) true (cells_of p) (calls_of p limit tests (length p.functions)) (calls_of p limit others (length p.functions)) (main_among p.names p.functions)).by (start p choices))

  pub renumbering : ((counted : Bool) (l : ℕ) → AreRenumbered (number l) (tests counted l) (others counted l)) → (choices : List ℤ) → cut_end p sets k q others choices ≡ renumbered_end number (cut_end p sets k q tests choices)
  renumbering are = renaming (renumbered_ends number tests others are)

  pub counted_alike : ((l : ℕ) → AreRenumbered (number l) (tests true l) (others true l)) → ((l : ℕ) (a b : Store) → all_hold (others false l) a b ≡ all_hold (tests false l) a b) → (choices : List ℤ)
      → cut_end p sets k q others choices ≡ renumbered_end number (cut_end p sets k q tests choices)
  counted_alike are alike = renaming (counted_ends number tests others are alike)
