-- How many turns real runs of trees take, where each turn of a loop lowers its rank.
use Rattle.std.proofs.Common.{◌≡◌, ℕ, suc, ◌+◌, ◌*◌, ◌^◌, ◌<◌, ◌≤◌, Bool, true, false, List, [], ◌∷◌, Option, Some, None, ap, ◌∙◌, arith}
use Rattle.std.specs.Prelude.{not}
use Rattle.std.proofs.Math.Nat.{suc-mul}
use Rattle.l2_runs.specs.declared.cells.CellType.{CellType}
use Rattle.l2_runs.specs.declared.cells.CellType.TheVariants.{Integer, Pointer}
use Rattle.l2_runs.specs.declared.cells.CellValue.{CellValue}
use Rattle.l2_runs.specs.declared.member.Member.{Member}
use Rattle.l2_runs.specs.declared.member.Member.TheVariants.{Invalid}
use Rattle.l2_runs.specs.Store.{Store}
use Rattle.l2_runs.specs.Fits.{Layout}
use Rattle.l2_runs.specs.Runs.{Run, and_then, done}
use Rattle.l2_runs.specs.Loops.{Tests}
use Rattle.l2_runs.specs.Operators.{unary_overflows, binary_overflows}
use Rattle.l2_run_laws.specs.Watches.{HoldAll}
use Rattle.l2_run_laws.proofs.Kept.{Kept, Always, then_kept, done_kept, either_kept, Turned, loop_kept}
use Rattle.l2_run_laws.proofs.Pointing.{IsSound}
use Rattle.l2_run_laws.proofs.Bounds.{Bounded, then_bounded, more_suffice, Free, free, then_free, done_free, ended_free, choose_free, read_free, write_free, enliven_free, bury_free, check_free, either_free, either_bounded, budget, budget_is, loop_bounded}
use Rattle.l2_program.specs.Checked.{Object, TypedTree, Constant, Choice, Read, Unary, Binary, Convert, Assign, Assert, CheckedTree, Block, Declare, Static, Initialise, Label, Evaluate, If, IfElse, While, Return, CheckedTrees, none, more}
use Rattle.l2_meaning.specs.Meaning.{Ending, Next, Broke, Continued, Returned, Jumping, Calls, Setting, number_of, holds, write_cells, first_of, fresh, fill, declare, value, declared, past, or_rest, to_turn, while_turn, tree_loop, act, act_all}
use Rattle.l2_meaning.specs.Execution.{declare_all}
use Rattle.l2_meaning.specs.Pointing.{IsTakenIn, StatementIsTakenIn, AreTakenIn, has_pointer}
use Rattle.l2_meaning.specs.Lawful.{Listing, IsTyped, IsTypedStatement, AreTyped, HasChecks, StatementHasChecks, HaveChecks, AreNotStatic}
use Rattle.l2_cuts.specs.Turns.{turns_in, all_turns_in}
use Rattle.l2_cut_laws.proofs.Tidy.{IsTidy, AreTidy}
use Rattle.l2_cut_laws.proofs.TreeKept.{real, value_sound, act_sound, all_sound, declare_sound}

module _ (cells : Layout) (sets : ℕ → Member → Bool) (tests : Tests) (is_main : Bool) (calls : Calls) (is_static : ℕ → Bool) (first : (n : ℕ) → is_static n ≡ false → has_pointer (cells n) ≡ true → sets n Invalid ≡ true) (g : Listing) (result : List CellType) (forms : ℕ → ℕ) (rank : ℕ → Store → ℕ) (lower : (l : ℕ) (a b : Store) → IsSound sets cells a → IsSound sets cells b → HoldAll (tests true l) a b → rank l b < rank l a) (below : (l : ℕ) (a : Store) → IsSound sets cells a → rank l a < 2 ^ (66 * forms l)) where
  abbrev here : Setting
  here = real cells sets tests is_main calls

  abbrev Sound : Store → Type 0
  Sound st = IsSound sets cells st

  -- ---- runs that take no turns

  write_cells_free : (n f : ℕ) (vs : List CellValue) → Free (write_cells n f vs)
  write_cells_free n f [] = record { by = λ n s. (omega arith, omega arith) }
  write_cells_free n f (v ∷ vs) = then_free (write_free (record { object = n; offset = f }) v) (λ u. write_cells_free n (suc f) vs)

  fresh_free : (t : CellType) → Free (fresh t)
  fresh_free (Integer ty) = then_free choose_free (λ c. done_free _)
  fresh_free Pointer = done_free _

  fill_free : (n f : ℕ) (types : List CellType) → Free (fill n f types)
  fill_free n f [] = record { by = λ n s. (omega arith, omega arith) }
  fill_free n f (t ∷ types) = then_free (fresh_free t) (λ v. then_free (write_free (record { object = n; offset = f }) v) (λ u. fill_free n (suc f) types))

  pub declare_free : (n : ℕ) → Free (declare here n)
  declare_free n = then_free (enliven_free n) (λ u. fill_free n 0 (cells n))

  value_free : (e : TypedTree) → Free (value here true e)
  value_free (Constant ty v) = done_free _
  value_free (Choice ty) = then_free choose_free (λ c. done_free _)
  value_free (Read ty (Object n)) = then_free (read_free (first_of n)) (λ v. done_free (v ∷ []))
  value_free (Unary op ty c e) = then_free (value_free e) (λ v. then_free (check_free c (not (unary_overflows op ty (number_of v)))) (λ u. done_free _))
  value_free (Binary op ty c a b) =
      then_free (value_free a) (λ v. then_free (value_free b) (λ w. then_free (check_free c (not (binary_overflows op ty (number_of v) (number_of w)))) (λ u. done_free _)))
  value_free (Convert ty e) = then_free (value_free e) (λ v. done_free _)
  value_free (Assign ty (Object n) e) = then_free (value_free e) (λ v. then_free (write_cells_free n 0 v) (λ u. done_free v))
  value_free (Assert c e) = then_free (value_free e) (λ v. then_free (check_free c (holds v)) (λ u. done_free _))

  -- ---- statements

  -- what follows takes no turns, or what comes first
  ends : {A B : Type 0} {Pre Mid : Store → Type 0} {P : A → Type 0} (n : ℕ) {r : Run A} {f : A → Run B} → Kept Pre Mid P r → Bounded Pre n r → ((a : A) → Free (f a)) → Bounded Pre n (and_then r f)
  ends n kept h next = more_suffice (n + 0) n (omega arith) (then_bounded kept h (λ a p. free (next a)))

  begins : {A B : Type 0} {Pre Mid : Store → Type 0} {P : A → Type 0} (m : ℕ) {r : Run A} {f : A → Run B} → Kept Pre Mid P r → Free r → ((a : A) → P a → Bounded Mid m (f a)) → Bounded Pre m (and_then r f)
  begins m kept h next = more_suffice (0 + m) m (omega arith) (then_bounded kept (free h) next)

  rest_bounded : (n : ℕ) (rest : Option ℕ → Run Ending) → ((from : Option ℕ) → Bounded Sound n (rest from)) → (e : Ending) → Bounded Sound n (or_rest rest e)
  rest_bounded n rest h Next = record { by = λ s p le. (h None).by s p le }
  rest_bounded n rest h Broke = free (done_free Broke)
  rest_bounded n rest h Continued = free (done_free Continued)
  rest_bounded n rest h (Returned v) = free (done_free (Returned v))
  rest_bounded n rest h (Jumping l) = record { by = λ s p le. (h (Some l)).by s p le }

  enough : (k m : ℕ) → budget m k ≤ (k + 1) * (1 + m)
  enough k m =
      let a = budget_is m k in
      let b = suc-mul k (suc m) in
      let c : (k + 1) * (1 + m) ≡ suc k * suc m = ap (λ x. x * (1 + m)) (omega arith) ∙ ap (λ y. suc k * y) (omega arith) in
      omega (arith, a, b, c)

  module _ (l : ℕ) (e : TypedTree) (s : CheckedTree) (t : IsTyped cells e) (c : HasChecks g e) (h : IsTakenIn sets e) (ts : IsTypedStatement cells result s) (cs : StatementHasChecks g s) (hs : StatementIsTakenIn sets s) (tidy : IsTidy is_static s) (m : ℕ) (body : Bounded Sound m (act here true s)) where
    abbrev turn_here : Bool → Run (Option Ending)
    turn_here b = while_turn (value here b e) (act here b s)

    abbrev real_turn : Bool → Unit {0} → Run (Unit {0} × Option Ending)
    real_turn b u = and_then (turn_here b) (λ o. done (tt, o))

    way_out : (o : Option Ending) → Turned Sound Always (tt, o)
    way_out None = tt
    way_out (Some e) = tt

    turn_kept : Kept Sound Sound Always (turn_here true)
    turn_kept =
        then_kept (value_sound cells sets tests is_main calls is_static first g result e t c h)
        (λ v p. either_kept (holds v) (then_kept (act_sound cells sets tests is_main calls is_static first g result s ts cs hs tidy) (λ e q. done_kept (to_turn e) tt)) (done_kept (Some Next) tt))

    real_kept : Kept Sound Sound (Turned Sound Always) (real_turn true tt)
    real_kept = then_kept turn_kept (λ o p. done_kept (tt, o) (way_out o))

    turn_bounded : Bounded Sound m (real_turn true tt)
    turn_bounded =
        ends m turn_kept
        (begins m (value_sound cells sets tests is_main calls is_static first g result e t c h) (value_free e)
        (λ v p. more_suffice (m + 0) m (omega arith) (either_bounded (holds v) (ends m (act_sound cells sets tests is_main calls is_static first g result s ts cs hs tidy) body (λ e. done_free (to_turn e))) (free (done_free (Some Next))))))
        (λ o. done_free (tt, o))

    while_bounded : Bounded Sound ((2 ^ (66 * forms l) + 1) * (1 + m)) (tree_loop here l turn_here true)
    while_bounded =
        ends ((2 ^ (66 * forms l) + 1) * (1 + m)) (loop_kept Sound Always tests l real_turn real_kept)
        (more_suffice (budget m (2 ^ (66 * forms l))) ((2 ^ (66 * forms l) + 1) * (1 + m)) (enough (2 ^ (66 * forms l)) m)
        (loop_bounded Sound Always l tests (rank l) (lower l) m real_turn real_kept turn_bounded (2 ^ (66 * forms l)) (below l)))
        (λ r. done_free r.1)

  mutual
    pub act_bounded : (x : CheckedTree) → IsTypedStatement cells result x → StatementHasChecks g x → StatementIsTakenIn sets x → IsTidy is_static x → Bounded Sound (turns_in forms x) (act here true x)
    act_bounded (Block all) t c h d = ends (all_turns_in forms all) (all_sound cells sets tests is_main calls is_static first g result None all t c h d) (all_bounded None all t c h d) (λ e. then_free (bury_free (declared all)) (λ u. done_free e))
    act_bounded (Declare n) t c h d = free (then_free (declare_free n) (λ u. done_free Next))
    act_bounded (Static n) t c h d = free (done_free Next)
    act_bounded (Initialise n e) t c h d = free (then_free (enliven_free n) (λ u. then_free (value_free e) (λ v. then_free (write_cells_free n 0 v) (λ u. done_free Next))))
    act_bounded (Label n) t c h d = free (done_free Next)
    act_bounded (Evaluate e) t c h d = free (then_free (value_free e) (λ v. done_free Next))
    act_bounded (If e s) t c h d =
        begins (turns_in forms s) (value_sound cells sets tests is_main calls is_static first g result e t.0 c.0 h.0) (value_free e)
        (λ v p. more_suffice (turns_in forms s + 0) (turns_in forms s) (omega arith) (either_bounded (holds v) (act_bounded s t.2 c.1 h.1 d.1) (free (done_free Next))))
    act_bounded (IfElse e s z) t c h d =
        begins (turns_in forms s + turns_in forms z) (value_sound cells sets tests is_main calls is_static first g result e t.0 c.0 h.0) (value_free e)
        (λ v p. either_bounded (holds v) (act_bounded s t.2 c.1 h.1 d.1) (act_bounded z t.3 c.2 h.2 d.3))
    act_bounded (While l named e s) t c h d = while_bounded l e s t.0 c.0 h.0 t.2 c.1 h.1 d.1 (turns_in forms s) (act_bounded s t.2 c.1 h.1 d.1)
    act_bounded (Return e) t c h d = free (then_free (value_free e) (λ v. either_free is_main ended_free (done_free (Returned v))))

    pub all_bounded : (from : Option ℕ) (all : CheckedTrees) → AreTyped cells result all → HaveChecks g all → AreTakenIn sets all → AreTidy is_static all → Bounded Sound (all_turns_in forms all) (act_all here true from all)
    all_bounded None none t c h d = free (done_free Next)
    all_bounded (Some l) none t c h d = free (done_free (Jumping l))
    all_bounded None (more s rest) t c h d =
        then_bounded (act_sound cells sets tests is_main calls is_static first g result s t.0 c.0 h.0 d.0) (act_bounded s t.0 c.0 h.0 d.0)
        (λ e p. rest_bounded (all_turns_in forms rest) (λ from. act_all here true from rest) (λ from. all_bounded from rest t.1 c.1 h.1 d.2) e)
    all_bounded (Some l) (more s rest) t c h d = more_suffice (all_turns_in forms rest) (turns_in forms s + all_turns_in forms rest) (omega arith) (all_bounded (past l s) rest t.1 c.1 h.1 d.2)

  -- ---- main

  params_kept : (ns : List ℕ) → AreNotStatic is_static ns → Kept Sound Sound Always (declare_all here ns)
  params_kept [] h = done_kept tt tt
  params_kept (n ∷ ns) h = then_kept (declare_sound cells sets tests is_main calls is_static first g result n h.0) (λ u q. params_kept ns h.1)

  params_free : (ns : List ℕ) → Free (declare_all here ns)
  params_free [] = record { by = λ n s. (omega arith, omega arith) }
  params_free (n ∷ ns) = then_free (declare_free n) (λ u. params_free ns)

  -- the body of `main` behind its parameters
  pub main_bounded : (ns : List ℕ) (x : CheckedTree) → AreNotStatic is_static ns → IsTypedStatement cells result x → StatementHasChecks g x → StatementIsTakenIn sets x → IsTidy is_static x →
      Bounded Sound (turns_in forms x) (and_then (declare_all here ns) (λ u. and_then (act here true x) (λ e. done {A = Unit {0}} tt)))
  main_bounded ns x n t c h d =
      begins (turns_in forms x) (params_kept ns n) (params_free ns)
      (λ u q. ends (turns_in forms x) (act_sound cells sets tests is_main calls is_static first g result x t c h d) (act_bounded x t c h d) (λ e. record { by = λ n s. (omega arith, omega arith) }))
