-- Real runs of trees keep types and sets.
use Rattle.std.proofs.Common.{◌≡◌, ℕ, suc, ℤ, Bool, true, false, List, [], ◌∷◌, Option, Some, None, refl}
use Rattle.std.specs.Prelude.{not}
use Rattle.l2_bits.specs.Values.{wrap}
use Rattle.l2_bits.specs.Operators.{convert}
use Rattle.l2_runs.specs.declared.cells.CellType.{CellType}
use Rattle.l2_runs.specs.declared.cells.CellType.TheVariants.{Integer, Pointer}
use Rattle.l2_runs.specs.declared.cells.CellValue.{CellValue}
use Rattle.l2_runs.specs.declared.cells.CellValue.TheVariants as cell
use Rattle.l2_runs.specs.declared.member.Member.{Member}
use Rattle.l2_runs.specs.declared.member.Member.TheVariants as member
use Rattle.l2_runs.specs.declared.outcome.Outcome.TheVariants.{Ended}
use Rattle.l2_runs.specs.Store.{Store}
use Rattle.l2_runs.specs.Fits.{Layout, CellsFit}
use Rattle.l2_runs.specs.Members.{targets, Within}
use Rattle.l2_runs.specs.Runs.{Over, Run, and_then, done}
use Rattle.l2_runs.specs.Loops.{Real, Tests}
use Rattle.l2_runs.specs.Keeps.{Anything}
use Rattle.l2_runs.specs.Operators.{unary, binary, unary_overflows, binary_overflows}
use Rattle.l2_run_laws.specs.Watches.{CellsIn, InSets}
use Rattle.l2_run_laws.proofs.Kept.{Kept, Always, then_kept, done_kept, over_kept, either_kept, choose_kept, check_kept, Turned, loop_kept}
use Rattle.l2_run_laws.proofs.Pointing.{cells_within, Inside, read_inside, write_inside, enliven_inside, bury_inside, IsSound, both}
use Rattle.l2_program.specs.Checked.{Object, TypedTree, Constant, Choice, Read, Unary, Binary, Convert, Assign, Assert, CheckedTree, Block, Declare, Static, Initialise, Label, Evaluate, If, IfElse, While, Return, CheckedTrees, none, more}
use Rattle.l2_program.specs.Types.{type_of}
use Rattle.l2_meaning.specs.Meaning.{Value, Ending, Next, Broke, Continued, Returned, Jumping, Calls, Setting, number_of, holds, write_cells, put, first_of, fresh, fill, declare, value, declared, past, or_rest, to_turn, while_turn, tree_loop, act, act_all}
use Rattle.l2_meaning.specs.Pointing.{may_be, IsTakenIn, StatementIsTakenIn, AreTakenIn, has_pointer}
use Rattle.l2_meaning.specs.Lawful.{Listing, IsTyped, IsTypedStatement, AreTyped, HasChecks, StatementHasChecks, HaveChecks}
use Rattle.l2_cut_laws.proofs.Tidy.{IsTidy, AreTidy}
use Rattle.l2_meaning.proofs.Typed.{put_keep, declare_keep, value_keep, EndingFits, act_keep, all_keep}

module _ (cells : Layout) (sets : ℕ → Member → Bool) (tests : Tests) (is_main : Bool) (calls : Calls) where
  abbrev pub real : Setting
  real = record { limit = Real; tests = tests; is_main = is_main; cells = cells; calls = calls }

  abbrev In : {A : Type 0} → (A → Type 0) → Run A → Type 0
  In P r = Inside sets P r

  numbers : (set : Member → Bool) (z : ℤ) → Within (targets (cell.Number z)) set
  numbers set z = λ m t. cc

  -- ---- objects

  write_cells_in : (n f : ℕ) (vs : List CellValue) → CellsIn (sets n) vs → In Always (write_cells n f vs)
  write_cells_in n f [] h = done_kept tt tt
  write_cells_in n f (v ∷ vs) h = then_kept {P = Always} (write_inside sets (record { object = n; offset = f }) v h.0) (λ u p. write_cells_in n (suc f) vs h.1)

  put_in : (n : ℕ) (vs : Value) → CellsIn (sets n) vs → In Always (put (first_of n) vs)
  put_in n vs h = write_cells_in n 0 vs h

  invalid : (set : Member → Bool) → set member.Invalid ≡ true → Within (targets cell.Invalid) set
  invalid set h member.Null t = cc
  invalid set h member.Invalid t = h
  invalid set h (member.Object o) t = cc

  fresh_in : (n : ℕ) (t : CellType) (types : List CellType) → (has_pointer (t ∷ types) ≡ true → sets n member.Invalid ≡ true) → In (λ v. Within (targets v) (sets n)) (fresh t)
  fresh_in n (Integer ty) types h = then_kept {P = Always} choose_kept (λ c p. done_kept (cell.Number (wrap ty c)) (numbers (sets n) (wrap ty c)))
  fresh_in n Pointer types h = done_kept cell.Invalid (invalid (sets n) (h refl))

  behind_pointer : (t : CellType) (types : List CellType) → has_pointer types ≡ true → has_pointer (t ∷ types) ≡ true
  behind_pointer (Integer ty) types h = h
  behind_pointer Pointer types h = refl

  fill_in : (n f : ℕ) (types : List CellType) → (has_pointer types ≡ true → sets n member.Invalid ≡ true) → In Always (fill n f types)
  fill_in n f [] h = done_kept tt tt
  fill_in n f (t ∷ types) h =
      then_kept (fresh_in n t types h)
      (λ v p. then_kept {P = Always} (write_inside sets (record { object = n; offset = f }) v p) (λ u q. fill_in n (suc f) types (λ x. h (behind_pointer t types x))))

  -- ---- expressions

  value_in : (e : TypedTree) → IsTakenIn sets e → In (CellsIn (may_be sets e)) (value real true e)
  value_in (Constant ty v) h = done_kept (v ∷ []) (λ m t. t, tt)
  value_in (Choice ty) h = then_kept {P = Always} choose_kept (λ c p. done_kept _ (numbers _ (wrap ty c), tt))
  value_in (Read ty (Object n)) h = then_kept (read_inside sets (first_of n)) (λ v p. done_kept (v ∷ []) (p, tt))
  value_in (Unary op ty c e) h =
      then_kept (value_in e h) (λ v p. then_kept {P = Always} (check_kept true c (not (unary_overflows op ty (number_of v)))) (λ u q. done_kept _ (numbers _ (unary op ty (number_of v)), tt)))
  value_in (Binary op ty c a b) h =
      then_kept (value_in a h.0) (λ v p. then_kept (value_in b h.1)
      (λ w q. then_kept {P = Always} (check_kept true c (not (binary_overflows op ty (number_of v) (number_of w)))) (λ u r. done_kept _ (numbers _ (binary op ty (number_of v) (number_of w)), tt))))
  value_in (Convert ty e) h = then_kept (value_in e h) (λ v p. done_kept _ (numbers _ (convert ty (number_of v)), tt))
  value_in (Assign ty (Object n) e) h =
      then_kept (value_in e h.0) (λ v p. then_kept {P = Always} (put_in n v (cells_within (may_be sets e) (sets n) v h.1 p)) (λ u q. done_kept v p))
  value_in (Assert c e) h = then_kept (value_in e h) (λ v p. then_kept {P = Always} (check_kept true c (holds v)) (λ u q. done_kept [] tt))

  -- ---- statements

  module _ (is_static : ℕ → Bool) (first : (n : ℕ) → is_static n ≡ false → has_pointer (cells n) ≡ true → sets n member.Invalid ≡ true) where
    pub declare_in : (n : ℕ) → is_static n ≡ false → In Always (declare real n)
    declare_in n h = then_kept {P = Always} (enliven_inside sets n) (λ u p. fill_in n 0 (cells n) (first n h))

    rest_in : (rest : Option ℕ → Run Ending) → ((from : Option ℕ) → In Always (rest from)) → (e : Ending) → In Always (or_rest rest e)
    rest_in rest h Next = record { by = λ s k. (h None).by s k }
    rest_in rest h Broke = done_kept Broke tt
    rest_in rest h Continued = done_kept Continued tt
    rest_in rest h (Returned v) = done_kept (Returned v) tt
    rest_in rest h (Jumping l) = record { by = λ s k. (h (Some l)).by s k }

    turned : (Pre : Store → Type 0) (o : Option Ending) → Turned Pre Always (tt, o)
    turned Pre None = tt
    turned Pre (Some e) = tt

    turn_in : (test : Run Value) (body : Run Ending) → {P : Value → Type 0} → In P test → In Always body → In Always (while_turn test body)
    turn_in test body h k = then_kept h (λ v p. either_kept (holds v) (then_kept {P = Always} k (λ e q. done_kept (to_turn e) tt)) (done_kept (Some Next) tt))

    loop_in : (l : ℕ) (turn : Bool → Run (Option Ending)) → In Always (turn true) → In Always (tree_loop real l turn true)
    loop_in l turn h =
        then_kept (loop_kept (InSets sets) Always tests l (λ b u. and_then (turn b) (λ o. done (tt, o))) (then_kept {P = Always} h (λ o p. done_kept (tt, o) (turned (InSets sets) o)))) (λ r p. done_kept r.1 tt)

    mutual
      pub act_in : (x : CheckedTree) → StatementIsTakenIn sets x → IsTidy is_static x → In Always (act real true x)
      act_in (Block all) h c = then_kept {P = Always} (all_in None all h c) (λ e p. then_kept {P = Always} (bury_inside sets (declared all)) (λ u q. done_kept e tt))
      act_in (Declare n) h c = then_kept {P = Always} (declare_in n c) (λ u p. done_kept Next tt)
      act_in (Static n) h c = done_kept Next tt
      act_in (Initialise n e) h c =
          then_kept {P = Always} (enliven_inside sets n) (λ u p. then_kept (value_in e h.0)
          (λ v q. then_kept {P = Always} (put_in n v (cells_within (may_be sets e) (sets n) v h.1 q)) (λ u r. done_kept Next tt)))
      act_in (Label n) h c = done_kept Next tt
      act_in (Evaluate e) h c = then_kept (value_in e h) (λ v p. done_kept Next tt)
      act_in (If e s) h c = then_kept (value_in e h.0) (λ v p. either_kept (holds v) (act_in s h.1 c.1) (done_kept Next tt))
      act_in (IfElse e s t) h c = then_kept (value_in e h.0) (λ v p. either_kept (holds v) (act_in s h.1 c.1) (act_in t h.2 c.3))
      act_in (While l named e s) h c = loop_in l (λ b. while_turn (value real b e) (act real b s)) (turn_in (value real true e) (act real true s) (value_in e h.0) (act_in s h.1 c.1))
      act_in (Return e) h c = then_kept (value_in e h) (λ v p. either_kept is_main (over_kept (Over Ended)) (done_kept (Returned v) tt))

      pub all_in : (from : Option ℕ) (all : CheckedTrees) → AreTakenIn sets all → AreTidy is_static all → In Always (act_all real true from all)
      all_in None none h c = done_kept Next tt
      all_in (Some l) none h c = done_kept (Jumping l) tt
      all_in None (more s rest) h c = then_kept {P = Always} (act_in s h.0 c.0) (λ e p. rest_in (λ from. act_all real true from rest) (λ from. all_in from rest h.1 c.2) e)
      all_in (Some l) (more s rest) h c = all_in (past l s) rest h.1 c.2

    -- ---- types and sets

    abbrev pub Sound : {A : Type 0} → (A → Type 0) → Run A → Type 0
    Sound P r = Kept (IsSound sets cells) (IsSound sets cells) P r

    module _ (g : Listing) (result : List CellType) where
      pub value_sound : (e : TypedTree) → IsTyped cells e → HasChecks g e → IsTakenIn sets e → Sound (λ v. CellsFit cells (type_of e) v × CellsIn (may_be sets e) v) (value real true e)
      value_sound e t c h = both sets cells (value_keep cells g Real tests is_main calls true e t c) (value_in e h)

      pub act_sound : (x : CheckedTree) → IsTypedStatement cells result x → StatementHasChecks g x → StatementIsTakenIn sets x → IsTidy is_static x → Sound (λ e. EndingFits cells g Real tests is_main calls result tt e × Always e) (act real true x)
      act_sound x t c h d = both sets cells (act_keep cells g Real tests is_main calls result tt true x t c) (act_in x h d)

      pub all_sound : (from : Option ℕ) (all : CheckedTrees) → AreTyped cells result all → HaveChecks g all → AreTakenIn sets all → AreTidy is_static all → Sound (λ e. EndingFits cells g Real tests is_main calls result tt e × Always e) (act_all real true from all)
      all_sound from all t c h d = both sets cells (all_keep cells g Real tests is_main calls result tt true from all t c) (all_in from all h d)

      pub put_sound : (n : ℕ) (vs : Value) → CellsFit cells (cells n) vs → CellsIn (sets n) vs → Sound (λ u. Anything u × Always u) (put (first_of n) vs)
      put_sound n vs f h = both sets cells (put_keep cells g Real tests is_main calls n vs f) (put_in n vs h)

      pub declare_sound : (n : ℕ) → is_static n ≡ false → Sound (λ u. Anything u × Always u) (declare real n)
      declare_sound n h = both sets cells (declare_keep cells g Real tests is_main calls n) (declare_in n h)
