-- What typed trees do keeps the types of cells, and gives values of the trees' types.
use Rattle.std.proofs.Common.{◌≡◌, ℕ, suc, Bool, true, false, not, List, [], ◌∷◌, Option, Some, None, refl, sym, subst, ◌∙◌}
use Rattle.l2_bits.specs.Values.{wrap}
use Rattle.l2_bits.specs.Operators.{convert}
use Rattle.l2_bits.proofs.Wraps.{wrap_value}
use Rattle.l2_bits.proofs.OperatorValues.{convert_value}
use Rattle.l2_runs.specs.declared.cells.CellType.{CellType}
use Rattle.l2_runs.specs.declared.cells.CellType.TheVariants.{Integer, Pointer}
use Rattle.l2_runs.specs.declared.cells.CellValue.{CellValue}
use Rattle.l2_runs.specs.declared.cells.CellValue.TheVariants.{Number, Invalid}
use Rattle.l2_runs.specs.declared.outcome.Outcome.TheVariants.{Ended}
use Rattle.l2_runs.specs.Numbers.{at_number}
use Rattle.l2_runs.specs.Fits.{Layout, CellFits, CellsFit, StoreFits}
use Rattle.l2_runs.specs.Runs.{State, Over, Run, and_then, done, check}
use Rattle.l2_runs.specs.Loops.{Limit, Tests}
use Rattle.l2_runs.specs.Operators.{unary, binary, unary_overflows, binary_overflows}
use Rattle.l2_runs.specs.Keeps.{ResultFits, Keeps, Anything, LimitKeeps}
use Rattle.l2_runs.proofs.Stores.{from, from_next, fits_seam, fits_read}
use Rattle.l2_runs.proofs.Keeping.{then_keep, done_keep, over_keep, either_keep, choose_keep, write_keep, enliven_keep, bury_all_keep, check_keep, Turned, loop_keep}
use Rattle.l2_runs.specs.declared.kind.Kind.{Kind}
use Rattle.l2_runs.specs.declared.kind.Kind.TheVariants.{Assertion, Overflow}
use Rattle.l2_program.specs.declared.program.CheckInfo.{CheckInfo}
use Rattle.l2_program.specs.Checked.{Object, TypedTree, Constant, Choice, Read, Unary, Binary, Convert, Assign, Assert, CheckedTree, Block, Declare, Static, Initialise, Label, Evaluate, If, IfElse, While, Return, CheckedTrees, none, more}
use Rattle.l2_program.specs.Types.{type_of, is_computing, is_arithmetic}
use Rattle.l2_meaning.specs.Meaning.{Value, Ending, Next, Broke, Continued, Returned, Jumping, Calls, Setting, number_of, holds, write_cells, put, first_of, fresh, fill, declare, value, declared, past, or_rest, to_turn, while_turn, tree_loop, act, act_all}
use Rattle.l2_meaning.specs.Lawful.{Listing, IsOfKind, HasCheck, lists_overflow, IsTyped, IsTypedStatement, AreTyped, HasChecks, StatementHasChecks, HaveChecks, IsSome}
use Rattle.l2_meaning.proofs.Numbers.{unary_value, binary_value}

module _ (cells : Layout) (g : Listing) (limit : Limit) (tests : Tests) (is_main : Bool) (calls : Calls) where
  abbrev pub here : Setting
  here = record { limit = limit; tests = tests; is_main = is_main; cells = cells; calls = calls }

  abbrev pub IsListed : ℕ → Type 0
  IsListed c = IsSome (at_number g.checks c)

  abbrev pub Keep : {A : Type 0} → (A → Type 0) → Run A → Type 0
  Keep IsSo r = Keeps cells IsListed IsSo r

  -- ---- objects

  -- what is written fits the cells from the offset on
  write_cells_keep : (n f : ℕ) (types : List CellType) (vs : List CellValue) → from f (cells n) ≡ types → CellsFit cells types vs → Keep Anything (write_cells n f vs)
  write_cells_keep n f [] [] e h = done_keep cells IsListed tt tt
  write_cells_keep n f [] (v ∷ vs) e h = absurd h
  write_cells_keep n f (t ∷ types) [] e h = absurd h
  write_cells_keep n f (t ∷ types) (v ∷ vs) e (p, q) =
      then_keep cells IsListed (write_keep cells IsListed (record { object = n; offset = f }) v (fits_seam cells (cells n) f t types v e p))
      (λ u w. write_cells_keep n (suc f) types vs (from_next (cells n) f t types e) q)

  pub put_keep : (n : ℕ) (vs : Value) → CellsFit cells (cells n) vs → Keep Anything (put (first_of n) vs)
  put_keep n vs h = write_cells_keep n 0 (cells n) vs refl h

  pub fresh_keep : (t : CellType) → Keep (CellFits cells t) (fresh t)
  fresh_keep (Integer ty) = then_keep cells IsListed (choose_keep cells IsListed) (λ c w. done_keep cells IsListed (Number (wrap ty c)) (wrap_value ty c))
  fresh_keep Pointer = done_keep cells IsListed Invalid tt

  fill_keep : (n f : ℕ) (types : List CellType) → from f (cells n) ≡ types → Keep Anything (fill n f types)
  fill_keep n f [] e = done_keep cells IsListed tt tt
  fill_keep n f (t ∷ types) e =
      then_keep cells IsListed (fresh_keep t)
      (λ v p. then_keep cells IsListed (write_keep cells IsListed (record { object = n; offset = f }) v (fits_seam cells (cells n) f t types v e p))
      (λ u w. fill_keep n (suc f) types (from_next (cells n) f t types e)))

  pub declare_keep : (n : ℕ) → Keep Anything (declare here n)
  declare_keep n = then_keep cells IsListed (enliven_keep cells IsListed n) (λ u w. fill_keep n 0 (cells n) refl)

  -- ---- expressions

  listed : (ok : Bool) (kind : Kind) (c : ℕ) → HasCheck g ok kind c → ¬ (c ≡ 0) → IsListed c
  listed true kind c h other = known (at_number g.checks c) h where
    known : (x : Option CheckInfo) → IsOfKind kind x → IsSome x
    known None h = absurd h
    known (Some i) h = tt
  listed false kind c h other = absurd (other h)

  pub check_holds : (y : Bool) (c : ℕ) (ok lists : Bool) (kind : Kind) → HasCheck g lists kind c → Keep Anything (check y c ok)
  check_holds y c ok lists kind h = check_keep cells IsListed y c ok (listed lists kind c h)

  -- a value of these types
  abbrev pub IsOf : List CellType → Value → Type 0
  IsOf types vs = CellsFit cells types vs

  pub value_keep : (y : Bool) (e : TypedTree) → IsTyped cells e → HasChecks g e → Keep (IsOf (type_of e)) (value here y e)
  value_keep y (Constant ty v) h c = done_keep cells IsListed (v ∷ []) (h, tt)
  value_keep y (Choice ty) h c = then_keep cells IsListed (choose_keep cells IsListed) (λ c w. done_keep cells IsListed (Number (wrap ty c) ∷ []) (wrap_value ty c, tt))
  value_keep y (Read ty (Object n)) h c = record { by = λ s k. ((fits_read cells s.store n ty k h, tt), k) }
  value_keep y (Unary op ty c e) (p, t) (q, r) =
      then_keep cells IsListed (value_keep y e p q)
      (λ v w. then_keep cells IsListed (check_holds y c (not (unary_overflows op ty (number_of v))) (lists_overflow g (is_computing op) ty) Overflow r)
      (λ u k. done_keep cells IsListed (Number (unary op ty (number_of v)) ∷ []) (unary_value op ty (number_of v), tt)))
  value_keep y (Binary op ty c a b) (p, t, q, u) (m, n, r) =
      then_keep cells IsListed (value_keep y a p m)
      (λ v k. then_keep cells IsListed (value_keep y b q n)
      (λ w l. then_keep cells IsListed (check_holds y c (not (binary_overflows op ty (number_of v) (number_of w))) (lists_overflow g (is_arithmetic op) ty) Overflow r)
      (λ u k. done_keep cells IsListed (Number (binary op ty (number_of v) (number_of w)) ∷ []) (binary_value op ty (number_of v) (number_of w), tt))))
  value_keep y (Convert ty e) (p, q) c =
      then_keep cells IsListed (value_keep y e p c) (λ v k. done_keep cells IsListed (Number (convert ty (number_of v)) ∷ []) (convert_value ty (number_of v), tt))
  value_keep y (Assign ty (Object n) e) (p, q, t) c =
      then_keep cells IsListed (value_keep y e q c)
      (λ v k. then_keep cells IsListed (put_keep n v (subst (λ x. CellsFit cells x v) (t ∙ sym p) k))
      (λ u w. done_keep cells IsListed v (subst (λ x. CellsFit cells x v) t k)))
  value_keep y (Assert c e) (p, t) (q, r) =
      then_keep cells IsListed (value_keep y e p q) (λ v k. then_keep cells IsListed (check_holds y c (holds v) g.is_reached Assertion r) (λ u w. done_keep cells IsListed [] tt))

  -- ---- statements

  module _ (result : List CellType) (back : LimitKeeps cells IsListed limit) where
    -- what is returned is of the function's type
    abbrev pub EndingFits : Ending → Type 0
    EndingFits Next = Unit {0}
    EndingFits Broke = Unit {0}
    EndingFits Continued = Unit {0}
    EndingFits (Returned v) = IsOf result v
    EndingFits (Jumping l) = Unit {0}

    rest_keep : (rest : Option ℕ → Run Ending) → ((from : Option ℕ) → Keep EndingFits (rest from)) → (e : Ending) → EndingFits e → Keep EndingFits (or_rest rest e)
    rest_keep rest h Next p = record { by = λ s k. (h None).by s k }
    rest_keep rest h Broke p = record { by = λ s k. (tt, k) }
    rest_keep rest h Continued p = record { by = λ s k. (tt, k) }
    rest_keep rest h (Returned v) p = record { by = λ s k. (p, k) }
    rest_keep rest h (Jumping l) p = record { by = λ s k. (h (Some l)).by s k }

    abbrev TurnFits : Option Ending → Type 0
    TurnFits None = Unit {0}
    TurnFits (Some e) = EndingFits e

    turn_fits : (e : Ending) → EndingFits e → TurnFits (to_turn e)
    turn_fits Next p = tt
    turn_fits Broke p = tt
    turn_fits Continued p = tt
    turn_fits (Returned v) p = p
    turn_fits (Jumping l) p = tt

    abbrev HandsNothing : Unit {0} → Ending → Type 0
    HandsNothing u e = EndingFits e

    turned : (o : Option Ending) → TurnFits o → Turned cells IsListed Anything HandsNothing (tt, o)
    turned None p = tt
    turned (Some e) p = p

    while_keep : {P : Value → Type 0} (test : Run Value) (body : Run Ending) → Keep P test → Keep EndingFits body → Keep TurnFits (while_turn test body)
    while_keep test body h k =
        then_keep cells IsListed h (λ v p. either_keep cells IsListed (holds v) (then_keep cells IsListed k (λ e q. done_keep cells IsListed (to_turn e) (turn_fits e q))) (done_keep cells IsListed (Some Next) tt))

    tree_loop_keep : (l : ℕ) (turn : Bool → Run (Option Ending)) → ((c : Bool) → Keep TurnFits (turn c)) → (y : Bool) → Keep EndingFits (tree_loop here l turn y)
    tree_loop_keep l turn h y =
        then_keep cells IsListed
        (loop_keep cells IsListed Anything HandsNothing limit back tests l (λ b u. and_then (turn b) (λ o. done (tt, o))) (λ c u p. then_keep cells IsListed (h c) (λ o q. done_keep cells IsListed (tt, o) (turned o q))) y tt tt)
        (λ r p. done_keep cells IsListed r.1 p)

    mutual
      pub act_keep : (y : Bool) (x : CheckedTree) → IsTypedStatement cells result x → StatementHasChecks g x → Keep EndingFits (act here y x)
      act_keep y (Block all) h c = then_keep cells IsListed (all_keep y None all h c) (λ e p. then_keep cells IsListed (bury_all_keep cells IsListed (declared all)) (λ u w. done_keep cells IsListed e p))
      act_keep y (Declare n) h c = then_keep cells IsListed (declare_keep n) (λ u w. done_keep cells IsListed Next tt)
      act_keep y (Static n) h c = done_keep cells IsListed Next tt
      act_keep y (Initialise n e) (q, t) c =
          then_keep cells IsListed (enliven_keep cells IsListed n)
          (λ u w. then_keep cells IsListed (value_keep y e q c)
          (λ v k. then_keep cells IsListed (put_keep n v (subst (λ x. CellsFit cells x v) (sym t) k)) (λ u w. done_keep cells IsListed Next tt)))
      act_keep y (Label n) h c = done_keep cells IsListed Next tt
      act_keep y (Evaluate e) h c = then_keep cells IsListed (value_keep y e h c) (λ v k. done_keep cells IsListed Next tt)
      act_keep y (If e s) (p, t, q) (c, d) = then_keep cells IsListed (value_keep y e p c) (λ v k. either_keep cells IsListed (holds v) (act_keep y s q d) (done_keep cells IsListed Next tt))
      act_keep y (IfElse e s z) (p, t, q, r) (c, d, f) = then_keep cells IsListed (value_keep y e p c) (λ v k. either_keep cells IsListed (holds v) (act_keep y s q d) (act_keep y z r f))
      act_keep y (While l named e s) (p, t, q) (c, d) =
          tree_loop_keep l (λ b. while_turn (value here b e) (act here b s)) (λ b. while_keep (value here b e) (act here b s) (value_keep b e p c) (act_keep b s q d)) y
      act_keep y (Return e) (p, t) c =
          then_keep cells IsListed (value_keep y e p c)
          (λ v k. either_keep cells IsListed is_main (over_keep cells IsListed (Over Ended) tt) (done_keep cells IsListed (Returned v) (subst (λ x. CellsFit cells x v) t k)))

      pub all_keep : (y : Bool) (from : Option ℕ) (all : CheckedTrees) → AreTyped cells result all → HaveChecks g all → Keep EndingFits (act_all here y from all)
      all_keep y None none h c = done_keep cells IsListed Next tt
      all_keep y (Some l) none h c = done_keep cells IsListed (Jumping l) tt
      all_keep y None (more s rest) (p, q) (c, d) =
          then_keep cells IsListed (act_keep y s p c) (λ e k. rest_keep (λ from. act_all here y from rest) (λ from. all_keep y from rest q d) e k)
      all_keep y (Some l) (more s rest) (p, q) (c, d) = all_keep y (past l s) rest q d

pub value_law : (cells : Layout) (g : Listing) (limit : Limit) (tests : Tests) (is_main : Bool) (calls : Calls) (counted : Bool) (e : TypedTree) → IsTyped cells e → HasChecks g e → (s : State) → StoreFits cells s.store →
    ResultFits cells (λ c. IsSome (at_number g.checks c)) (CellsFit cells (type_of e)) (value (record { limit = limit; tests = tests; is_main = is_main; cells = cells; calls = calls }) counted e s)
value_law cells g limit tests is_main calls counted e h c s k = (value_keep cells g limit tests is_main calls counted e h c).by s k
