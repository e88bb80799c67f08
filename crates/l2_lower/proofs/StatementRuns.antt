-- The code of a statement does what the statement does.
use Rattle.std.proofs.Common.{◌≡◌, ℕ, zero, suc, ℤ, Bool, true, false, List, [], ◌∷◌, ◌++◌, Option, Some, None, refl, sym, ap, subst, ◌∙◌, inl, inr}
use Rattle.std.specs.Prelude.{slice_get}
use Rattle.l2_bits.specs.declared.types.Ty.{Ty}
use Rattle.l2_bits.specs.Values.{wrap}
use Rattle.l2_bits.proofs.Wraps.{wrap_value}
use Rattle.l2_runs.specs.declared.cells.CellType.{CellType}
use Rattle.l2_runs.specs.declared.cells.CellType.TheVariants.{Integer, Pointer}
use Rattle.l2_runs.specs.declared.cells.CellValue.{CellValue}
use Rattle.l2_runs.specs.declared.cells.CellValue.TheVariants.{Number, Invalid}
use Rattle.l2_runs.specs.declared.outcome.Outcome.{Outcome}
use Rattle.l2_runs.specs.declared.outcome.Outcome.TheVariants.{Ended, OutOfChoices}
use Rattle.l2_runs.specs.Fits.{Layout, CellFits}
use Rattle.l2_runs.specs.Store.{with_live}
use Rattle.l2_runs.specs.Runs.{State, End, Over, Halt, Run, and_then, done, over, either, write, enliven, bury, bury_all}
use Rattle.l2_runs.specs.Loops.{Limit, Tests}
use Rattle.l2_runs.proofs.Stores.{from, from_next, fits_seam, fits_live}
use Rattle.l2_program.specs.Checked as tree
use Rattle.l2_program.specs.Checked.{TypedTree, CheckedTree, CheckedTrees}
use Rattle.l2_program.specs.Types.{type_of}
use Rattle.l2_program.specs.Names.{loops_in, all_loops_in}
use Rattle.l2_meaning.specs.Meaning.{Value, Ending, Next, Broke, Continued, Returned, Jumping, Calls, Setting, holds, value, put, first_of, fresh, fill, declare, declared, or_rest, to_turn, while_turn, tree_loop, act, act_all}
use Rattle.l2_meaning.specs.Scopes as scopes
use Rattle.l2_meaning.specs.Lawful.{IsTypedStatement, AreTyped, IsIn}
use Rattle.l2_code.specs.declared.action.Operand.{Operand}
use Rattle.l2_code.specs.declared.action.Operand.TheVariants.{Constant, Temp}
use Rattle.l2_code.specs.declared.action.Action.TheVariants as action
use Rattle.l2_code.specs.Trees.{Node, Do, Block, Loop, Nodes, none, more, join}
use Rattle.l2_code.specs.Values.{Temps, with_temp, operand_value, is_true}
use Rattle.l2_code.specs.Machine.{Way, On, Out, follow, leave, close, code_loop, node, nodes}
use Rattle.l2_code.specs.Machine as machine
use Rattle.l2_lower.specs.Alike.{AreUsedAlike}
use Rattle.l2_lower.specs.Emitting.{only, cell, expression, condition}
use Rattle.l2_lower.specs.Statements.{filled, declaration, initialised, deads, statement, statements}
use Rattle.l2_code.proofs.Items.{join-join}
use Rattle.l2_lower.proofs.Matches.{Match, Matches, then_matches, weaker_matches, done_matches, choose_matches, told_matches, alone_matches}
use Rattle.l2_lower.proofs.MatchLoops.{AreFine, StartsAlike, Turned, Left, loop_match}
use Rattle.l2_lower.proofs.Joins.{join_is, join_matches, one_is, assoc_twice}
use Rattle.l2_lower.proofs.Computing.{with_temp_same}
use Rattle.l2_lower.proofs.ExpressionRuns.{IsGiven, IsTested, code_here, tree_here, write_does, put_does, expression_gives, tested_by}

-- the cell at an offset
from_get : {A : Type 0} (xs : List A) (f : ℕ) (t : A) (ts : List A) → from f xs ≡ t ∷ ts → slice_get xs f ≡ Some t
from_get [] zero t ts e = cc
from_get [] (suc f) t ts e = cc
from_get (x ∷ xs) zero t ts e = cc
from_get (x ∷ xs) (suc f) t ts e = from_get xs f t ts e

-- a statement is left to what follows it alone
abbrev pub Leads : Ending → Way → Type 0
Leads Next (On u) = Unit {0}
Leads Next (Out n) = ⊥
Leads Broke w = ⊥
Leads Continued w = ⊥
Leads (Returned v) w = ⊥
Leads (Jumping l) w = ⊥

-- what is done leads on
abbrev pub GoesOn : Unit {0} → Way → Type 0
GoesOn u (On t) = Unit {0}
GoesOn u (Out n) = ⊥

-- on, or out of the innermost block
abbrev pub InBlock : Ending → Way → Type 0
InBlock Next (On u) = Unit {0}
InBlock Next (Out zero) = Unit {0}
InBlock Next (Out (suc n)) = ⊥
InBlock Broke w = ⊥
InBlock Continued w = ⊥
InBlock (Returned v) w = ⊥
InBlock (Jumping l) w = ⊥

-- on to the end of a turn, or out of the loop
abbrev pub InTurn : Option Ending → Way → Type 0
InTurn None (On u) = Unit {0}
InTurn None (Out n) = ⊥
InTurn (Some e) (On u) = ⊥
InTurn (Some e) (Out n) = (e ≡ Next) × (n ≡ 0)

abbrev pub AnyTurn : Unit {0} → Type 0
AnyTurn u = Unit {0}

-- how a loop is left
abbrev pub IsLeft : Ending → Unit {0} → ℕ → Type 0
IsLeft e u n = (e ≡ Next) × (n ≡ 0)

module _ (cells : Layout) (pointed : ℕ → List CellType) (Fine : End → Type 0) (fine : (o : Outcome) → Fine (Over o)) (limit : Limit) (tests : Tests) (calls : Calls) where
  abbrev pub code_at : machine.Setting
  code_at = code_here cells pointed Fine fine limit tests true

  abbrev pub tree_at : Setting
  tree_at = tree_here cells pointed Fine fine limit tests true calls true

  module _ (b : Bool) where
    -- one instruction that does what a run does, and then others
    pub first_does : {A A' : Type 0} {T : A' → Way → Type 0} (x : Node) (ys : Nodes) (t : Temps) (r : Run A) (f : A → Run A') → Matches cells Fine (λ a w. w ≡ On t) r (node code_at b x t) → ((a : A) → Matches cells Fine T (f a) (nodes code_at b ys t)) →
        Matches cells Fine T (and_then r f) (nodes code_at b (more x ys) t)
    first_does {T = T} x ys t r f h next = then_matches cells Fine h (λ a w e. subst (λ z. Matches cells Fine T (f a) (follow (nodes code_at b ys) z)) (sym e) (next a))

    live_does : (o : ℕ) (t : Temps) → Matches cells Fine (λ a w. w ≡ On t) (enliven o) (node code_at b (Do (action.Live o)) t)
    live_does o t = record { by = λ s k. (refl, refl, fits_live cells s.store o true k) }

    dead_does : (o : ℕ) (t : Temps) → Matches cells Fine (λ a w. w ≡ On t) (bury o) (node code_at b (Do (action.Dead o)) t)
    dead_does o t = record { by = λ s k. (refl, refl, fits_live cells s.store o false k) }

    deads_do : (os : List ℕ) (t : Temps) → Matches cells Fine GoesOn (bury_all os) (nodes code_at b (deads os) t)
    deads_do [] t = done_matches cells Fine tt (On t) tt
    deads_do (o ∷ os) t = first_does (Do (action.Dead o)) (deads os) t (bury o) (λ u. bury_all os) (dead_does o t) (λ u. deads_do os t)

    -- ---- declarations

    -- an integer cell takes a choice, and then others are filled
    filled_integer : (ty : Ty) (o f n : ℕ) (types : List CellType) (t : Temps) (ys : Nodes) (r : Run (Unit {0})) → from f (cells o) ≡ Integer ty ∷ types → ((u : Temps) → Matches cells Fine GoesOn r (nodes code_at b ys u)) →
        Matches cells Fine GoesOn (and_then (fresh (Integer ty)) (λ v. and_then (write (record { object = o; offset = f }) v) (λ u. r))) (nodes code_at b (more (Do (action.Choice n ty)) (more (Do (action.Write (Integer ty) (cell o f) (Temp n))) ys)) t)
    filled_integer ty o f n types t ys r e rest = then_matches cells Fine (then_matches cells Fine (choose_matches cells Fine (fine OutOfChoices)) chosen) written where
      chosen : (y z : ℤ) → y ≡ z → Matches cells Fine (λ v w. (w ≡ On (with_temp t n v)) × CellFits cells (Integer ty) v) (done (Number (wrap ty y))) (done (On (with_temp t n (Number (wrap ty z)))))
      chosen y z p =
          subst (λ x. Matches cells Fine (λ v w. (w ≡ On (with_temp t n v)) × CellFits cells (Integer ty) v) (done (Number (wrap ty y))) (done (On (with_temp t n (Number (wrap ty x)))))) p
          (done_matches cells Fine (Number (wrap ty y)) (On (with_temp t n (Number (wrap ty y)))) (refl, wrap_value ty y))

      written : (v : CellValue) (w : Way) → (w ≡ On (with_temp t n v)) × CellFits cells (Integer ty) v →
          Matches cells Fine GoesOn (and_then (write (record { object = o; offset = f }) v) (λ u. r)) (follow (nodes code_at b (more (Do (action.Write (Integer ty) (cell o f) (Temp n))) ys)) w)
      written v w (p, fits) =
          subst (λ z. Matches cells Fine GoesOn (and_then (write (record { object = o; offset = f }) v) (λ u. r)) (follow (nodes code_at b (more (Do (action.Write (Integer ty) (cell o f) (Temp n))) ys)) z)) (sym p)
          (first_does (Do (action.Write (Integer ty) (cell o f) (Temp n))) ys (with_temp t n v) (write (record { object = o; offset = f }) v) (λ u. r)
          (write_does cells pointed Fine fine limit tests b (Integer ty) o f (Temp n) (with_temp t n v) v (from_get (cells o) f (Integer ty) types e) (fits_seam cells (cells o) f (Integer ty) types v e fits) (with_temp_same t n v))
          (λ u. rest (with_temp t n v)))

    filled_does : (o f n : ℕ) (types : List CellType) (t : Temps) → from f (cells o) ≡ types → Matches cells Fine GoesOn (fill o f types) (nodes code_at b (filled n o f types).nodes t)
    filled_does o f n [] t e = done_matches cells Fine tt (On t) tt
    filled_does o f n (Integer ty ∷ types) t e =
        filled_integer ty o f n types t (filled (suc n) o (suc f) types).nodes (fill o (suc f) types) e (λ u. filled_does o (suc f) (suc n) types u (from_next (cells o) f (Integer ty) types e))
    filled_does o f n (Pointer ∷ types) t e =
        first_does (Do (action.Write Pointer (cell o f) (Constant Invalid))) (filled n o (suc f) types).nodes t (write (record { object = o; offset = f }) Invalid) (λ u. fill o (suc f) types)
        (write_does cells pointed Fine fine limit tests b Pointer o f (Constant Invalid) t Invalid (from_get (cells o) f Pointer types e) (fits_seam cells (cells o) f Pointer types Invalid e tt) refl)
        (λ u. filled_does o (suc f) n types t (from_next (cells o) f Pointer types e))

    pub declared_does : (o n : ℕ) (t : Temps) → Matches cells Fine GoesOn (declare tree_at o) (nodes code_at b (declaration cells n o).nodes t)
    declared_does o n t = first_does (Do (action.Live o)) (filled n o 0 (cells o)).nodes t (enliven o) (λ u. fill o 0 (cells o)) (live_does o t) (λ u. filled_does o 0 n (cells o) t refl)

    -- ---- ends

    ends_at : {A : Type 0} (T : A → Way → Type 0) (os : List ℕ) (t : Temps) (s s' : State) → AreUsedAlike s s' → Match cells Fine T (Halt (Over Ended) s) (nodes code_at b (join (deads os) (only action.End)) t s')
    ends_at T [] t s s' h = (refl, h, fine Ended)
    ends_at T (o ∷ os) t s s' h = ends_at T os t s (record s' { store = with_live s'.store o false }) (record { choices = h.choices; turns = h.turns; arrivals = h.arrivals })

    -- what dies before the end makes no difference
    pub ends_do : {A : Type 0} {T : A → Way → Type 0} (os : List ℕ) (t : Temps) → Matches cells Fine T (over {A = A} (Over Ended)) (nodes code_at b (join (deads os) (only action.End)) t)
    ends_do {T = T} os t = record { by = λ s k. ends_at T os t s s (record { choices = refl; turns = refl; arrivals = refl }) }

    -- ---- jumps

    -- on to the rest, or out of the innermost block
    unless_does : {A : Type 0} {T : A → Way → Type 0} (x : Bool) (a : Operand) (ys : Nodes) (u : Temps) (r q : Run A) → is_true (operand_value u a) ≡ x → Matches cells Fine T r (nodes code_at b ys u) → Matches cells Fine T q (done (Out 0)) →
        Matches cells Fine T (either x r q) (nodes code_at b (more (Do (action.Unless a 0)) ys) u)
    unless_does {T = T} x a ys u r q e h k =
        subst (λ z. Matches cells Fine T (either x r q) (and_then (either z (done (On u)) (done (Out 0))) (follow (nodes code_at b ys)))) (sym e) (go x) where
          go : (x : Bool) → Matches cells Fine T (either x r q) (and_then (either x (done (On u)) (done (Out 0))) (follow (nodes code_at b ys)))
          go true = record { by = λ s f. h.by s f }
          go false = record { by = λ s f. k.by s f }

    leaves : (t : Temps) (e : Ending) (w : Way) → InBlock e w → Leads e (leave t w)
    leaves t Next (On u) h = tt
    leaves t Next (Out zero) h = tt
    leaves t Next (Out (suc n)) h = absurd h
    leaves t Broke w h = absurd h
    leaves t Continued w h = absurd h
    leaves t (Returned v) w h = absurd h
    leaves t (Jumping l) w h = absurd h

    leads_in : (e : Ending) (w : Way) → Leads e w → InBlock e w
    leads_in Next (On u) h = tt
    leads_in Next (Out n) h = absurd h
    leads_in Broke w h = absurd h
    leads_in Continued w h = absurd h
    leads_in (Returned v) w h = absurd h
    leads_in (Jumping l) w h = absurd h

    -- a block of its own
    block_does : (r : Run Ending) (all : Nodes) (t : Temps) → Matches cells Fine InBlock r (nodes code_at b all t) → Matches cells Fine Leads r (nodes code_at b (more (Block all) none) t)
    block_does r all t h =
        subst (λ (q : Run Way). Matches cells Fine Leads r q) (sym (one_is code_at b (Block all) t))
        (alone_matches cells Fine h (λ e w p. done_matches cells Fine e (leave t w) (leaves t e w p)))

    -- ---- sides of a choice

    -- the first side, which jumps over the second
    first_side : (t : Temps) (r : Run Ending) (xs ys : Nodes) (u : Temps) → Matches cells Fine Leads r (nodes code_at b xs u) →
        Matches cells Fine InBlock r (and_then (and_then (nodes code_at b (join xs (only (action.Goto 1))) u) (λ w. done (leave t w))) (follow (nodes code_at b ys)))
    first_side t r xs ys u h =
        subst (λ (q : Run Way). Matches cells Fine InBlock r (and_then (and_then q (λ w. done (leave t w))) (follow (nodes code_at b ys)))) (sym (join_is code_at b xs (only (action.Goto 1)) u))
        (alone_matches cells Fine (alone_matches cells Fine (alone_matches cells Fine h goes) left) over)
      where
        goes : (e : Ending) (w : Way) → Leads e w → Matches cells Fine (λ e w. (e ≡ Next) × (w ≡ Out 1)) (done e) (follow (nodes code_at b (only (action.Goto 1))) w)
        goes Next (On v) p = done_matches cells Fine Next (Out 1) (refl, refl)
        goes Next (Out n) p = absurd p
        goes Broke w p = absurd p
        goes Continued w p = absurd p
        goes (Returned v) w p = absurd p
        goes (Jumping l) w p = absurd p

        left : (e : Ending) (w : Way) → (e ≡ Next) × (w ≡ Out 1) → Matches cells Fine (λ e w. (e ≡ Next) × (w ≡ Out 0)) (done e) (done (leave t w))
        left e w (p, q) = done_matches cells Fine e (leave t w) (p, ap (leave t) q)

        over : (e : Ending) (w : Way) → (e ≡ Next) × (w ≡ Out 0) → Matches cells Fine InBlock (done e) (follow (nodes code_at b ys) w)
        over e w (p, q) =
            subst (λ z. Matches cells Fine InBlock (done e) (follow (nodes code_at b ys) z)) (sym q)
            (subst (λ z. Matches cells Fine InBlock (done z) (done (Out 0))) (sym p) (done_matches cells Fine Next (Out 0) tt))

    sides_do : (a : Operand) (k n : ℕ) (t : Temps) (xs ys : Nodes) (r q : Run Ending) → ((u : Temps) → Matches cells Fine Leads r (nodes code_at b xs u)) → Matches cells Fine Leads q (nodes code_at b ys t) → (v : Value) (w : Way) → IsTested cells pointed Fine fine limit tests b a k n t v w →
        Matches cells Fine InBlock (either (holds v) r q) (and_then (and_then (follow (nodes code_at b (more (Do (action.Unless a 0)) (join xs (only (action.Goto 1))))) w) (λ w. done (leave t w))) (follow (nodes code_at b ys)))
    sides_do a k n t xs ys r q h h' v (On u) p =
        subst (λ z. Matches cells Fine InBlock (either (holds v) r q) (and_then (and_then (and_then (either z (done (On u)) (done (Out 0))) (follow (nodes code_at b (join xs (only (action.Goto 1)))))) (λ w. done (leave t w))) (follow (nodes code_at b ys)))) (sym p.is) (go (holds v)) where
          go : (x : Bool) → Matches cells Fine InBlock (either x r q) (and_then (and_then (and_then (either x (done (On u)) (done (Out 0))) (follow (nodes code_at b (join xs (only (action.Goto 1)))))) (λ w. done (leave t w))) (follow (nodes code_at b ys)))
          go true = record { by = λ s f. (first_side t r xs ys u (h u)).by s f }
          go false = record { by = λ s f. (weaker_matches cells Fine h' leads_in).by s f }
    sides_do a k n t xs ys r q h h' v (Out j) p = absurd p

    -- ---- items

    rest_does : (rest : Option ℕ → Run Ending) (ys : Nodes) → ((u : Temps) → Matches cells Fine Leads (rest None) (nodes code_at b ys u)) → (e : Ending) (w : Way) → Leads e w → Matches cells Fine Leads (or_rest rest e) (follow (nodes code_at b ys) w)
    rest_does rest ys h Next (On u) p = record { by = λ s k. (h u).by s k }
    rest_does rest ys h Next (Out n) p = absurd p
    rest_does rest ys h Broke w p = absurd p
    rest_does rest ys h Continued w p = absurd p
    rest_does rest ys h (Returned v) w p = absurd p
    rest_does rest ys h (Jumping l) w p = absurd p

    died : (os : List ℕ) (e : Ending) (w : Way) → Leads e w → Matches cells Fine Leads (and_then (bury_all os) (λ u. done e)) (follow (nodes code_at b (deads os)) w)
    died os Next (On u) p = told_matches cells Fine (λ z. Next) (deads_do os u) on where
      on : (z : Unit {0}) (w : Way) → GoesOn z w → Leads Next w
      on z (On v) q = tt
      on z (Out n) q = absurd q
    died os Next (Out n) p = absurd p
    died os Broke w p = absurd p
    died os Continued w p = absurd p
    died os (Returned v) w p = absurd p
    died os (Jumping l) w p = absurd p

    -- ---- turns

    turns_on : (e : Ending) (w : Way) → Leads e w → InTurn (to_turn e) w
    turns_on Next (On u) p = tt
    turns_on Next (Out n) p = absurd p
    turns_on Broke w p = absurd p
    turns_on Continued w p = absurd p
    turns_on (Returned v) w p = absurd p
    turns_on (Jumping l) w p = absurd p

    turn_does : (a : Operand) (k n : ℕ) (t : Temps) (ys : Nodes) (r : Run Ending) → ((u : Temps) → Matches cells Fine Leads r (nodes code_at b ys u)) → (v : Value) (w : Way) → IsTested cells pointed Fine fine limit tests b a k n t v w →
        Matches cells Fine InTurn (either (holds v) (and_then r (λ e. done (to_turn e))) (done (Some Next))) (follow (nodes code_at b (more (Do (action.Unless a 0)) ys)) w)
    turn_does a k n t ys r h v (On u) p = unless_does (holds v) a ys u (and_then r (λ e. done (to_turn e))) (done (Some Next)) p.is (told_matches cells Fine to_turn (h u) turns_on) (done_matches cells Fine (Some Next) (Out 0) (refl, refl))
    turn_does a k n t ys r h v (Out j) p = absurd p

  -- ---- loops

  module _ (l : ℕ) (ok : AreFine cells Fine l) (back : StartsAlike cells Fine limit) (turn : Bool → Run (Option Ending)) (body : Nodes) (t : Temps) (same : (c : Bool) → Matches cells Fine InTurn (turn c) (nodes code_at c body t)) where
    closed : (o : Option Ending) (w : Way) → InTurn o w → Turned cells Fine AnyTurn IsLeft l ok (tt, o) (tt, close w)
    closed None (On u) p = tt
    closed None (Out n) p = absurd p
    closed (Some e) (On u) p = absurd p
    closed (Some e) (Out n) p = p

    turns_do : (c : Bool) (u : Unit {0}) → AnyTurn u → Matches cells Fine (Turned cells Fine AnyTurn IsLeft l ok) (and_then (turn c) (λ o. done (tt, o))) (and_then (and_then (nodes code_at c body t) (λ w. done (close w))) (λ o. done (tt, o)))
    turns_do c u p = then_matches cells Fine (alone_matches cells Fine (same c) shut) (λ o n q. done_matches cells Fine (tt, o) (tt, n) q) where
      shut : (o : Option Ending) (w : Way) → InTurn o w → Matches cells Fine (λ o n. Turned cells Fine AnyTurn IsLeft l ok (tt, o) (tt, n)) (done o) (done (close w))
      shut o w q = done_matches cells Fine o (close w) (closed o w q)

    left_does : (b : Bool) → Matches cells Fine (λ e n. (e ≡ Next) × (n ≡ 0)) (tree_loop tree_at l turn b) (code_loop code_at l (λ c. and_then (nodes code_at c body t) (λ w. done (close w))) b)
    left_does b = then_matches cells Fine (loop_match cells Fine AnyTurn IsLeft l ok limit back tests (λ c u. and_then (turn c) (λ o. done (tt, o))) (λ c u. and_then (and_then (nodes code_at c body t) (λ w. done (close w))) (λ o. done (tt, o))) turns_do b tt tt) parts where
      parts : (r : (Unit {0}) × Ending) (q : (Unit {0}) × ℕ) → Left cells Fine AnyTurn IsLeft l ok r q → Matches cells Fine (λ e n. (e ≡ Next) × (n ≡ 0)) (done r.1) (done q.1)
      parts (u, e) (v, n) p = done_matches cells Fine e n p

    pub loop_does : (b : Bool) → Matches cells Fine Leads (tree_loop tree_at l turn b) (nodes code_at b (more (Block (more (Loop l body) none)) none) t)
    loop_does b = block_does b (tree_loop tree_at l turn b) (more (Loop l body) none) t
        (subst (λ (q : Run Way). Matches cells Fine InBlock (tree_loop tree_at l turn b) q) (sym (one_is code_at b (Loop l body) t)) (alone_matches cells Fine (left_does b) out))
      where
        out : (e : Ending) (n : ℕ) → (e ≡ Next) × (n ≡ 0) → Matches cells Fine InBlock (done e) (done (Out n))
        out e n (p, q) = subst (λ z. Matches cells Fine InBlock (done e) (done (Out z))) (sym q) (subst (λ z. Matches cells Fine InBlock (done z) (done (Out 0))) (sym p) (done_matches cells Fine Next (Out 0) tt))

  -- ---- statements

  module _ (result : List CellType) (back : StartsAlike cells Fine limit) where
    abbrev pub Does : Bool → Run Ending → Nodes → Temps → Type 0
    Does b r all t = Matches cells Fine Leads r (nodes code_at b all t)

    abbrev pub LoopsAreFine : List ℕ → Type 0
    LoopsAreFine ls = (l : ℕ) → IsIn l ls → AreFine cells Fine l

    abbrev given_by : Bool → TypedTree → ℕ → Temps → Type 0
    given_by b e n t = Matches cells Fine (IsGiven cells (type_of e) (expression n e).operand (expression n e).next n t) (value tree_at b e) (nodes code_at b (expression n e).nodes t)

    evaluated : (b : Bool) (types : List CellType) (a : Operand) (k n : ℕ) (t : Temps) (v : Value) (w : Way) → IsGiven cells types a k n t v w → Matches cells Fine Leads (done Next) (follow (nodes code_at b none) w)
    evaluated b types a k n t v (On u) p = done_matches cells Fine Next (On u) tt
    evaluated b types a k n t v (Out j) p = absurd p

    initialised_by : (b : Bool) (o : ℕ) (types : List CellType) (a : Operand) (k n : ℕ) (t : Temps) → cells o ≡ types → (v : Value) (w : Way) → IsGiven cells types a k n t v w →
        Matches cells Fine Leads (and_then (put (first_of o) v) (λ u. done Next)) (follow (nodes code_at b (initialised o types a)) w)
    initialised_by b o [] a k n t e v (On u) p = subst (λ vs. Matches cells Fine Leads (and_then (put (first_of o) vs) (λ u. done Next)) (done (On u))) (sym p.holds) (done_matches cells Fine Next (On u) tt)
    initialised_by b o (ty ∷ []) a k n t e v (On u) p = told_matches cells Fine (λ z. Next) (put_does cells pointed Fine fine limit tests b ty o a u v e p.holds) on where
      on : (z : Unit {0}) (w : Way) → w ≡ On u → Leads Next w
      on z w q = subst (λ x. Leads Next x) (sym q) tt
    initialised_by b o (ty ∷ ty' ∷ types) a k n t e v (On u) p = absurd p.holds
    initialised_by b o types a k n t e v (Out j) p = absurd p

    returned_by : (b : Bool) (scope : List ℕ) (types : List CellType) (a : Operand) (k n : ℕ) (t : Temps) (v : Value) (w : Way) → IsGiven cells types a k n t v w →
        Matches cells Fine Leads (either true (over (Over Ended)) (done (Returned v))) (follow (nodes code_at b (join (deads scope) (only action.End))) w)
    returned_by b scope types a k n t v (On u) p = record { by = λ s f. (ends_do b {A = Ending} {T = Leads} scope u).by s f }
    returned_by b scope types a k n t v (Out j) p = absurd p

    goes : (u : Unit {0}) (w : Way) → GoesOn u w → Leads Next w
    goes u (On t) p = tt
    goes u (Out n) p = absurd p

    one_side : (b : Bool) (a : Operand) (k n : ℕ) (t : Temps) (ys : Nodes) (r : Run Ending) → ((u : Temps) → Does b r ys u) → (v : Value) (w : Way) → IsTested cells pointed Fine fine limit tests b a k n t v w →
        Matches cells Fine InBlock (either (holds v) r (done Next)) (follow (nodes code_at b (more (Do (action.Unless a 0)) ys)) w)
    one_side b a k n t ys r h v (On u) p = unless_does b (holds v) a ys u r (done Next) p.is (weaker_matches cells Fine (h u) (leads_in b)) (done_matches cells Fine Next (Out 0) tt)
    one_side b a k n t ys r h v (Out j) p = absurd p

    turn_at : (b : Bool) (e : TypedTree) (n : ℕ) (t : Temps) (ys : Nodes) (r : Run Ending) → Matches cells Fine (IsTested cells pointed Fine fine limit tests b (condition n e).operand (condition n e).next n t) (value tree_at b e) (nodes code_at b (condition n e).nodes t) →
        ((u : Temps) → Does b r ys u) → Matches cells Fine InTurn (while_turn (value tree_at b e) r) (nodes code_at b (join (condition n e).nodes (more (Do (action.Unless (condition n e).operand 0)) ys)) t)
    turn_at b e n t ys r h h' = join_matches code_at b cells Fine (condition n e).nodes (more (Do (action.Unless (condition n e).operand 0)) ys) t (value tree_at b e) _ h (turn_does b (condition n e).operand (condition n e).next n t ys r h')

    in_left : (l : ℕ) (xs ys : List ℕ) → IsIn l xs → IsIn l (xs ++ ys)
    in_left l [] ys h = absurd h
    in_left l (x ∷ xs) ys (inl e) = inl e
    in_left l (x ∷ xs) ys (inr h) = inr (in_left l xs ys h)

    in_right : (l : ℕ) (xs ys : List ℕ) → IsIn l ys → IsIn l (xs ++ ys)
    in_right l [] ys h = h
    in_right l (x ∷ xs) ys h = inr (in_right l xs ys h)

    both_sides : (b : Bool) (e : TypedTree) (n : ℕ) (t : Temps) (xs ys : Nodes) (r q : Run Ending) → Matches cells Fine (IsTested cells pointed Fine fine limit tests b (condition n e).operand (condition n e).next n t) (value tree_at b e) (nodes code_at b (condition n e).nodes t) →
        ((u : Temps) → Does b r xs u) → Does b q ys t →
        Does b (and_then (value tree_at b e) (λ v. either (holds v) r q)) (more (Block (more (Block (join (condition n e).nodes (more (Do (action.Unless (condition n e).operand 0)) (join xs (only (action.Goto 1)))))) ys)) none) t
    both_sides b e n t xs ys r q h h' h'' = block_does b (and_then (value tree_at b e) (λ v. either (holds v) r q)) (more (Block (join (condition n e).nodes (more (Do (action.Unless (condition n e).operand 0)) (join xs (only (action.Goto 1)))))) ys) t
        (subst (λ (z : Run Way). Matches cells Fine InBlock (and_then (value tree_at b e) (λ v. either (holds v) r q)) z) (sym whole) (then_matches cells Fine h (λ v w p. sides_do b (condition n e).operand (condition n e).next n t xs ys r q h' h'' v w p)))
      where
        rest : Nodes
        rest = more (Do (action.Unless (condition n e).operand 0)) (join xs (only (action.Goto 1)))

        whole : nodes code_at b (more (Block (join (condition n e).nodes (more (Do (action.Unless (condition n e).operand 0)) (join xs (only (action.Goto 1)))))) ys) t
            ≡ and_then (nodes code_at b (condition n e).nodes t) (λ w. and_then (and_then (follow (nodes code_at b (more (Do (action.Unless (condition n e).operand 0)) (join xs (only (action.Goto 1))))) w) (λ w. done (leave t w))) (follow (nodes code_at b ys)))
        whole =
            ap {B = Run Way} (λ (z : Run Way). and_then (and_then z (λ w. done (leave t w))) (follow (nodes code_at b ys))) (join_is code_at b (condition n e).nodes (more (Do (action.Unless (condition n e).operand 0)) (join xs (only (action.Goto 1)))) t)
            ∙ (λ i s. assoc_twice (nodes code_at b (condition n e).nodes t s) (follow (nodes code_at b (more (Do (action.Unless (condition n e).operand 0)) (join xs (only (action.Goto 1)))))) (λ w. done (leave t w)) (follow (nodes code_at b ys)) i)

    mutual
      pub statement_does : (s : CheckedTree) → IsTypedStatement cells result s → LoopsAreFine (loops_in s) → (b : Bool) (scope : List ℕ) (n : ℕ) (t : Temps) → Does b (act tree_at b s) (statement cells scope n s).nodes t
      statement_does (tree.Block all) h ok b scope n t = join_matches code_at b cells Fine (statements cells scope n all).nodes (deads (declared all)) t (act_all tree_at b None all) _ (statements_do all h ok b scope n t) (died b (declared all))
      statement_does (tree.Declare o) h ok b scope n t = told_matches cells Fine (λ u. Next) (declared_does b o n t) goes
      statement_does (tree.Static o) h ok b scope n t = done_matches cells Fine Next (On t) tt
      statement_does (tree.Initialise o e) (h, is) ok b scope n t =
          first_does b (Do (action.Live o)) (join (expression n e).nodes (initialised o (type_of e) (expression n e).operand)) t (enliven o) _ (live_does b o t)
          (λ u. join_matches code_at b cells Fine (expression n e).nodes (initialised o (type_of e) (expression n e).operand) t (value tree_at b e) _ (expression_gives cells pointed Fine fine limit tests b calls true e h n t) (initialised_by b o (type_of e) (expression n e).operand (expression n e).next n t is))
      statement_does (tree.Label l) h ok b scope n t = done_matches cells Fine Next (On t) tt
      statement_does (tree.Evaluate e) h ok b scope n t =
          join_matches code_at b cells Fine (expression n e).nodes none t (value tree_at b e) _ (expression_gives cells pointed Fine fine limit tests b calls true e h n t) (evaluated b (type_of e) (expression n e).operand (expression n e).next n t)
      statement_does (tree.If e s) (h, is, k) ok b scope n t =
          block_does b (act tree_at b (tree.If e s)) (join (condition n e).nodes (more (Do (action.Unless (condition n e).operand 0)) (statement cells scope (condition n e).next s).nodes)) t
          (join_matches code_at b cells Fine (condition n e).nodes (more (Do (action.Unless (condition n e).operand 0)) (statement cells scope (condition n e).next s).nodes) t (value tree_at b e) _ (tested_by cells pointed Fine fine limit tests b calls true e n t is (expression_gives cells pointed Fine fine limit tests b calls true e h n t))
          (one_side b (condition n e).operand (condition n e).next n t (statement cells scope (condition n e).next s).nodes (act tree_at b s) (λ u. statement_does s k ok b scope (condition n e).next u)))
      statement_does (tree.IfElse e s z) (h, is, k, k') ok b scope n t =
          let m = (condition n e).next in
          let xs = statement cells scope m s in
          subst (λ all. Does b (act tree_at b (tree.IfElse e s z)) (more (Block (more (Block all) (statement cells scope xs.next z).nodes)) none) t) (sym (join-join (condition n e).nodes (more (Do (action.Unless (condition n e).operand 0)) xs.nodes) (only (action.Goto 1)))) (
          both_sides b e n t xs.nodes (statement cells scope xs.next z).nodes (act tree_at b s) (act tree_at b z) (tested_by cells pointed Fine fine limit tests b calls true e n t is (expression_gives cells pointed Fine fine limit tests b calls true e h n t))
          (λ u. statement_does s k (λ l p. ok l (in_left l (loops_in s) (loops_in z) p)) b scope m u) (statement_does z k' (λ l p. ok l (in_right l (loops_in s) (loops_in z) p)) b scope xs.next t))
      statement_does (tree.While l named e s) (h, is, k) ok b scope n t =
          let m = (condition n e).next in
          loop_does l (ok l (inl refl)) back (λ c. while_turn (value tree_at c e) (act tree_at c s)) (join (condition n e).nodes (more (Do (action.Unless (condition n e).operand 0)) (statement cells scope m s).nodes)) t
          (λ c. turn_at c e n t (statement cells scope m s).nodes (act tree_at c s) (tested_by cells pointed Fine fine limit tests c calls true e n t is (expression_gives cells pointed Fine fine limit tests c calls true e h n t)) (λ u. statement_does s k (λ l p. ok l (inr p)) c scope m u)) b
      statement_does (tree.Return e) (h, is) ok b scope n t =
          join_matches code_at b cells Fine (expression n e).nodes (join (deads scope) (only action.End)) t (value tree_at b e) _ (expression_gives cells pointed Fine fine limit tests b calls true e h n t) (returned_by b scope (type_of e) (expression n e).operand (expression n e).next n t)

      pub statements_do : (all : CheckedTrees) → AreTyped cells result all → LoopsAreFine (all_loops_in all) → (b : Bool) (scope : List ℕ) (n : ℕ) (t : Temps) → Does b (act_all tree_at b None all) (statements cells scope n all).nodes t
      statements_do tree.none h ok b scope n t = done_matches cells Fine Next (On t) tt
      statements_do (tree.more s rest) (h, k) ok b scope n t =
          let m = (statement cells scope n s).next in
          join_matches code_at b cells Fine (statement cells scope n s).nodes (statements cells (scopes.behind scope s) m rest).nodes t (act tree_at b s) _ (statement_does s h (λ l p. ok l (in_left l (loops_in s) (all_loops_in rest) p)) b scope n t)
          (rest_does b (λ from. act_all tree_at b from rest) (statements cells (scopes.behind scope s) m rest).nodes (λ u. statements_do rest k (λ l p. ok l (in_right l (loops_in s) (all_loops_in rest) p)) b (scopes.behind scope s) m u))
