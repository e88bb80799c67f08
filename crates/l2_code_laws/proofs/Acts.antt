-- Code keeps what cells and temporaries hold.
use Rattle.std.proofs.Common.{arith, ◌≡◌, refl, sym, subst, ◌≤◌, ℕ, zero, suc, Bool, true, false, length, Option, Some, None, IfSome, cond}
use Rattle.std.specs.Prelude.{◌==◌, slice_get}
use Rattle.std.proofs.lemmas.Bool.{eqb-true}
use Rattle.l2_bits.proofs.Wraps.{wrap_value}
use Rattle.l2_bits.specs.Values.{wrap}
use Rattle.l2_runs.specs.declared.cells.CellType.{CellType}
use Rattle.l2_runs.specs.declared.cells.CellType.TheVariants.{Integer, Pointer}
use Rattle.l2_runs.specs.declared.cells.CellValue.{CellValue}
use Rattle.l2_runs.specs.declared.cells.CellValue.TheVariants.{Number, Null, Invalid, At}
use Rattle.l2_runs.specs.declared.member.Member.TheVariants.{Object}
use Rattle.l2_runs.specs.declared.outcome.Outcome.TheVariants.{Ended}
use Rattle.l2_runs.specs.Fits.{Layout}
use Rattle.l2_runs.specs.Members.{targets, Within}
use Rattle.l2_runs.specs.Store.{Store, Address}
use Rattle.l2_runs.specs.Runs.{State, Run, Over, read, write}
use Rattle.l2_runs.specs.Keeps.{Anything}
use Rattle.l2_code.specs.declared.action.Operand.{Operand}
use Rattle.l2_code.specs.declared.action.Operand.TheVariants.{Constant, Temp}
use Rattle.l2_code.specs.declared.action.Computation.{Computation}
use Rattle.l2_code.specs.declared.action.Computation.TheVariants.{Numbers, Convert, Move, Pointers, Passes}
use Rattle.l2_code.specs.declared.action.Action.{Action}
use Rattle.l2_code.specs.declared.action.Action.TheVariants as action
use Rattle.l2_code.specs.Trees.{Node, Do, Block, Loop, Nodes, none, more}
use Rattle.l2_code.specs.Values.{Types, Temps, with_temp, operand_value, same_type, is_type, cell_of, is_true, passes, compute}
use Rattle.l2_code.specs.Machine.{Setting, Way, On, Out, or_stuck, act, follow, leave, close, node, nodes}
use Rattle.l2_code.specs.Sets.{Family, may_be, IsClosedResult, IsClosedAction, IsClosedNode, AreClosed}
use Rattle.l2_code.specs.WellFormed.{Known, Scope, with_known, Names, IsConstant, IsOfType, IsOperand, value_of, computation_gives, IsTypedComputation, IsTypedAction, behind, behind_node, IsTypedNode, AreTyped}
use Rattle.l2_code_laws.specs.Preserved.{ResultHolds, Preserves, LimitPreserves}
use Rattle.l2_code_laws.specs.Holding.{StoreHolds, KnownHolds, TempsHold, behind_nodes, WayHolds}
use Rattle.l2_code_laws.proofs.Preserving.{then_keep, done_keep, over_keep, either_keep, choose_keep, write_keep, enliven_keep, bury_keep, check_keep, loop_keep}
use Rattle.l2_code_laws.proofs.Values.{IsKnown, truth_known, numbers_known, converted_known, moved_known, pointers_known, number_known}
use Rattle.l2_code_laws.proofs.Stores.{same_constants, constants_back, hold_live, hold_write, hold_read}

-- a pointer points at this cell, whose type is like the one asked for
record Found (cells : Layout) (ty : CellType) (v : CellValue) (at : Address) : Type 0 where
  type : CellType
  there : slice_get (cells at.object) at.offset ≡ Some type
  same : same_type ty type ≡ true
  is : v ≡ At at.object at.offset

found : (cells : Layout) (ty : CellType) (v : CellValue) → IfSome (cell_of cells ty v) (Found cells ty v)
found cells ty (At o f) = go (slice_get (cells o) f) refl
  where
    pick : (u : CellType) → slice_get (cells o) f ≡ Some u → (t : Bool) → same_type ty u ≡ t → IfSome (cond t (Some (record { object = o; offset = f })) None) (Found cells ty (At o f))
    pick u e true s = record { type = u; there = e; same = s; is = refl }
    pick u e false s = tt

    go : (x : Option CellType) → slice_get (cells o) f ≡ x → IfSome (cond (is_type ty x) (Some (record { object = o; offset = f })) None) (Found cells ty (At o f))
    go None e = tt
    go (Some u) e = pick u e (same_type ty u) refl
found cells ty (Number z) = tt
found cells ty Null = tt
found cells ty Invalid = tt

module _ (names : Names) (f : Family) (small : (n : ℕ) → length (names.objects n) ≤ 65536) where
  abbrev Inv : Store → Type 0
  Inv store = StoreHolds names.objects f store

  abbrev Held : Scope → Temps → Type 0
  Held scope t = TempsHold names.objects f scope t

  -- ---- operands and temporaries

  operand_type : (scope : Scope) (t : Temps) (ty : CellType) (a : Operand) → IsOperand names.objects scope ty a → Held scope t → IsConstant names.objects ty (operand_value t a)
  operand_type scope t ty (Constant v) h k = h
  operand_type scope t ty (Temp n) h k = at (scope n) h (k.types n)
    where
      at : (x : Option Known) → IsOfType ty x → KnownHolds names.objects x (t n) → IsConstant names.objects ty (t n)
      at None e p = absurd e
      at (Some kn) e p = subst (λ (y : CellType). IsConstant names.objects y (t n)) e p.0

  operand_set : (scope : Scope) (t : Temps) (a : Operand) → Held scope t → Within (targets (operand_value t a)) (may_be f a)
  operand_set scope t (Constant v) k = λ m e. e
  operand_set scope t (Temp n) k = k.sets n

  temp_holds : (scope : Scope) (t : Temps) (n : ℕ) (kn : Known) (v : CellValue) → Held scope t → IsKnown names.objects (f.temp n) kn v → Held (with_known scope n kn) (with_temp t n v)
  temp_holds scope t n kn v k (p, q, r) = record { sets = λ i. set i (i == n) refl; types = λ i. type i (i == n) refl }
    where
      set : (i : ℕ) (x : Bool) → (i == n) ≡ x → Within (targets (cond x v (t i))) (f.temp i)
      set i true e = subst (λ j. Within (targets v) (f.temp j)) (sym (eqb-true i n e)) r
      set i false e = k.sets i

      type : (i : ℕ) (x : Bool) → (i == n) ≡ x → KnownHolds names.objects (cond x (Some kn) (scope i)) (cond x v (t i))
      type i true e = (p, q)
      type i false e = k.types i

  -- ---- instructions

  compute_known : (types : Types) → types.objects ≡ names.objects → (scope : Scope) (t : Temps) (store : Store) (n : ℕ) (c : Computation)
      → IsTypedComputation names scope c → IsClosedResult f n c → Held scope t → IfSome (compute types store t c) (IsKnown names.objects (f.temp n) (computation_gives c))
  compute_known types same scope t store n (Numbers op ty a b) h z k =
      numbers_known names.objects (f.temp n) op ty (operand_value t a) (operand_value t b) (operand_type scope t (Integer ty) a h.0 k)
  compute_known types same scope t store n (Convert ty a) h z k = converted_known names.objects (f.temp n) ty (operand_value t a)
  compute_known types same scope t store n (Move by a b) h z k =
      subst (λ (cells : Layout). IfSome (Rattle.l2_code.specs.Values.moved cells by (operand_value t a) (operand_value t b)) (IsKnown names.objects (f.temp n) (value_of Pointer))) (sym same)
      (moved_known names.objects (f.temp n) by (operand_value t a) (operand_value t b) small (operand_type scope t Pointer a h.1 k) (λ m e. z m (operand_set scope t a k m e)))
  compute_known types same scope t store n (Pointers op a b) h z k =
      pointers_known names.objects (f.temp n) op (operand_value t a) (operand_value t b) (operand_type scope t Pointer a h.0 k) (operand_type scope t Pointer b h.1 k)
  compute_known types same scope t store n (Passes test) h z k = truth_known names.objects (f.temp n) (passes types store t test)

  stuck_holds : {A : Type 0} (P : A → Type 0) (x : Option A) → IfSome x P → (s : State) → Inv s.store → ResultHolds Inv P (or_stuck x s)
  stuck_holds P None h s k = k
  stuck_holds P (Some x) h s k = (h, k)

  stuck_keep : {A : Type 0} (P : A → Type 0) (x : Option A) → IfSome x P → Preserves Inv P (or_stuck x)
  stuck_keep P x h = record { by = λ s k. stuck_holds P x h s k }

  same_number : (n : ℕ) → (n == n) ≡ true
  same_number n = grind arith

  -- the object at which an operand points is one that it may be
  pointed_set : (scope : Scope) (t : Temps) (a : Operand) (o i : ℕ) → operand_value t a ≡ At o i → Held scope t → may_be f a (Object o) ≡ true
  pointed_set scope t a o i e k =
      operand_set scope t a k (Object o) (subst (λ (v : CellValue). targets v (Object o) ≡ true) (sym e) (same_number o))

  module _ (g : Setting) (same : g.types.objects ≡ names.objects) where
    read_keep : (scope : Scope) (t : Temps) (n : ℕ) (ty : CellType) (a : Operand) → IsClosedAction f (action.Read n ty a) → Held scope t
        → (at : Address) → Found names.objects ty (operand_value t a) at → Preserves Inv (IsKnown names.objects (f.temp n) (value_of ty)) (read at)
    read_keep scope t n ty a z k at found = record { by = λ s i. (held s i, i) }
      where
        held : (s : State) → Inv s.store → IsKnown names.objects (f.temp n) (value_of ty) (Rattle.l2_runs.specs.Store.cell_at s.store at)
        held s i =
            let h = hold_read names.objects f s.store at found.type found.there i in
            (constants_back names.objects ty found.type _ found.same h.0, λ e. absurd (no e), λ m e. z at.object (pointed_set scope t a at.object at.offset found.is k) m (h.1 m e))
          where
            no : false ≡ true → ⊥
            no e = cc

    cell_found : (ty : CellType) (v : CellValue) → IfSome (cell_of g.types.objects ty v) (Found names.objects ty v)
    cell_found ty v = subst (λ (cells : Layout). IfSome (cell_of cells ty v) (Found names.objects ty v)) (sym same) (found names.objects ty v)

    write_held : (scope : Scope) (t : Temps) (ty : CellType) (a x : Operand) → IsOperand names.objects scope ty x → IsClosedAction f (action.Write ty a x) → Held scope t
        → (at : Address) → Found names.objects ty (operand_value t a) at → Preserves Inv Anything (write at (operand_value t x))
    write_held scope t ty a x h z k at found =
        write_keep Inv at (operand_value t x) (λ st i. hold_write names.objects f st at found.type (operand_value t x) found.there (
          same_constants names.objects ty found.type (operand_value t x) found.same (operand_type scope t ty x h k),
          λ m e. z at.object (pointed_set scope t a at.object at.offset found.is k) m (operand_set scope t x k m e),
        ) i)

    act_holds : (b : Bool) (a : Action) (scope : Scope) (t : Temps) → IsTypedAction names scope a → IsClosedAction f a → Held scope t
        → Preserves Inv (WayHolds names.objects f (behind scope a)) (act g b a t)
    act_holds b (action.Compute n x) scope t h z k =
        then_keep Inv (record { by = λ s i. stuck_holds (IsKnown names.objects (f.temp n) (computation_gives x)) (compute g.types s.store t x) (compute_known g.types same scope t s.store n x h z k) s i })
        (λ v p. done_keep Inv (On (with_temp t n v)) (temp_holds scope t n (computation_gives x) v k p))
    act_holds b (action.Read n ty a) scope t h z k =
        then_keep Inv (stuck_keep (Found names.objects ty (operand_value t a)) (cell_of g.types.objects ty (operand_value t a)) (cell_found ty (operand_value t a)))
        (λ at p. then_keep Inv (read_keep scope t n ty a z k at p) (λ v q. done_keep Inv (On (with_temp t n v)) (temp_holds scope t n (value_of ty) v k q)))
    act_holds b (action.Write ty a x) scope t h z k =
        then_keep Inv (stuck_keep (Found names.objects ty (operand_value t a)) (cell_of g.types.objects ty (operand_value t a)) (cell_found ty (operand_value t a)))
        (λ at p. then_keep Inv (write_held scope t ty a x h.1 z k at p) (λ u q. done_keep Inv (On t) k))
    act_holds b (action.Choice n ty) scope t h z k =
        then_keep Inv (choose_keep Inv)
        (λ w p. done_keep Inv (On (with_temp t n (Number (wrap ty w)))) (temp_holds scope t n (value_of (Integer ty)) _ k (number_known names.objects (f.temp n) ty (wrap ty w) (wrap_value ty w))))
    act_holds b (action.Assume a) scope t h z k = either_keep Inv (is_true (operand_value t a)) (done_keep Inv (On t) k) (record { by = λ s i. i })
    act_holds b (action.Check c a) scope t h z k = then_keep Inv (check_keep Inv b c (is_true (operand_value t a))) (λ u p. done_keep Inv (On t) k)
    act_holds b (action.Unless a n) scope t h z k = either_keep Inv (is_true (operand_value t a)) (done_keep Inv (On t) k) (done_keep Inv (Out n) tt)
    act_holds b (action.Goto n) scope t h z k = done_keep Inv (Out n) tt
    act_holds b (action.Live o) scope t h z k = then_keep Inv (enliven_keep Inv o (λ st i. hold_live names.objects f st o true i)) (λ u p. done_keep Inv (On t) k)
    act_holds b (action.Dead o) scope t h z k = then_keep Inv (bury_keep Inv o (λ st i. hold_live names.objects f st o false i)) (λ u p. done_keep Inv (On t) k)
    act_holds b action.End scope t h z k = over_keep Inv (Over Ended)

    -- ---- blocks and loops

    leave_holds : (scope : Scope) (t : Temps) → Held scope t → (other : Scope) (w : Way) → WayHolds names.objects f other w → WayHolds names.objects f scope (leave t w)
    leave_holds scope t k other (On u) p = k
    leave_holds scope t k other (Out zero) p = k
    leave_holds scope t k other (Out (suc n)) p = tt

    follow_holds : (scope behind : Scope) (next : Temps → Run Way) → ((t : Temps) → Held scope t → Preserves Inv (WayHolds names.objects f behind) (next t))
        → (w : Way) → WayHolds names.objects f scope w → Preserves Inv (WayHolds names.objects f behind) (follow next w)
    follow_holds scope behind next h (On t) p = record { by = λ s i. (h t p).by s i }
    follow_holds scope behind next h (Out n) p = done_keep Inv (Out n) tt

    module _ (limits : LimitPreserves Inv g.limit) where
      any_end : (o : Option ℕ) → Rattle.l2_code_laws.proofs.Preserving.Turned Inv Anything (λ (u : Unit {0}) (n : ℕ). Unit {0}) (tt, o)
      any_end None = tt
      any_end (Some n) = tt

      mutual
        pub node_holds : (b : Bool) (x : Node) (scope : Scope) (t : Temps) → IsTypedNode names scope x → IsClosedNode f x → Held scope t
            → Preserves Inv (WayHolds names.objects f (behind_node scope x)) (node g b x t)
        node_holds b (Do a) scope t h z k = act_holds b a scope t h z k
        node_holds b (Block all) scope t h z k =
            then_keep Inv (nodes_hold b all scope t h z k) (λ w p. done_keep Inv (leave t w) (leave_holds scope t k (behind_nodes scope all) w p))
        node_holds b (Loop l all) scope t h z k =
            then_keep Inv
            (then_keep Inv
            (loop_keep Inv Anything (λ (u : Unit {0}) (n : ℕ). Unit {0}) g.limit limits g.tests l _
            (λ c u p. then_keep Inv (then_keep Inv (nodes_hold c all scope t h.1 z k) (λ w q. done_keep Inv {P = Anything} (close w) tt)) (λ o q. done_keep Inv (tt, o) (any_end o)))
            b tt tt)
            (λ r p. done_keep Inv {P = Anything} r.1 tt))
            (λ n p. done_keep Inv (Out n) tt)

        pub nodes_hold : (b : Bool) (xs : Nodes) (scope : Scope) (t : Temps) → AreTyped names scope xs → AreClosed f xs → Held scope t
            → Preserves Inv (WayHolds names.objects f (behind_nodes scope xs)) (nodes g b xs t)
        nodes_hold b none scope t h z k = done_keep Inv (On t) k
        nodes_hold b (more x rest) scope t h z k =
            then_keep Inv (node_holds b x scope t h.0 z.0 k)
            (λ w p. follow_holds (behind_node scope x) (behind_nodes (behind_node scope x) rest) (nodes g b rest) (λ u q. nodes_hold b rest (behind_node scope x) u h.1 z.1 q) w p)
