-- Resolved code does what code does.
use Rattle.std.specs.Prelude.{if◌then◌else◌}
use Rattle.std.proofs.Common.{◌≡◌, refl, List, ap, sym, subst, ℕ, Bool, true, false, length, Option, Some, None, ◌≤◌, ◌<◌}
use Rattle.l2_runs.specs.Fits.{Layout}
use Rattle.l2_runs.specs.Store.{Store, Address}
use Rattle.l2_runs.specs.Runs.{Result, Run, on_go, and_then, done, stop, read, write}
use Rattle.l2_runs.specs.Numbers.{at_number}
use Rattle.l2_runs.specs.Keeps.{Anything}
use Rattle.l2_code.specs.declared.action.Operand.{Operand}
use Rattle.l2_code.specs.declared.action.Action.{Action}
use Rattle.l2_code.specs.declared.action.Action.TheVariants as action
use Rattle.l2_code.specs.declared.sets.Sets.{Sets}
use Rattle.l2_runs.specs.declared.cells.CellType.{CellType}
use Rattle.l2_code.specs.declared.code.CodeObject.{CodeObject}
use Rattle.l2_code.specs.Trees.{Node, Do, Block, Loop, Nodes, none, more, CodeTree}
use Rattle.l2_code.specs.Values.{Types, Temps, no_temps, with_temp, operand_value, cell_of}
use Rattle.l2_code.specs.Machine.{Setting, Way, On, Out, or_stuck, act, follow, leave, close, node, nodes}
use Rattle.l2_code.specs.Sets.{Family, family, HasCell, IsClosedNode, AreClosed}
use Rattle.l2_code.specs.Modes.{types_of, object_cells, limit_of, start}
use Rattle.l2_code.specs.WellFormed.{Scope, empty_scope, names_of, behind_node, IsTypedNode, AreTyped}
use Rattle.l2_code_laws.specs.Preserved.{Preserves, LimitPreserves}
use Rattle.l2_code_laws.specs.Holding.{StoreHolds, TempsHold, WayHolds, behind_nodes}
use Rattle.l2_code_laws.proofs.Preserving.{Turned, IsLeft, then_keep, done_keep, loop_keep}
use Rattle.l2_code_laws.proofs.Starts.{small_objects, limits_hold, start_holds}
use Rattle.l2_code_laws.proofs.Acts.{node_holds, nodes_hold}
use Rattle.l2_deref.specs.declared.candidate.Candidate.{Candidate}
use Rattle.l2_deref.specs.Candidates.{candidates, is_among}
use Rattle.l2_deref.specs.Among.{where_among, cell_among, act_among, node_among, nodes_among}
use Rattle.l2_deref.specs.Law.{ActsAtCandidates, RunsAlike}
use Rattle.l2_deref.proofs.Among.{candidates_law}
use Rattle.l2_deref.proofs.Agreeing.{Agree, same, then_agree, loop_agree}

among_all : (list : List Candidate) (o : Option Address) → ((a : Address) → o ≡ Some a → is_among list a ≡ true) → where_among list o ≡ o
among_all list None h = refl
among_all list (Some a) h = go (is_among list a) (h a refl)
  where
    go : (b : Bool) → b ≡ true → (if b then Some a else None) ≡ Some a
    go true e = refl
    go false e = absurd (cc)

module _ (c : CodeTree) (s : Sets) (small : (n : ℕ) → length ((types_of c).objects n) ≤ 65536) (g : Setting) (types : g.types ≡ types_of c) where
  abbrev f : Family
  f = family s

  abbrev cells : Layout
  cells = (types_of c).objects

  abbrev Inv : Store → Type 0
  Inv store = StoreHolds cells f store

  abbrev Held : Scope → Temps → Type 0
  Held scope t = TempsHold cells f scope t

  layout : g.types.objects ≡ cells
  layout = ap (λ (x : Types). x.objects) types

  -- where temporaries hold values in their sets, a cell is one of the candidates
  cell_same : (scope : Scope) (t : Temps) (ty : CellType) (a : Operand) → Held scope t → cell_among g.types.objects s ty a t ≡ cell_of g.types.objects ty (operand_value t a)
  cell_same scope t ty a k =
      let at : ActsAtCandidates c s t = candidates_law c s scope t k in
      subst (λ (x : Layout). cell_among x s ty a t ≡ cell_of x ty (operand_value t a)) (sym layout)
      (among_all (candidates cells s ty a) (cell_of cells ty (operand_value t a)) (λ x e. at.candidate ty a x e))

  act_agree : (b : Bool) (a : Action) (scope : Scope) (t : Temps) → Held scope t → Agree Inv (act g b a t) (act_among s g b a t)
  act_agree b (action.Read n ty a) scope t k = record { at = λ st i. ap (λ (o : Option Address). and_then (or_stuck o) (λ at. and_then (read at) (λ v. done (On (with_temp t n v)))) st) (cell_same scope t ty a k) }
  act_agree b (action.Write ty a x) scope t k = record { at = λ st i. ap (λ (o : Option Address). and_then (or_stuck o) (λ at. and_then (write at (operand_value t x)) (λ u. done (On t))) st) (cell_same scope t ty a k) }
  act_agree b (action.Compute n x) scope t k = same Inv (act g b (action.Compute n x) t)
  act_agree b (action.Choice n ty) scope t k = same Inv (act g b (action.Choice n ty) t)
  act_agree b (action.Assume a) scope t k = same Inv (act g b (action.Assume a) t)
  act_agree b (action.Check n a) scope t k = same Inv (act g b (action.Check n a) t)
  act_agree b (action.Unless a n) scope t k = same Inv (act g b (action.Unless a n) t)
  act_agree b (action.Goto n) scope t k = same Inv (act g b (action.Goto n) t)
  act_agree b (action.Live o) scope t k = same Inv (act g b (action.Live o) t)
  act_agree b (action.Dead o) scope t k = same Inv (act g b (action.Dead o) t)
  act_agree b action.End scope t k = same Inv (act g b action.End t)

  follow_agree : (scope : Scope) (next other : Temps → Run Way) → ((t : Temps) → Held scope t → Agree Inv (next t) (other t)) → (w : Way) → WayHolds cells f scope w → Agree Inv (follow next w) (follow other w)
  follow_agree scope next other h (On t) p = h t p
  follow_agree scope next other h (Out n) p = same Inv (done (Out n))

  module _ (limits : LimitPreserves Inv g.limit) where
    any_end : (o : Option ℕ) → Turned Inv Anything (λ (u : Unit {0}) (n : ℕ). Unit {0}) (tt, o)
    any_end None = tt
    any_end (Some n) = tt

    keeps : (b : Bool) (xs : Nodes) (scope : Scope) (t : Temps) → AreTyped (names_of c) scope xs → AreClosed f xs → Held scope t → Preserves Inv (WayHolds cells f (behind_nodes scope xs)) (nodes g b xs t)
    keeps b xs scope t h z k = nodes_hold (names_of c) f small g layout limits b xs scope t h z k

    -- a turn of a loop
    turn_keeps : (all : Nodes) (scope : Scope) (t : Temps) → AreTyped (names_of c) scope all → AreClosed f all → Held scope t → (y : Bool) (u : Unit {0}) → Anything u
        → Preserves Inv (Turned Inv Anything (λ (u : Unit {0}) (n : ℕ). Unit {0})) (and_then (and_then (nodes g y all t) (λ w. done (close w))) (λ o. done (tt, o)))
    turn_keeps all scope t h z k y u p =
        then_keep Inv (then_keep Inv (keeps y all scope t h z k) (λ w q. done_keep Inv {P = Anything} (close w) tt)) (λ o q. done_keep Inv (tt, o) (any_end o))

    mutual
      node_agree : (b : Bool) (x : Node) (scope : Scope) (t : Temps) → IsTypedNode (names_of c) scope x → IsClosedNode f x → Held scope t → Agree Inv (node g b x t) (node_among s g b x t)
      node_agree b (Do a) scope t h z k = act_agree b a scope t k
      node_agree b (Block all) scope t h z k = then_agree Inv (WayHolds cells f (behind_nodes scope all)) (keeps b all scope t h z k) (nodes_agree b all scope t h z k) (λ w p. same Inv (done (leave t w)))
      node_agree b (Loop l all) scope t h z k =
          then_agree Inv Anything (then_keep Inv (loop_keep Inv Anything (λ (u : Unit {0}) (n : ℕ). Unit {0}) g.limit limits g.tests l _ (turn_keeps all scope t h.1 z k) b tt tt) (λ r p. done_keep Inv {P = Anything} r.1 tt))
          (then_agree Inv (IsLeft Inv Anything (λ (u : Unit {0}) (n : ℕ). Unit {0})) (loop_keep Inv Anything (λ (u : Unit {0}) (n : ℕ). Unit {0}) g.limit limits g.tests l _ (turn_keeps all scope t h.1 z k) b tt tt)
          (loop_agree Inv Anything (λ (u : Unit {0}) (n : ℕ). Unit {0}) g.limit limits g.tests l _ _ (turn_keeps all scope t h.1 z k)
          (λ y u p. then_agree Inv Anything (then_keep Inv (keeps y all scope t h.1 z k) (λ w q. done_keep Inv {P = Anything} (close w) tt))
          (then_agree Inv (WayHolds cells f (behind_nodes scope all)) (keeps y all scope t h.1 z k) (nodes_agree y all scope t h.1 z k) (λ w q. same Inv (done (close w)))) (λ o q. same Inv (done (tt, o))))
          b tt tt)
          (λ r p. same Inv (done r.1)))
          (λ n p. same Inv (done (Out n)))

      pub nodes_agree : (b : Bool) (xs : Nodes) (scope : Scope) (t : Temps) → AreTyped (names_of c) scope xs → AreClosed f xs → Held scope t → Agree Inv (nodes g b xs t) (nodes_among s g b xs t)
      nodes_agree b none scope t h z k = same Inv (done (On t))
      nodes_agree b (more x rest) scope t h z k =
          then_agree Inv (WayHolds cells f (behind_node scope x)) (node_holds (names_of c) f small g layout limits b x scope t h.0 z.0 k) (node_agree b x scope t h.0 z.0 k)
          (λ w p. follow_agree (behind_node scope x) (nodes g b rest) (nodes_among s g b rest) (λ u q. nodes_agree b rest (behind_node scope x) u h.1 z.1 q) w p)

cell_there : (x : Option CodeObject) → HasCell x → 0 < length (object_cells x)
cell_there None h = absurd h
cell_there (Some o) h = h

pub runs_law : RunsAlike
runs_law c s w z mode tests choices turns =
    let g : Setting = record { limit = limit_of c (family s) mode; tests = tests; types = types_of c } in
    let held : TempsHold (types_of c).objects (family s) empty_scope no_temps = record { sets = λ n m e. absurd (cc); types = λ n. tt } in
    let agree = nodes_agree c s (small_objects c w) g refl (limits_hold c (family s) w z mode) true c.body empty_scope no_temps w.typed z.closed.actions held in
    let first = start_holds (types_of c).objects (family s) (small_objects c w) (λ n o e. cell_there (at_number c.objects o) (z.over.objects n o e)) c.objects (λ n. refl) (λ n o e. (w.objects n o e, z.closed.objects n o e)) in
    ap (λ (x : Result Way). on_go x (λ (v : Way). stop)) (agree.at (start c choices turns) first)
