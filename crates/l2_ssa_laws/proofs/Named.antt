-- The goals of a walk's events are rows, rankings and checks of its code.
use Rattle.std.proofs.Common.{arith, ◌≡◌, ℕ, zero, suc, ◌+◌, ◌≤◌, Bool, true, false, refl, sym, subst, List, [], ◌∷◌, ◌++◌, length}
use Rattle.l2_code.specs.declared.action.Operand.{Operand}
use Rattle.l2_code.specs.declared.action.Operand.TheVariants.{Temp}
use Rattle.l2_code.specs.declared.action.Action.{Action}
use Rattle.l2_code.specs.declared.action.Action.TheVariants as action
use Rattle.l2_code.specs.Trees.{CodeTree, Node, Do, Block, Loop, Nodes, none, more}
use Rattle.l2_code.specs.WellFormed.{Scope, IsNumber, IsTypedAction, IsTypedNode, AreTyped, behind_node, names_of, empty_scope}
use Rattle.l2_ssa.specs.Walks as walks
use Rattle.l2_ssa.specs.Walks.{Setting, Slot, Walk, Frame, Event, Kind, Bottom, Plain, Rows, past, is_last, copy_frame, count_steps, count_name, end_rows, end_rank, end_turn, scatter, head_rows, walk_copies, walk_loop, walk_action, walk_node, walk}
use Rattle.l2_ssa.specs.Law.{setting_of, first_walk}
use Rattle.l2_ssa_laws.specs.Events.{IsRowOf, HasRows, AreNamed, EventsNamed}

module _ (c : CodeTree) (g : Setting) where
  abbrev Named : walks.Out → Type 0
  Named o = AreNamed c g.kind g.ranks o.events

  both_named : (es fs : List Event) → AreNamed c g.kind g.ranks es → AreNamed c g.kind g.ranks fs → AreNamed c g.kind g.ranks (es ++ fs)
  both_named [] fs h k = k
  both_named (e ∷ es) fs h k = (h.0, both_named es fs h.1 k)

  check_named : (rk : Bool) → g.ranks ≡ rk → (k : ℕ) → IsNumber (length c.checks) k → (d a : Operand) (n : ℕ) (w : Walk) → Named (walks.on_check rk k d a n w)
  check_named true e k h d a n w = tt
  check_named false e k h d a n w = ((e, h), tt)

  act_named : (fs : List Frame) (d : Operand) (n : ℕ) (w : Walk) (scope : Scope) (a : Action) → IsTypedAction (names_of c) scope a → Named (walk_action g fs d n w a)
  act_named fs d n w scope (action.Compute i x) h = tt
  act_named fs d n w scope (action.Read i ty a) h = tt
  act_named fs d n w scope (action.Write ty a x) h = tt
  act_named fs d n w scope (action.Choice i ty) h = tt
  act_named fs d n w scope (action.Assume a) h = tt
  act_named fs d n w scope (action.Check k a) h = check_named g.ranks refl k h.0 d (walks.now w a) n w
  act_named fs d n w scope (action.Unless a e) h = tt
  act_named fs d n w scope (action.Goto e) h = tt
  act_named fs d n w scope (action.Live o) h = tt
  act_named fs d n w scope (action.Dead o) h = tt
  act_named fs d n w scope action.End h = tt

  module _ (l : ℕ) (number : IsNumber (length c.loops) l) where
    rows_named : (r : ℕ) → g.kind l ≡ Rows r → (p d : Operand) (i others n : ℕ) (w : Walk) → 1 ≤ i → i + others ≤ suc r → Named (end_rows g p d l i others n w)
    rows_named r e p d i zero n w a b = tt
    rows_named r e p d i (suc others) n w a b =
        let low : i ≤ r = omega (arith, b) in
        let here : IsRowOf (Rows r) i = (a, low) in
        ((number, subst (λ kd. IsRowOf kd i) (sym e) here), rows_named r e p d (suc i) others (suc (suc (suc (suc n)))) (walks.with_path w (Temp (suc (suc (suc n))))) (omega arith) (omega (arith, b)))

    rank_named : (r : ℕ) → g.kind l ≡ Rows r → (rk : Bool) → g.ranks ≡ rk → (p d : Operand) (old : List Slot) (n : ℕ) (w : Walk) → Named (end_rank g rk p d l old n w)
    rank_named r e false q p d old n w = tt
    rank_named r e true q p d old n w = ((q, number, subst HasRows (sym e) tt), tt)

    end_named : (kind : Kind) → g.kind l ≡ kind → (d : Operand) (old : List Slot) (n : ℕ) (w : Walk) → Named (end_turn g kind d l old n w)
    end_named Bottom e d old n w = ((number, subst (λ kd. IsRowOf kd 0) (sym e) refl), tt)
    end_named Plain e d old n w = tt
    end_named (Rows r) e d old n w =
        let o = end_rows g w.path d l 1 r n w in
        both_named o.events (end_rank g g.ranks w.path d l old (past n o.steps) o.after).events (rows_named r e w.path d 1 r n w (omega arith) (omega arith)) (rank_named r e g.ranks refl w.path d old (past n o.steps) o.after)

    module _ (body : Frame → Operand → ℕ → Walk → walks.Out) (h : (fr : Frame) (d : Operand) (n : ℕ) (w : Walk) → Named (body fr d n w)) where
      copies_named : (kind : Kind) → g.kind l ≡ kind → (b d : Operand) (temps : ℕ → Operand) (k n : ℕ) (w : Walk) → Named (walk_copies g body l kind b d temps k n w)
      copies_named kind e b d temps zero n w = tt
      copies_named kind e b d temps (suc k) n w =
          let x = count_steps (is_last k) w.path b d in
          let i = count_name (is_last k) d n in
          let o = body (copy_frame (is_last k) b) i (past n x) (record w { temps = temps }) in
          let n1 = past (past n x) o.steps in
          let p = end_turn g kind i l w.slots n1 o.after in
          let q = walk_copies g body l kind b d temps k (past n1 p.steps) p.after in
          both_named o.events (p.events ++ q.events) (h (copy_frame (is_last k) b) i (past n x) (record w { temps = temps }))
          (both_named p.events q.events (end_named kind e i w.slots n1 o.after) (copies_named kind e b d temps k (past n1 p.steps) p.after))

      loop_named : (kind : Kind) → g.kind l ≡ kind → (d : Operand) (n : ℕ) (w : Walk) → Named (walk_loop g kind body l d n w)
      loop_named Bottom e d n w = copies_named Bottom e walks.F d w.temps g.copies n w
      loop_named Plain e d n w = copies_named Plain e walks.F d w.temps g.copies n w
      loop_named (Rows r) e d n w =
          let s = scatter g w.path (Temp n) (g.mods l) (suc n) w in
          let n1 = past (suc n) s.steps in
          let hd = head_rows g w.path (Temp n) l 1 r n1 s.after in
          copies_named (Rows r) e (Temp n) d w.temps g.copies (past n1 hd.steps) hd.walk

  mutual
    node_named : (x : Node) (scope : Scope) → IsTypedNode (names_of c) scope x → (fs : List Frame) (d : Operand) (n : ℕ) (w : Walk) → Named (walk_node g x fs d n w)
    node_named (Do a) scope h fs d n w = act_named fs d n w scope a h
    node_named (Block all) scope h fs d n w = nodes_named all scope h (walks.Block ∷ fs) d n w
    node_named (Loop l all) scope h fs d n w = loop_named l h.0 (λ fr i k v. walk g all (fr ∷ fs) i k v) (λ fr i k v. nodes_named all scope h.1 (fr ∷ fs) i k v) (g.kind l) refl d n w

    nodes_named : (xs : Nodes) (scope : Scope) → AreTyped (names_of c) scope xs → (fs : List Frame) (d : Operand) (n : ℕ) (w : Walk) → Named (walk g xs fs d n w)
    nodes_named none scope h fs d n w = tt
    nodes_named (more x rest) scope h fs d n w =
        let o = walk_node g x fs d n w in
        both_named o.events (walk g rest fs d (past n o.steps) o.after).events (node_named x scope h.0 fs d n w) (nodes_named rest (behind_node scope x) h.1 fs d (past n o.steps) o.after)

pub events_named : EventsNamed
events_named c f w k kind ranks = nodes_named c (setting_of c f k kind ranks) c.body empty_scope w.typed [] walks.T 0 (first_walk c)
