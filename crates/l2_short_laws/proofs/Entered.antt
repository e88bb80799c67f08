-- The supply of a cut run that does what a short run does enters each loop.
use Rattle.std.proofs.Common.{◌≡◌, ℕ, zero, suc, pos, Bool, true, false, refl, subst, sym, List, ◌∷◌}
use Rattle.l2_code.specs.declared.action.Operand.{Operand}
use Rattle.l2_code.specs.declared.action.Action.{Action}
use Rattle.l2_code.specs.declared.action.Action.TheVariants as action
use Rattle.l2_code.specs.Trees.{Node, Do, Block, Loop, Nodes, none, more}
use Rattle.l2_supply.specs.Supply.{Supply, nil, one, two, left, right}
use Rattle.l2_ssa.specs.Walks as walks
use Rattle.l2_ssa.specs.Walks.{Setting, Walk, Frame, Kind, Plain, past, is_last, copy_frame, count_steps, count_name, end_turn, walk_copies, walk_loop, walk_action, walk_node, walk}
use Rattle.l2_ssa_laws.specs.Entering.{Enters}
use Rattle.l2_short_laws.proofs.Likes.{turns_enter, node_enters, nodes_enters}

module _ (g : Setting) (plain : (l : ℕ) → g.kind l ≡ Plain) where
  check_entered : (rk : Bool) (k : ℕ) (c a : Operand) (n : ℕ) (w : Walk) (u : Supply) → Enters g.types.objects (walks.on_check rk k c a n w).given u
  check_entered true k c a n w u = tt
  check_entered false k c a n w u = tt

  act_entered : (fs : List Frame) (c : Operand) (n : ℕ) (w : Walk) (a : Action) (u : Supply) → Enters g.types.objects (walk_action g fs c n w a).given u
  act_entered fs c n w (action.Compute i x) u = tt
  act_entered fs c n w (action.Read i ty a) u = tt
  act_entered fs c n w (action.Write ty a x) u = tt
  act_entered fs c n w (action.Choice i ty) u = tt
  act_entered fs c n w (action.Assume a) u = tt
  act_entered fs c n w (action.Check k a) u = check_entered g.ranks k c (walks.now w a) n w u
  act_entered fs c n w (action.Unless a d) u = tt
  act_entered fs c n w (action.Goto d) u = tt
  act_entered fs c n w (action.Live o) u = tt
  act_entered fs c n w (action.Dead o) u = tt
  act_entered fs c n w action.End u = tt

  copies_entered : (l : ℕ) (body : Frame → Operand → ℕ → Walk → walks.Out) (f : Supply → Supply) → ((fr : Frame) (d : Operand) (n : ℕ) (w : Walk) (u : Supply) → Enters g.types.objects (body fr d n w).given (f u))
      → (kind : Kind) (b c : Operand) (temps : ℕ → Operand) (k n : ℕ) (w : Walk) (u : Supply) → Enters g.types.objects (walk_copies g body l kind b c temps k n w).given (turns_enter f k u)
  copies_entered l body f h kind b c temps zero n w u = tt
  copies_entered l body f h kind b c temps (suc k) n w u =
      let x = count_steps (is_last k) w.path b c in
      let d = count_name (is_last k) c n in
      let o = body (copy_frame (is_last k) b) d (past n x) (record w { temps = temps }) in
      let n1 = past (past n x) o.steps in
      let et = end_turn g kind d l w.slots n1 o.after in
      (h (copy_frame (is_last k) b) d (past n x) (record w { temps = temps }) (right (left u)), copies_entered l body f h kind b c temps k (past n1 et.steps) et.after (right u))

  loop_entered : (l : ℕ) (body : Frame → Operand → ℕ → Walk → walks.Out) (f : Supply → Supply) → ((fr : Frame) (d : Operand) (n : ℕ) (w : Walk) (u : Supply) → Enters g.types.objects (body fr d n w).given (f u))
      → (kind : Kind) → kind ≡ Plain → (c : Operand) (n : ℕ) (w : Walk) (u : Supply) → Enters g.types.objects (walk_loop g kind body l c n w).given (two (one (pos 0)) (two nil (turns_enter f g.copies u)))
  loop_entered l body f h kind e c n w u =
      subst (λ kd. Enters g.types.objects (walk_loop g kd body l c n w).given (two (one (pos 0)) (two nil (turns_enter f g.copies u)))) (sym e)
      (refl, (tt, copies_entered l body f h Plain walks.F c w.temps g.copies n w u))

  mutual
    node_entered : (x : Node) (fs : List Frame) (c : Operand) (n : ℕ) (w : Walk) (u : Supply) → Enters g.types.objects (walk_node g x fs c n w).given (node_enters g.copies x u)
    node_entered (Do a) fs c n w u = act_entered fs c n w a u
    node_entered (Block all) fs c n w u = nodes_entered all (walks.Block ∷ fs) c n w u
    node_entered (Loop l all) fs c n w u = loop_entered l (λ f d k v. walk g all (f ∷ fs) d k v) (nodes_enters g.copies all) (λ f d k v z. nodes_entered all (f ∷ fs) d k v z) (g.kind l) (plain l) c n w u

    pub nodes_entered : (xs : Nodes) (fs : List Frame) (c : Operand) (n : ℕ) (w : Walk) (u : Supply) → Enters g.types.objects (walk g xs fs c n w).given (nodes_enters g.copies xs u)
    nodes_entered none fs c n w u = tt
    nodes_entered (more x rest) fs c n w u =
        let o = walk_node g x fs c n w in
        (node_entered x fs c n w (left u), nodes_entered rest fs c (past n o.steps) o.after (right u))
