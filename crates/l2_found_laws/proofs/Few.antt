-- Heads are arrived at no more often than the code weighs.
use Rattle.std.proofs.Common.{arith, ◌≡◌, ℕ, zero, suc, ◌+◌, ◌*◌, ◌≤◌, Bool, true, false, refl, ap, List, [], ◌∷◌, ◌++◌, length}
use Rattle.std.specs.Prelude.{if◌then◌else◌}
use Rattle.l2_code.specs.declared.action.Operand.{Operand}
use Rattle.l2_code.specs.declared.action.Operand.TheVariants.{Temp}
use Rattle.l2_code.specs.declared.action.Action.{Action}
use Rattle.l2_code.specs.declared.action.Action.TheVariants as action
use Rattle.l2_code.specs.Trees.{CodeTree, Node, Do, Block, Loop, Nodes, none, more}
use Rattle.l2_code.specs.Sets.{Family}
use Rattle.l2_code.specs.Sizes.{node_size, nodes_size, end_weight}
use Rattle.l2_ssa.specs.Steps.{Names, on}
use Rattle.l2_ssa.specs.Walks as walks
use Rattle.l2_ssa.specs.Walks.{Setting, Slot, Walk, Frame, Kind, Bottom, Plain, Rows, past, is_last, copy_frame, count_steps, count_name, end_rows, end_rank, end_turn, scatter, head_rows, walk_copies, walk_loop, walk_action, walk_node, walk}
use Rattle.l2_ssa.specs.Law.{setting_of, first_walk, ssa}
use Rattle.l2_short_laws.specs.Used.{arrivals}
use Rattle.l2_found_laws.specs.Found.{TurnsFew}

length_both : {A : Type 0} (xs ys : List A) → length (xs ++ ys) ≡ length xs + length ys
length_both [] ys = omega arith
length_both (x ∷ xs) ys = let e = length_both xs ys in omega (arith, e)

arrivals_few : (s : Names) (n : ℕ) (hs : List Operand) → arrivals s n hs ≤ n + length hs
arrivals_few s n [] = omega arith
arrivals_few s n (h ∷ hs) = go (on s h) (λ i. arrivals_few s i hs)
  where
    go : (b : Bool) → ((i : ℕ) → arrivals s i hs ≤ i + length hs) → arrivals s (if b then suc n else n) hs ≤ n + length (h ∷ hs)
    go true k = let e = k (suc n) in omega (arith, e)
    go false k = let e = k n in omega (arith, e)

-- ---- ends of turns have no heads

rows_headless : (g : Setting) (p c : Operand) (l i others n : ℕ) (w : Walk) → (end_rows g p c l i others n w).heads ≡ []
rows_headless g p c l i zero n w = refl
rows_headless g p c l i (suc others) n w = rows_headless g p c l (suc i) others (suc (suc (suc (suc n)))) (walks.with_path w (Temp (suc (suc (suc n)))))

rank_headless : (g : Setting) (rk : Bool) (p c : Operand) (l : ℕ) (old : List Slot) (n : ℕ) (w : Walk) → (end_rank g rk p c l old n w).heads ≡ []
rank_headless g true p c l old n w = refl
rank_headless g false p c l old n w = refl

end_headless : (g : Setting) (kind : Kind) (c : Operand) (l : ℕ) (old : List Slot) (n : ℕ) (w : Walk) → (end_turn g kind c l old n w).heads ≡ []
end_headless g Bottom c l old n w = refl
end_headless g Plain c l old n w = refl
end_headless g (Rows r) c l old n w =
    let o = end_rows g w.path c l 1 r n w in
    λ i. rows_headless g w.path c l 1 r n w i ++ rank_headless g g.ranks w.path c l old (past n o.steps) o.after i

-- ---- code

module _ (c : CodeTree) (f : Family) (rows : List ℕ) (g : Setting) where
  abbrev Few : ℕ → walks.Out → Type 0
  Few n o = length o.heads ≤ n

  check_few : (rk : Bool) (k : ℕ) (d a : Operand) (n : ℕ) (w : Walk) → (walks.on_check rk k d a n w).heads ≡ []
  check_few true k d a n w = refl
  check_few false k d a n w = refl

  act_headless : (fs : List Frame) (d : Operand) (n : ℕ) (w : Walk) (a : Action) → (walk_action g fs d n w a).heads ≡ []
  act_headless fs d n w (action.Compute i x) = refl
  act_headless fs d n w (action.Read i ty a) = refl
  act_headless fs d n w (action.Write ty a x) = refl
  act_headless fs d n w (action.Choice i ty) = refl
  act_headless fs d n w (action.Assume a) = refl
  act_headless fs d n w (action.Check k a) = check_few g.ranks k d (walks.now w a) n w
  act_headless fs d n w (action.Unless a e) = refl
  act_headless fs d n w (action.Goto e) = refl
  act_headless fs d n w (action.Live o) = refl
  act_headless fs d n w (action.Dead o) = refl
  act_headless fs d n w action.End = refl

  module _ (l : ℕ) (body : Frame → Operand → ℕ → Walk → walks.Out) (most : ℕ) (few : (fr : Frame) (d : Operand) (n : ℕ) (w : Walk) → Few most (body fr d n w)) where
    abbrev turn : ℕ
    turn = most + end_weight rows l

    one_turn : (hs ends rest : ℕ) (k : ℕ) → hs ≤ most → ends ≡ 0 → rest ≤ k * turn → suc (hs + (ends + rest)) ≤ suc k * turn
    one_turn hs ends rest k a b h =
        let positive : suc most ≤ turn = omega arith in
        let step : suc k * turn ≡ turn + k * turn = grind arith in
        omega (arith, a, b, h, positive, step)

    copies_few : (kind : Kind) (b d : Operand) (temps : ℕ → Operand) (k n : ℕ) (w : Walk) → Few (k * turn) (walk_copies g body l kind b d temps k n w)
    copies_few kind b d temps zero n w = omega arith
    copies_few kind b d temps (suc k) n w =
        let x = count_steps (is_last k) w.path b d in
        let e = count_name (is_last k) d n in
        let o = body (copy_frame (is_last k) b) e (past n x) (record w { temps = temps }) in
        let n1 = past (past n x) o.steps in
        let p = end_turn g kind e l w.slots n1 o.after in
        let q = walk_copies g body l kind b d temps k (past n1 p.steps) p.after in
        let hs = length_both o.heads (p.heads ++ q.heads) in
        let ends = length_both p.heads q.heads in
        let here : suc (length o.heads + (length p.heads + length q.heads)) ≤ suc k * turn = one_turn (length o.heads) (length p.heads) (length q.heads) k
        (few (copy_frame (is_last k) b) e (past n x) (record w { temps = temps })) (ap length (end_headless g kind e l w.slots n1 o.after))
        (copies_few kind b d temps k (past n1 p.steps) p.after) in
        omega (arith, hs, ends, here)

    loop_few : (kind : Kind) (d : Operand) (n : ℕ) (w : Walk) → Few (g.copies * turn) (walk_loop g kind body l d n w)
    loop_few Bottom d n w = copies_few Bottom walks.F d w.temps g.copies n w
    loop_few Plain d n w = copies_few Plain walks.F d w.temps g.copies n w
    loop_few (Rows r) d n w =
        let s = scatter g w.path (Temp n) (g.mods l) (suc n) w in
        let n1 = past (suc n) s.steps in
        let h = head_rows g w.path (Temp n) l 1 r n1 s.after in
        copies_few (Rows r) (Temp n) d w.temps g.copies (past n1 h.steps) h.walk

  mutual
    node_few : (x : Node) (fs : List Frame) (d : Operand) (n : ℕ) (w : Walk) → Few (node_size c f g.copies rows x) (walk_node g x fs d n w)
    node_few (Do a) fs d n w = let e : length (walk_action g fs d n w a).heads ≡ 0 = ap length (act_headless fs d n w a) in omega (arith, e)
    node_few (Block all) fs d n w = nodes_few all (walks.Block ∷ fs) d n w
    node_few (Loop l all) fs d n w =
        let e = loop_few l (λ fr d k v. walk g all (fr ∷ fs) d k v) (nodes_size c f g.copies rows all) (λ fr d k v. nodes_few all (fr ∷ fs) d k v) (g.kind l) d n w in omega (arith, e)

    pub nodes_few : (xs : Nodes) (fs : List Frame) (d : Operand) (n : ℕ) (w : Walk) → Few (nodes_size c f g.copies rows xs) (walk g xs fs d n w)
    nodes_few none fs d n w = omega arith
    nodes_few (more x rest) fs d n w =
        let o = walk_node g x fs d n w in
        let p = walk g rest fs d (past n o.steps) o.after in
        let a = node_few x fs d n w in
        let b = nodes_few rest fs d (past n o.steps) o.after in
        let e = length_both o.heads p.heads in
        omega (arith, a, b, e)

pub turns_few : TurnsFew
turns_few c f k rows s =
    let a = arrivals_few s 0 (ssa c f k (λ l. Plain) false).heads in
    let b = nodes_few c f rows (setting_of c f k (λ l. Plain) false) c.body [] walks.T 0 (first_walk c) in
    omega (arith, a, b)
