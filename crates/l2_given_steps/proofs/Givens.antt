-- The names that choices give are those of the steps that are choices, each once.
use Rattle.std.proofs.Common.{◌≡◌, ℕ, zero, suc, ◌<◌, ◌≤◌, Bool, true, false, List, [], ◌∷◌, ◌++◌, refl, sym, ◌∙◌, subst, arith}
use Rattle.l2_runs.specs.declared.cells.CellType.{CellType}
use Rattle.l2_runs.specs.declared.cells.CellType.TheVariants.{Integer, Pointer}
use Rattle.l2_code.specs.declared.action.Operand.{Operand}
use Rattle.l2_code.specs.declared.action.Operand.TheVariants.{Temp}
use Rattle.l2_code.specs.declared.action.Action.{Action}
use Rattle.l2_code.specs.declared.action.Action.TheVariants as action
use Rattle.l2_code.specs.Trees as code
use Rattle.l2_ssa.specs.Steps.{Step, Choose, Take, Half}
use Rattle.l2_ssa.specs.Walks as walks
use Rattle.l2_ssa.specs.Walks.{Setting, Walk, Frame, Block, Kind, Slot, Given, nothing, entering, chosen, taken, halves, pair, past, F}

module _ (at : ℕ → Step) where
  -- these steps stand at the names from n on
  abbrev pub AreAt : ℕ → List Step → Type 0
  AreAt n [] = Unit {0}
  AreAt n (x ∷ xs) = (at n ≡ x) × AreAt (suc n) xs

  pub at_app : (n : ℕ) (xs ys : List Step) → AreAt n (xs ++ ys) → AreAt n xs × AreAt (past n xs) ys
  at_app n [] ys h = (tt, h)
  at_app n (x ∷ xs) ys h = let r = at_app (suc n) xs ys h.1 in ((h.0, r.0), r.1)

  -- the names are among those from lo on and below hi
  abbrev pub Stands : ℕ → ℕ → Given → Type 0
  Stands lo hi nothing = Unit {0}
  Stands lo hi entering = Unit {0}
  Stands lo hi (chosen g n) = (lo ≤ n) × (n < hi) × (at n ≡ Choose g)
  Stands lo hi (taken g n ty) = (lo ≤ n) × (n < hi) × (at n ≡ Take g ty)
  Stands lo hi (halves g n) = (lo ≤ n) × (suc n < hi) × (at n ≡ Half g) × (at (suc n) ≡ Half g)
  Stands lo hi (pair x y) = (mid : ℕ) × (lo ≤ mid) × (mid ≤ hi) × Stands lo mid x × Stands mid hi y

  pub wider : (lo lo' hi hi' : ℕ) (x : Given) → lo' ≤ lo → hi ≤ hi' → Stands lo hi x → Stands lo' hi' x
  wider lo lo' hi hi' nothing l h s = tt
  wider lo lo' hi hi' entering l h s = tt
  wider lo lo' hi hi' (chosen g n) l h (a, b, e) = (omega (arith, l, a), omega (arith, h, b), e)
  wider lo lo' hi hi' (taken g n ty) l h (a, b, e) = (omega (arith, l, a), omega (arith, h, b), e)
  wider lo lo' hi hi' (halves g n) l h (a, b, e, d) = (omega (arith, l, a), omega (arith, h, b), e, d)
  wider lo lo' hi hi' (pair x y) l h (mid, a, b, p, q) = (mid, omega (arith, l, a), omega (arith, h, b), wider lo lo' mid mid x l (omega arith) p, wider mid mid hi hi' y (omega arith) h q)

  pub past_le : (n : ℕ) (xs : List Step) → n ≤ past n xs
  past_le n [] = omega arith
  past_le n (x ∷ xs) = let h = past_le (suc n) xs in omega (arith, h)

  past_app : (n : ℕ) (xs ys : List Step) → past n (xs ++ ys) ≡ past (past n xs) ys
  past_app n [] ys = refl
  past_app n (x ∷ xs) ys = past_app (suc n) xs ys

  -- a walk's names stand among those of its steps
  abbrev pub Fine : ℕ → walks.Out → Type 0
  Fine n o = Stands n (past n o.steps) o.given

  -- two walks, one behind the other
  both : (n : ℕ) (o p : walks.Out) → Fine n o → Fine (past n o.steps) p → Fine n (walks.joined (pair o.given p.given) o p)
  both n o p h k =
      (past n o.steps, past_le n o.steps, subst (λ i. past n o.steps ≤ i) (sym (past_app n o.steps p.steps)) (past_le (past n o.steps) p.steps), h, subst (λ i. Stands (past n o.steps) i p.given) (sym (past_app n o.steps p.steps)) k)

  module _ (g : Setting) where
    check_fine : (rk : Bool) (k : ℕ) (d a : Operand) (n : ℕ) (w : Walk) → Fine n (walks.on_check rk k d a n w)
    check_fine true k d a n w = tt
    check_fine false k d a n w = tt

    act_fine : (fs : List Frame) (d : Operand) (n : ℕ) (w : Walk) (x : Action) → AreAt n (walks.walk_action g fs d n w x).steps → Fine n (walks.walk_action g fs d n w x)
    act_fine fs d n w (action.Compute t x) h = tt
    act_fine fs d n w (action.Read t ty a) h = tt
    act_fine fs d n w (action.Write ty a x) h = tt
    act_fine fs d n w (action.Choice t ty) h = (omega arith, omega arith, h.0)
    act_fine fs d n w (action.Assume a) h = tt
    act_fine fs d n w (action.Check k a) h = check_fine g.ranks k d (walks.now w a) n w
    act_fine fs d n w (action.Unless a i) h = tt
    act_fine fs d n w (action.Goto i) h = tt
    act_fine fs d n w (action.Live o) h = tt
    act_fine fs d n w (action.Dead o) h = tt
    act_fine fs d n w action.End h = tt

    one_fine : (p b : Operand) (o f : ℕ) (t : CellType) (n : ℕ) (w : Walk) → AreAt n (walks.scatter_one g p b o f t n w).steps → Fine n (walks.scatter_one g p b o f t n w)
    one_fine p b o f (Integer ty) n w h = (omega arith, omega arith, h.0)
    one_fine p b o f Pointer n w h = (omega arith, omega arith, h.0, h.1.0)

    cells_fine : (p b : Operand) (o f : ℕ) (ts : List CellType) (n : ℕ) (w : Walk) → AreAt n (walks.scatter_cells g p b o f ts n w).steps → Fine n (walks.scatter_cells g p b o f ts n w)
    cells_fine p b o f [] n w h = tt
    cells_fine p b o f (t ∷ ts) n w h =
        let x = walks.scatter_one g p b o f t n w in
        let y = walks.scatter_cells g p b o (suc f) ts (past n x.steps) x.after in
        let a = at_app n x.steps y.steps h in
        let k = both n x y (one_fine p b o f t n w a.0) (cells_fine p b o (suc f) ts (past n x.steps) x.after a.1) in
        (k.0, k.1, k.2, k.3, (k.0, omega arith, k.2, tt, k.4))

    scatter_fine : (p b : Operand) (os : List ℕ) (n : ℕ) (w : Walk) → AreAt n (walks.scatter g p b os n w).steps → Fine n (walks.scatter g p b os n w)
    scatter_fine p b [] n w h = tt
    scatter_fine p b (o ∷ os) n w h =
        let x = walks.scatter_cells g p b o 0 (g.types.objects o) n w in
        let y = walks.scatter g p b os (past n x.steps) x.after in
        let a = at_app n x.steps y.steps h in
        both n x y (cells_fine p b o 0 (g.types.objects o) n w a.0) (scatter_fine p b os (past n x.steps) x.after a.1)

    module _ (body : Frame → Operand → ℕ → Walk → walks.Out) (body_fine : (x : Frame) (d : Operand) (n : ℕ) (w : Walk) → AreAt n (body x d n w).steps → Fine n (body x d n w)) (l : ℕ) where
      copies_fine : (kd : Kind) (b d : Operand) (temps : ℕ → Operand) (i n : ℕ) (w : Walk) → AreAt n (walks.walk_copies g body l kd b d temps i n w).steps → Fine n (walks.walk_copies g body l kd b d temps i n w)
      copies_fine kd b d temps zero n w h = tt
      copies_fine kd b d temps (suc i) n w h =
          let last = walks.is_last i in
          let x = walks.count_steps last w.path b d in
          let e = walks.count_name last d n in
          let n0 = past n x in
          let o = body (walks.copy_frame last b) e n0 (record w { temps = temps }) in
          let n1 = past n0 o.steps in
          let p = walks.end_turn g kd e l w.slots n1 o.after in
          let n2 = past n1 p.steps in
          let q = walks.walk_copies g body l kd b d temps i n2 p.after in
          let a0 = at_app n x (o.steps ++ (p.steps ++ q.steps)) h in
          let a1 = at_app n0 o.steps (p.steps ++ q.steps) a0.1 in
          let a2 = at_app n1 p.steps q.steps a1.1 in
          let fo = body_fine (walks.copy_frame last b) e n0 (record w { temps = temps }) a1.0 in
          let fq = copies_fine kd b d temps i n2 p.after a2.1 in
          let l0 = past_le n x in
          let l1 = past_le n0 o.steps in
          let l2 = past_le n1 p.steps in
          let l3 = past_le n2 q.steps in
          let end : past n (x ++ (o.steps ++ (p.steps ++ q.steps))) ≡ past n2 q.steps = past_app n x (o.steps ++ (p.steps ++ q.steps)) ∙ past_app n0 o.steps (p.steps ++ q.steps) ∙ past_app n1 p.steps q.steps in
          (n1, omega (arith, l0, l1), subst (λ i. n1 ≤ i) (sym end) (omega (arith, l2, l3)), wider n0 n n1 n1 o.given l0 (omega arith) fo, subst (λ i. Stands n1 i q.given) (sym end) (wider n2 n1 (past n2 q.steps) (past n2 q.steps) q.given l2 (omega arith) fq))

      loop_fine : (kd : Kind) (d : Operand) (n : ℕ) (w : Walk) → AreAt n (walks.walk_loop g kd body l d n w).steps → Fine n (walks.walk_loop g kd body l d n w)
      loop_fine walks.Bottom d n w h =
          let o = walks.walk_copies g body l walks.Bottom F d w.temps g.copies n w in
          let le = past_le n o.steps in
          (n, omega arith, le, tt, (n, omega arith, le, tt, copies_fine walks.Bottom F d w.temps g.copies n w h))
      loop_fine walks.Plain d n w h =
          let o = walks.walk_copies g body l walks.Plain F d w.temps g.copies n w in
          let le = past_le n o.steps in
          (n, omega arith, le, tt, (n, omega arith, le, tt, copies_fine walks.Plain F d w.temps g.copies n w h))
      loop_fine (walks.Rows r) d n w h =
          let s = walks.scatter g w.path (Temp n) (g.mods l) (suc n) w in
          let n1 = past (suc n) s.steps in
          let hd = walks.head_rows g w.path (Temp n) l 1 r n1 s.after in
          let n2 = past n1 hd.steps in
          let cp = walks.walk_copies g body l (walks.Rows r) (Temp n) d w.temps g.copies n2 hd.walk in
          let a1 = at_app (suc n) s.steps (hd.steps ++ cp.steps) h.1 in
          let a2 = at_app n1 hd.steps cp.steps a1.1 in
          let l1 = past_le (suc n) s.steps in
          let l2 = past_le n1 hd.steps in
          let l3 = past_le n2 cp.steps in
          let end : past (suc n) (s.steps ++ (hd.steps ++ cp.steps)) ≡ past n2 cp.steps = past_app (suc n) s.steps (hd.steps ++ cp.steps) ∙ past_app n1 hd.steps cp.steps in
          let fs = scatter_fine w.path (Temp n) (g.mods l) (suc n) w a1.0 in
          let fc = copies_fine (walks.Rows r) (Temp n) d w.temps g.copies n2 hd.walk a2.1 in
          let rest : Stands n1 (past (suc n) (s.steps ++ (hd.steps ++ cp.steps))) cp.given = subst (λ i. Stands n1 i cp.given) (sym end) (wider n2 n1 (past n2 cp.steps) (past n2 cp.steps) cp.given l2 (omega arith) fc) in (
            suc n,
            omega arith,
            subst (λ i. suc n ≤ i) (sym end) (omega (arith, l1, l2, l3)),
            (omega arith, omega arith, h.0),
            (n1, l1, subst (λ i. n1 ≤ i) (sym end) (omega (arith, l2, l3)), (n1, l1, omega arith, fs, tt), rest),
          )

    mutual
      node_fine : (x : code.Node) (fs : List Frame) (d : Operand) (n : ℕ) (w : Walk) → AreAt n (walks.walk_node g x fs d n w).steps → Fine n (walks.walk_node g x fs d n w)
      node_fine (code.Do a) fs d n w h = act_fine fs d n w a h
      node_fine (code.Block all) fs d n w h =
          let o = walks.walk g all (Block ∷ fs) d n w in
          let m = walks.merge_all g o.entries (past n o.steps) o.after in
          let a = at_app n o.steps m.steps h in
          wider n n (past n o.steps) (past n (o.steps ++ m.steps)) o.given (omega arith) (subst (λ i. past n o.steps ≤ i) (sym (past_app n o.steps m.steps)) (past_le (past n o.steps) m.steps)) (nodes_fine all (Block ∷ fs) d n w a.0)
      node_fine (code.Loop l all) fs d n w h = loop_fine (λ x q m v. walks.walk g all (x ∷ fs) q m v) (λ x q m v a. nodes_fine all (x ∷ fs) q m v a) l (g.kind l) d n w h

      pub nodes_fine : (xs : code.Nodes) (fs : List Frame) (d : Operand) (n : ℕ) (w : Walk) → AreAt n (walks.walk g xs fs d n w).steps → Fine n (walks.walk g xs fs d n w)
      nodes_fine code.none fs d n w h = tt
      nodes_fine (code.more x rest) fs d n w h =
          let o = walks.walk_node g x fs d n w in
          let p = walks.walk g rest fs d (past n o.steps) o.after in
          let a = at_app n o.steps p.steps h in
          both n o p (node_fine x fs d n w a.0) (nodes_fine rest fs d (past n o.steps) o.after a.1)
