-- Each solution gives a supply.
use Rattle.std.proofs.Common.{◌≡◌, ℕ, zero, suc, ◌<◌, ℤ, pos, Bool, true, false, not, refl, sym, ap, ◌∙◌, List, [], ◌∷◌, cond}
use Rattle.std.specs.Ordering.{int_eq}
use Rattle.l2_bits.specs.Values.{wrap, IsValue}
use Rattle.l2_bits.proofs.Wraps.{wrap_of_value}
use Rattle.l2_runs.specs.Fits.{Layout}
use Rattle.l2_runs.specs.declared.cells.CellType.{CellType}
use Rattle.l2_runs.specs.declared.cells.CellType.TheVariants.{Integer, Pointer}
use Rattle.l2_runs.specs.declared.cells.CellValue.TheVariants.{Number}
use Rattle.l2_code.specs.declared.action.Operand.{Operand}
use Rattle.l2_code.specs.declared.action.Operand.TheVariants.{Temp}
use Rattle.l2_code.specs.declared.action.Action.{Action}
use Rattle.l2_code.specs.declared.action.Action.TheVariants as action
use Rattle.l2_code.specs.Trees.{Node, Do, Block, Loop, Nodes, none, more}
use Rattle.l2_code.specs.Values.{is_true}
use Rattle.l2_supply.specs.Supply.{Supply, nil, one, two}
use Rattle.l2_ssa.specs.Steps.{Names, on, bit, number_in, Meaning, Solves}
use Rattle.l2_ssa.specs.Law.{Matches}
use Rattle.l2_ssa.specs.Walks as walks
use Rattle.l2_ssa.specs.Walks.{Setting, Walk, Frame, Given, nothing, entering, chosen, taken, halves, pair, Kind, Bottom, Plain, Rows, past, is_last, copy_frame, count_steps, count_name, scatter_one, scatter_cells, scatter, head_rows, end_turn, walk_copies, walk_loop, walk_action, walk_node, walk}
use Rattle.l2_ssa.proofs.Shows.{solves_first, solves_second}
use Rattle.l2_ssa.proofs.Labels.{bit_on}

module _ (s : Names) where
  -- the names that choices give are choices
  abbrev pub AreGiven : Given → Type 0
  AreGiven nothing = Unit {0}
  AreGiven entering = Unit {0}
  AreGiven (chosen g n) = (b : Bool) × (s n ≡ bit b)
  AreGiven (taken g n ty) = (z : ℤ) × (s n ≡ Number z) × IsValue ty z
  AreGiven (halves g n) = ((k : ℕ) × (s n ≡ Number (pos k)) × (k < 131072)) × ((k : ℕ) × (s (suc n) ≡ Number (pos k)) × (k < 131072))
  AreGiven (pair x y) = AreGiven x × AreGiven y

  abbrev pub supply_of : Given → Supply
  supply_of nothing = nil
  supply_of entering = one (pos 0)
  supply_of (chosen g n) = one (cond (on s (Temp n)) (pos 1) (pos 0))
  supply_of (taken g n ty) = one (number_in (s n))
  supply_of (halves g n) = two (one (number_in (s n))) (two (one (number_in (s (suc n)))) nil)
  supply_of (pair x y) = two (supply_of x) (supply_of y)

  own_bit : (b : Bool) → bit b ≡ bit (not (int_eq (cond b (pos 1) (pos 0)) (pos 0)))
  own_bit true = refl
  own_bit false = refl

  pub match_own : (cells : Layout) (x : Given) → AreGiven x → Matches cells s x (supply_of x)
  match_own cells nothing h = tt
  match_own cells entering h = refl
  match_own cells (chosen g n) h = λ path. h.1 ∙ own_bit h.0 ∙ ap (λ b. bit (not (int_eq (cond b (pos 1) (pos 0)) (pos 0)))) (sym (ap is_true h.1 ∙ bit_on h.0))
  match_own cells (taken g n ty) h = λ path. h.1 ∙ ap Number (sym (wrap_of_value ty h.0 h.2)) ∙ ap (λ v. Number (wrap ty (number_in v))) (sym h.1)
  match_own cells (halves g n) h = λ path. refl
  match_own cells (pair x y) h = (match_own cells x h.0, match_own cells y h.1)

module _ (m : Meaning) (s : Names) (g : Setting) where
  check_given : (rk : Bool) (k : ℕ) (c a : Operand) (n : ℕ) (w : Walk) → AreGiven s (walks.on_check rk k c a n w).given
  check_given true k c a n w = tt
  check_given false k c a n w = tt

  act_given : (fs : List Frame) (c : Operand) (n : ℕ) (w : Walk) (a : Action) → Solves m s n (walk_action g fs c n w a).steps → AreGiven s (walk_action g fs c n w a).given
  act_given fs c n w (action.Compute i x) ok = tt
  act_given fs c n w (action.Read i ty a) ok = tt
  act_given fs c n w (action.Write ty a x) ok = tt
  act_given fs c n w (action.Choice i ty) ok = ok.0
  act_given fs c n w (action.Assume a) ok = tt
  act_given fs c n w (action.Check k a) ok = check_given g.ranks k c (walks.now w a) n w
  act_given fs c n w (action.Unless a d) ok = tt
  act_given fs c n w (action.Goto d) ok = tt
  act_given fs c n w (action.Live o) ok = tt
  act_given fs c n w (action.Dead o) ok = tt
  act_given fs c n w action.End ok = tt

  one_given : (p b : Operand) (o f : ℕ) (t : CellType) (n : ℕ) (w : Walk) → Solves m s n (scatter_one g p b o f t n w).steps → AreGiven s (scatter_one g p b o f t n w).given
  one_given p b o f (Integer ty) n w ok = ok.0
  one_given p b o f Pointer n w ok = (ok.0, ok.1.0)

  cells_given : (p b : Operand) (o f : ℕ) (ts : List CellType) (n : ℕ) (w : Walk) → Solves m s n (scatter_cells g p b o f ts n w).steps → AreGiven s (scatter_cells g p b o f ts n w).given
  cells_given p b o f [] n w ok = tt
  cells_given p b o f (t ∷ ts) n w ok =
      let x = scatter_one g p b o f t n w in
      (one_given p b o f t n w (solves_first m s g n x.steps _ ok), (tt, cells_given p b o (suc f) ts (past n x.steps) x.after (solves_second m s g n x.steps _ ok)))

  scatter_given : (p b : Operand) (os : List ℕ) (n : ℕ) (w : Walk) → Solves m s n (scatter g p b os n w).steps → AreGiven s (scatter g p b os n w).given
  scatter_given p b [] n w ok = tt
  scatter_given p b (o ∷ os) n w ok =
      let x = scatter_cells g p b o 0 (g.types.objects o) n w in
      (cells_given p b o 0 (g.types.objects o) n w (solves_first m s g n x.steps _ ok), scatter_given p b os (past n x.steps) x.after (solves_second m s g n x.steps _ ok))

  module _ (body : Frame → Operand → ℕ → Walk → walks.Out) (bg : (f : Frame) (d : Operand) (n : ℕ) (w : Walk) → Solves m s n (body f d n w).steps → AreGiven s (body f d n w).given) (l : ℕ) where
    copies_given : (kind : Kind) (b c : Operand) (temps : ℕ → Operand) (k n : ℕ) (w : Walk) → Solves m s n (walk_copies g body l kind b c temps k n w).steps → AreGiven s (walk_copies g body l kind b c temps k n w).given
    copies_given kind b c temps zero n w ok = tt
    copies_given kind b c temps (suc k) n w ok =
        let x = count_steps (is_last k) w.path b c in
        let d = count_name (is_last k) c n in
        let o = body (copy_frame (is_last k) b) d (past n x) (record w { temps = temps }) in
        let n1 = past (past n x) o.steps in
        let et = end_turn g kind d l w.slots n1 o.after in
        let ok1 = solves_second m s g n x _ ok in
        let ok2 = solves_second m s g (past n x) o.steps _ ok1 in (
          bg (copy_frame (is_last k) b) d (past n x) (record w { temps = temps }) (solves_first m s g (past n x) o.steps _ ok1),
          copies_given kind b c temps k (past n1 et.steps) et.after (solves_second m s g n1 et.steps _ ok2),
        )

    loop_given : (kind : Kind) (c : Operand) (n : ℕ) (w : Walk) → Solves m s n (walk_loop g kind body l c n w).steps → AreGiven s (walk_loop g kind body l c n w).given
    loop_given Bottom c n w ok = (tt, (tt, copies_given Bottom walks.F c w.temps g.copies n w ok))
    loop_given Plain c n w ok = (tt, (tt, copies_given Plain walks.F c w.temps g.copies n w ok))
    loop_given (Rows r) c n w ok =
        let x = scatter g w.path (Temp n) (g.mods l) (suc n) w in
        let n1 = past (suc n) x.steps in
        let h = head_rows g w.path (Temp n) l 1 r n1 x.after in
        let ok2 = solves_second m s g (suc n) x.steps _ ok.1 in (
          ok.0,
          (
            (scatter_given w.path (Temp n) (g.mods l) (suc n) w (solves_first m s g (suc n) x.steps _ ok.1), tt),
            copies_given (Rows r) (Temp n) c w.temps g.copies (past n1 h.steps) h.walk (solves_second m s g n1 h.steps _ ok2),
          ),
        )

  mutual
    node_given : (x : Node) (fs : List Frame) (c : Operand) (n : ℕ) (w : Walk) → Solves m s n (walk_node g x fs c n w).steps → AreGiven s (walk_node g x fs c n w).given
    node_given (Do a) fs c n w ok = act_given fs c n w a ok
    node_given (Block all) fs c n w ok = nodes_given all (walks.Block ∷ fs) c n w (solves_first m s g n (walk g all (walks.Block ∷ fs) c n w).steps _ ok)
    node_given (Loop l all) fs c n w ok = loop_given (λ f d k v. walk g all (f ∷ fs) d k v) (λ f d k v ok. nodes_given all (f ∷ fs) d k v ok) l (g.kind l) c n w ok

    pub nodes_given : (xs : Nodes) (fs : List Frame) (c : Operand) (n : ℕ) (w : Walk) → Solves m s n (walk g xs fs c n w).steps → AreGiven s (walk g xs fs c n w).given
    nodes_given none fs c n w ok = tt
    nodes_given (more x rest) fs c n w ok =
        let o = walk_node g x fs c n w in
        (node_given x fs c n w (solves_first m s g n o.steps _ ok), nodes_given rest fs c (past n o.steps) o.after (solves_second m s g n o.steps _ ok))
