-- Where a walk's path is off, no choice is used, and no head is arrived at.
use Rattle.std.proofs.Common.{◌≡◌, ℕ, zero, suc, ◌+◌, ◌<◌, ◌≤◌, ℤ, false, refl, ap, ◌∙◌, List, [], ◌∷◌, ◌++◌, length}
use Rattle.std.specs.Prelude.{if◌then◌else◌}
use Rattle.l2_code.specs.declared.action.Operand.{Operand}
use Rattle.l2_code.specs.declared.action.Action.{Action}
use Rattle.l2_code.specs.declared.action.Action.TheVariants as action
use Rattle.l2_code.specs.Trees.{Node, Do, Block, Loop, Nodes, none, more}
use Rattle.l2_code_laws.specs.Preserved.{LimitPreserves}
use Rattle.l2_supply.specs.Going.{Cut, limit_of}
use Rattle.l2_ssa.specs.Steps.{Names, on, number_in, Solves}
use Rattle.l2_ssa.specs.Walks as walks
use Rattle.l2_ssa.specs.Walks.{Setting, Walk, Frame, Given, nothing, entering, chosen, taken, halves, pair, Plain, past, is_last, copy_frame, count_steps, count_name, walk_copies, walk_action, walk_node, walk}
use Rattle.l2_ssa.specs.Law.{RowsOf, RanksOf, starts}
use Rattle.l2_ssa.proofs.Shows.{Off, Stands, Stops, solves_first, solves_second}
use Rattle.l2_ssa.proofs.Whole.{run, Inv, node_stop, nodes_stop}
use Rattle.l2_short_laws.specs.Used.{arrivals}

module _ (s : Names) where
  -- the values of the choices on true paths
  abbrev pub given_used : Given → List ℤ
  given_used nothing = []
  given_used entering = []
  given_used (chosen g n) = []
  given_used (taken g n ty) = if on s g then number_in (s n) ∷ [] else []
  given_used (halves g n) = []
  given_used (pair x y) = given_used x ++ given_used y

  pub record Idle (given : Given) (heads : List Operand) : Type 0 where
    pub none : given_used given ≡ []
    pub stays : (n : ℕ) → arrivals s n heads ≡ n

  pub arrivals_both : (xs ys : List Operand) (n : ℕ) → arrivals s n (xs ++ ys) ≡ arrivals s (arrivals s n xs) ys
  arrivals_both [] ys n = refl
  arrivals_both (x ∷ xs) ys n = arrivals_both xs ys (if on s x then suc n else n)

  pub idle_both : (x y : Given) (hs js : List Operand) → Idle x hs → Idle y js → Idle (pair x y) (hs ++ js)
  idle_both x y hs js h k = record {
    none = λ i. h.none i ++ k.none i;
    stays = λ n. arrivals_both hs js n ∙ k.stays (arrivals s n hs) ∙ h.stays n;
  }

module _ (row : RowsOf) (lower : RanksOf) (s : Names) (g0 : Setting) (checks loops : ℕ)
    (small : (n : ℕ) → length (g0.types.objects n) ≤ 65536) (there : (o : ℕ) → 0 < length (g0.types.objects o) → (1 ≤ o) × (o < 1 + g0.objects)) (k0 : ℕ) where
  -- short runs: each loop is entered alone
  abbrev pub g : Setting
  g = record g0 { copies = suc k0; kind = λ l. Plain; ranks = false }

  abbrev pub m : Rattle.l2_ssa.specs.Steps.Meaning
  m = record { types = g0.types; row = row; lower = lower }

  abbrev pub cut : Rattle.l2_supply.specs.Going.Setting
  cut = run row lower s g checks loops small there refl k0 refl

  abbrev Dead : Walk → Type 0
  Dead w = Stands m s g w.path w.slots Off

  act_idle : (fs : List Frame) (c : Operand) (n : ℕ) (w : Walk) (a : Action) → on s w.path ≡ false → Idle s (walk_action g fs c n w a).given (walk_action g fs c n w a).heads
  act_idle fs c n w (action.Compute i x) h = record { none = refl; stays = λ k. refl }
  act_idle fs c n w (action.Read i ty a) h = record { none = refl; stays = λ k. refl }
  act_idle fs c n w (action.Write ty a x) h = record { none = refl; stays = λ k. refl }
  act_idle fs c n w (action.Choice i ty) h = record { none = ap (λ b. if b then number_in (s n) ∷ [] else []) h; stays = λ k. refl }
  act_idle fs c n w (action.Assume a) h = record { none = refl; stays = λ k. refl }
  act_idle fs c n w (action.Check k a) h = record { none = refl; stays = λ k. refl }
  act_idle fs c n w (action.Unless a d) h = record { none = refl; stays = λ k. refl }
  act_idle fs c n w (action.Goto d) h = record { none = refl; stays = λ k. refl }
  act_idle fs c n w (action.Live o) h = record { none = refl; stays = λ k. refl }
  act_idle fs c n w (action.Dead o) h = record { none = refl; stays = λ k. refl }
  act_idle fs c n w action.End h = record { none = refl; stays = λ k. refl }

  module _ (limits : LimitPreserves (Inv row lower s g checks loops small there refl k0 refl) (limit_of cut (Cut (suc k0) (starts row g)))) where
    module _ (l : ℕ) (body : Frame → Operand → ℕ → Walk → walks.Out) (temps : ℕ → Operand) (c : Operand)
        (body_idle : (f : Frame) (d : Operand) (n : ℕ) (w : Walk) → Dead w → Solves m s n (body f d n w).steps → Idle s (body f d n w).given (body f d n w).heads)
        (body_stops : (f : Frame) (d : Operand) (n : ℕ) (w : Walk) → Dead w → Solves m s n (body f d n w).steps → Stops m s g (body f d n w)) where
      pub copies_idle : (k n : ℕ) (w : Walk) → Dead w → Solves m s n (walk_copies g body l Plain walks.F c temps k n w).steps
          → Idle s (walk_copies g body l Plain walks.F c temps k n w).given (walk_copies g body l Plain walks.F c temps k n w).heads
      copies_idle zero n w h ok = record { none = refl; stays = λ k. refl }
      copies_idle (suc k) n w h ok =
          let x = count_steps (is_last k) w.path walks.F c in
          let d = count_name (is_last k) c n in
          let o = body (copy_frame (is_last k) walks.F) d (past n x) (record w { temps = temps }) in
          let n1 = past (past n x) o.steps in
          let q = walk_copies g body l Plain walks.F c temps k n1 o.after in
          let ok1 = solves_second m s g n x (o.steps ++ q.steps) ok in
          let oko = solves_first m s g (past n x) o.steps q.steps ok1 in
          let okq = solves_second m s g (past n x) o.steps q.steps ok1 in
          let so = body_stops (copy_frame (is_last k) walks.F) d (past n x) (record w { temps = temps }) h oko in
          let both = idle_both s o.given q.given o.heads q.heads (body_idle (copy_frame (is_last k) walks.F) d (past n x) (record w { temps = temps }) h oko) (copies_idle k n1 o.after so.after okq) in
          record { none = both.none; stays = λ i. ap (λ b. arrivals s (if b then suc i else i) (o.heads ++ q.heads)) h.0 ∙ both.stays i }

    mutual
      node_idle : (x : Node) (fs : List Frame) (c : Operand) (n : ℕ) (w : Walk) → Dead w → Solves m s n (walk_node g x fs c n w).steps → Idle s (walk_node g x fs c n w).given (walk_node g x fs c n w).heads
      node_idle (Do a) fs c n w h ok = act_idle fs c n w a h.0
      node_idle (Block all) fs c n w h ok =
          let r = nodes_idle all (walks.Block ∷ fs) c n w h (solves_first m s g n (walk g all (walks.Block ∷ fs) c n w).steps _ ok) in record { none = r.none; stays = r.stays }
      node_idle (Loop l all) fs c n w h ok =
          let r = copies_idle l (λ f d k v. walk g all (f ∷ fs) d k v) w.temps c (λ f d k v h ok. nodes_idle all (f ∷ fs) d k v h ok)
          (λ f d k v h ok. nodes_stop row lower s g checks loops small there refl k0 refl limits all (f ∷ fs) d k v h ok) (suc k0) n w h ok in
          record { none = r.none; stays = r.stays }

      pub nodes_idle : (xs : Nodes) (fs : List Frame) (c : Operand) (n : ℕ) (w : Walk) → Dead w → Solves m s n (walk g xs fs c n w).steps → Idle s (walk g xs fs c n w).given (walk g xs fs c n w).heads
      nodes_idle none fs c n w h ok = record { none = refl; stays = λ k. refl }
      nodes_idle (more x rest) fs c n w h ok =
          let o = walk_node g x fs c n w in
          let p = walk g rest fs c (past n o.steps) o.after in
          let oko = solves_first m s g n o.steps p.steps ok in
          let so = node_stop row lower s g checks loops small there refl k0 refl limits x fs c n w h oko in
          idle_both s o.given p.given o.heads p.heads (node_idle x fs c n w h oko) (nodes_idle rest fs c (past n o.steps) o.after so.after (solves_second m s g n o.steps p.steps ok))
