-- Unwound code does what code does in cut runs.
use Rattle.std.proofs.Common.{◌≡◌, refl, ap, ◌∙◌, ℕ, zero, suc, ℤ, pos, Bool, true, false, Option, Some, None}
use Rattle.std.specs.Ordering.{int_eq}
use Rattle.l2_runs.specs.declared.outcome.Outcome.TheVariants.{Stopped}
use Rattle.l2_runs.specs.Runs.{State, Result, Go, Halt, Over, Run, on_go, and_then, done, stop, either, choose}
use Rattle.l2_runs.specs.Loops.{Cut, Turn, tested, rounds, copies, later_copies, or_next, or_stop}
use Rattle.l2_code.specs.declared.action.Action.{Action}
use Rattle.l2_code.specs.declared.action.Action.TheVariants as action
use Rattle.l2_code.specs.Trees as code
use Rattle.l2_code.specs.Values.{Temps, no_temps}
use Rattle.l2_code.specs.Machine as machine
use Rattle.l2_code.specs.Machine.{Way, Out, act, follow, leave, close, node, nodes, code_loop}
use Rattle.l2_runs.specs.Back.{back}
use Rattle.l2_code.specs.Modes.{types_of, mods_of}
use Rattle.l2_unwind.specs.Law.{RunsAreCutRuns}
use Rattle.l2_unwind.specs.Flat.{FlatNodes, copies_of, unwound, unwound_node}
use Rattle.l2_unwind.specs.Runs.{Setting, plain, tested_copy, or_on, or_stopped, enter, flat_node, flat_nodes, after_entry, after_back}

-- the cut runs that a setting of unwound code stands for
abbrev cut_setting : ℕ → Setting → machine.Setting
cut_setting k g = record { limit = Cut k g.back; tests = g.tests; types = g.types }

act_is : (k : ℕ) (g : Setting) (b : Bool) (a : Action) (t : Temps) → act (plain g) b a t ≡ act (cut_setting k g) b a t
act_is k g b (action.Compute i c) t = refl
act_is k g b (action.Read n ty a) t = refl
act_is k g b (action.Write ty a x) t = refl
act_is k g b (action.Choice n ty) t = refl
act_is k g b (action.Assume a) t = refl
act_is k g b (action.Check c a) t = refl
act_is k g b (action.Unless a n) t = refl
act_is k g b (action.Goto n) t = refl
act_is k g b (action.Live o) t = refl
act_is k g b (action.Dead o) t = refl
act_is k g b action.End t = refl

-- ---- loops

-- a turn of code as a turn of the loops of runs, with its tests
abbrev turn_of : Setting → ℕ → (Bool → Run (Option ℕ)) → Bool → Turn (Unit {0}) ℕ
turn_of g l turn = tested g.tests l (λ c (u : Unit {0}). and_then (turn c) (λ o. done (tt, o)))

-- how the loop is left
abbrev left : Unit {0} × ℕ → Run ℕ
left r = done r.1

-- the turn of a copy of this code
abbrev turn_in : Setting → FlatNodes → Temps → Bool → Run (Option ℕ)
turn_in g body t c = and_then (flat_nodes g c body t) (λ w. done (close w))

next_is : (next : Run ℕ) (more : Unit {0} → Run (Unit {0} × ℕ)) → ((u : Unit {0}) (s : State) → next s ≡ and_then (more u) left s)
    → (r : Result (Unit {0} × Option ℕ)) → on_go r (or_on next) ≡ on_go (on_go r (or_next more)) left
next_is next more same (Go (u, None) s) = same u s
next_is next more same (Go (u, Some n) s) = refl
next_is next more same (Halt e s) = refl

stop_is : (next : Run ℕ) (more : Unit {0} → Run (Unit {0} × ℕ)) → ((u : Unit {0}) (s : State) → next s ≡ and_then (more u) left s)
    → (r : Result (Unit {0} × Option ℕ)) → on_go r (or_stopped next) ≡ on_go (on_go r (or_stop more)) left
stop_is next more same (Go (u, None) s) = same u s
stop_is next more same (Go (u, Some n) s) = refl
stop_is next more same (Halt e s) = refl

entry_is : (g : Setting) (b : Bool) (l : ℕ) (body : FlatNodes) (t : Temps) (n : ℕ) (u : Unit {0}) (s : State)
    → after_entry g b l (copies_of n body) t s ≡ and_then (copies n (turn_of g l (turn_in g body t)) b u) left s
entry_is g b l body t zero u s = refl
entry_is g b l body t (suc n) u s =
    next_is (after_entry g b l (copies_of n body) t) (rounds (Over Stopped) n (turn_of g l (turn_in g body t) b)) (entry_is g b l body t n) (tested_copy g l (turn_in g body t) b s)

back_is : (g : Setting) (b : Bool) (l : ℕ) (body : FlatNodes) (t : Temps) (n : ℕ) (u : Unit {0}) (s : State)
    → after_back g b l (copies_of (suc n) body) t s ≡ and_then (later_copies n (turn_of g l (turn_in g body t)) b u) left s
back_is g b l body t zero u s = entry_is g b l body t 1 u s
back_is g b l body t (suc n) u s =
    stop_is (after_back g b l (copies_of (suc n) body) t) (later_copies n (turn_of g l (turn_in g body t)) b) (back_is g b l body t n) (tested_copy g l (turn_in g body t) false s)

either_is : (next : Run ℕ) (back : Run (Unit {0})) (back_to : Run ℕ) (more : Run (Unit {0} × ℕ)) (later : Unit {0} → Run (Unit {0} × ℕ))
    → ((s : State) → next s ≡ and_then more left s) → ((u : Unit {0}) (s : State) → back_to s ≡ and_then (later u) left s)
    → (enters : Bool) (s : State)
    → either enters next (and_then back (λ u. back_to)) s ≡ and_then (either enters more (and_then back later)) left s
either_is next back back_to more later same again true s = same s
either_is next back back_to more later same again false s = go (back s)
  where
    go : (r : Result (Unit {0})) → on_go r (λ u. back_to) ≡ on_go (on_go r later) left
    go (Go u s) = again u s
    go (Halt e s) = refl

choice_is : (f : ℤ → Run ℕ) (h : ℤ → Run (Unit {0} × ℕ)) → ((z : ℤ) (s : State) → f z s ≡ and_then (h z) left s)
    → (r : Result ℤ) → on_go r f ≡ on_go (on_go r h) left
choice_is f h same (Go z s) = same z s
choice_is f h same (Halt e s) = refl

loop_is : (k : ℕ) (g : Setting) (b : Bool) (l : ℕ) (body : FlatNodes) (t : Temps) (s : State)
    → enter (copies_of k body) (after_entry g b l (copies_of k body) t) (and_then (g.back l) (λ u. after_back g b l (copies_of k body) t)) s
    ≡ code_loop (cut_setting k g) l (turn_in g body t) b s
loop_is zero g b l body t s = refl
loop_is (suc n) g b l body t s = choice_is _ _ (λ z s. either_is _ (g.back l) _ _ _ (entry_is g b l body t (suc n) tt) (back_is g b l body t n) (int_eq z (pos 0)) s) (choose s)

-- ---- code

mutual
  node_is : (k : ℕ) (g : Setting) (b : Bool) (x : code.Node) (t : Temps) → flat_node g b (unwound_node k x) t ≡ node (cut_setting k g) b x t
  node_is k g b (code.Do a) t = act_is k g b a t
  node_is k g b (code.Block all) t = ap (λ (q : Run Way). and_then q (λ w. done (leave t w))) (nodes_is k g b all t)
  node_is k g b (code.Loop l all) t =
      (λ i. and_then (λ s. loop_is k g b l (unwound k all) t s i) (λ n. done (Out n))) ∙
      ap (λ (turn : Bool → Run (Option ℕ)). and_then (code_loop (cut_setting k g) l turn b) (λ n. done (Out n))) (λ i c. and_then (nodes_is k g c all t i) (λ w. done (close w)))

  pub nodes_is : (k : ℕ) (g : Setting) (b : Bool) (xs : code.Nodes) (t : Temps) → flat_nodes g b (unwound k xs) t ≡ nodes (cut_setting k g) b xs t
  nodes_is k g b code.none t = refl
  nodes_is k g b (code.more x rest) t = λ i. and_then (node_is k g b x t i) (follow (λ u. nodes_is k g b rest u i))

pub runs_are_cut_runs : RunsAreCutRuns
runs_are_cut_runs c f k starts tests s =
    ap (λ (q : Run Way). and_then q (λ w. stop) s) (nodes_is k (record { back = back (types_of c).objects f.object (mods_of c) starts; tests = tests; types = types_of c }) true c.body no_temps)
