-- Code does the same on lists of choices and by supplies.
use Rattle.std.proofs.Common.{◌≡◌, refl, ℕ, zero, suc, pos, Bool, true, false, List, [], ◌∷◌, Option, Some, None}
use Rattle.std.specs.Ordering.{int_eq}
use Rattle.l2_bits.specs.Values.{wrap}
use Rattle.l2_runs.specs.declared.cells.CellType.{CellType}
use Rattle.l2_runs.specs.declared.cells.CellType.TheVariants.{Integer, Pointer}
use Rattle.l2_runs.specs.declared.cells.CellValue.TheVariants.{Number}
use Rattle.l2_runs.specs.declared.member.Member.{Member}
use Rattle.l2_runs.specs.declared.outcome.Outcome.TheVariants.{Stopped}
use Rattle.l2_runs.specs.Fits.{Layout}
use Rattle.l2_runs.specs.Store.{Store}
use Rattle.l2_runs.specs.Runs.{Result, Go, Halt, Over, Run, on_go, and_then, done, stop, either, choose, write}
use Rattle.l2_runs.specs.Loops as loops
use Rattle.l2_runs.specs.Loops.{Tests, Turn, tested, or_events, rounds, behind, tally, copies, later_copies, cut, limited, loop_of, or_next, or_stop}
use Rattle.l2_runs.specs.Back.{pointer_of, on_member, any_value, scatter_cells, scatter, back}
use Rattle.l2_code.specs.declared.action.Action.{Action}
use Rattle.l2_code.specs.declared.action.Action.TheVariants as action
use Rattle.l2_code.specs.Trees.{Node, Do, Block, Loop, Nodes, none, more}
use Rattle.l2_code.specs.Values.{Temps, with_temp}
use Rattle.l2_code.specs.Machine.{Way, On, Out, act, leave, close, follow, code_loop, node, nodes}
use Rattle.l2_supply.specs.Supply.{Supplied, then_with, without, with_choice, Agrees}
use Rattle.l2_supply.specs.Going.{goes, stops, seen, on_bool, tested_with, next_with, stop_with, rounds_with, later_with, any_with, cells_with, scatter_with, passing, back_with, Heads, Short, Cut, Setting, limit_of, machine_of, cut_with, loop_with, act_with, follow_with, node_with, nodes_with}
use Rattle.l2_supply.proofs.Agreeing.{then_agrees, choice_agrees, without_agrees, seen_agrees, run_agrees, after_agrees}
use Rattle.l2_supply.proofs.Plain.{plain_done, plain_stop, plain_or_events, plain_passing, plain_member, plain_act}

goes_agree : {A : Type 0} (a : A) → Agrees (done a) (goes a)
goes_agree a = without_agrees (done a) (plain_done a)

stops_agree : {A : Type 0} → Agrees (stop {A = A}) stops
stops_agree = without_agrees stop plain_stop

either_agree : {A : Type 0} (b : Bool) (r x : Run A) (q w : Supplied A) → Agrees r q → Agrees x w → Agrees (either b r x) (on_bool b q w)
either_agree true r x q w h k = run_agrees r (either true r x) q (λ s. refl) h
either_agree false r x q w h k = run_agrees x (either false r x) w (λ s. refl) k

-- ---- loops

module _ {C F : Type 0} where
  next_agree : (r : C → Run (C × F)) (q : Supplied (C × F)) → ((c : C) → Agrees (r c) q) → (x : C × Option F) → Agrees (or_next r x) (next_with q x)
  next_agree r q h (c, None) = run_agrees (r c) (or_next r (c, None)) q (λ s. refl) (h c)
  next_agree r q h (c, Some f) = run_agrees (done (c, f)) (or_next r (c, Some f)) (goes (c, f)) (λ s. refl) (goes_agree (c, f))

  stop_agree : (r : C → Run (C × F)) (q : Supplied (C × F)) → ((c : C) → Agrees (r c) q) → (x : C × Option F) → Agrees (or_stop r x) (stop_with q x)
  stop_agree r q h (c, None) = run_agrees (r c) (or_stop r (c, None)) q (λ s. refl) (h c)
  stop_agree r q h (c, Some f) = run_agrees stop (or_stop r (c, Some f)) stops (λ s. refl) stops_agree

  rounds_agree : (n : ℕ) (f : Turn C F) (q : Supplied (C × Option F)) → ((c : C) → Agrees (f c) q) → (c : C) → Agrees (rounds (Over Stopped) n f c) (rounds_with n q)
  rounds_agree zero f q h c = run_agrees stop (rounds (Over Stopped) zero f c) stops (λ s. refl) stops_agree
  rounds_agree (suc n) f q h c =
      then_agrees (f c) q (or_next (rounds (Over Stopped) n f)) (next_with (rounds_with n q)) (h c) (next_agree (rounds (Over Stopped) n f) (rounds_with n q) (rounds_agree n f q h))

  module _ (turn : Bool → Turn C F) (q : Bool → Supplied (C × Option F)) (same : (b : Bool) (c : C) → Agrees (turn b c) (q b)) where
    later_agree : (n : ℕ) (b : Bool) (c : C) → Agrees (later_copies n turn b c) (later_with n q b)
    later_agree zero b c = rounds_agree 1 (turn b) (q b) (same b) c
    later_agree (suc n) b c =
        then_agrees (turn false c) (q false) (or_stop (later_copies n turn b)) (stop_with (later_with n q b)) (same false c) (stop_agree (later_copies n turn b) (later_with n q b) (later_agree n b))

    cut_agree : (n : ℕ) (back : Run (Unit {0})) (back_to : Supplied (Unit {0})) → Agrees back back_to → (b : Bool) (c : C) → Agrees (cut n back turn b c) (cut_with n back_to q b)
    cut_agree zero back back_to h b c = run_agrees stop (cut zero back turn b c) stops (λ s. refl) stops_agree
    cut_agree (suc n) back back_to h b c =
        then_agrees choose with_choice _ _ choice_agrees
        (λ z. either_agree (int_eq z (pos 0)) (copies (suc n) turn b c) (and_then back (λ u. later_copies n turn b c)) (then_with (goes (tt {0})) (λ u. rounds_with (suc n) (q b))) (then_with back_to (λ u. later_with n q b))
        (run_agrees (and_then (done (tt {0})) (λ u. copies (suc n) turn b c)) _ _ (λ s. refl)
        (then_agrees (done (tt {0})) (goes (tt {0})) (λ u. copies (suc n) turn b c) (λ u. rounds_with (suc n) (q b)) (goes_agree (tt {0})) (λ u. rounds_agree (suc n) (turn b) (q b) (same b) c)))
        (then_agrees back back_to (λ u. later_copies n turn b c) (λ u. later_with n q b) h (λ u. later_agree n b c)))

-- ---- back starts

any_agrees : (cells : Layout) (set : Member → Bool) (ty : CellType) → Agrees (any_value cells set ty) (any_with cells set ty)
any_agrees cells set (Integer ty) = seen_agrees (λ z. Number (wrap ty z)) choose with_choice choice_agrees
any_agrees cells set Pointer =
    then_agrees choose with_choice _ _ choice_agrees
    (λ sel. then_agrees choose with_choice _ _ choice_agrees (λ off. without_agrees (on_member set (pointer_of cells sel off) done) (plain_member set (pointer_of cells sel off))))

cells_agree : (cells : Layout) (set : Member → Bool) (o f : ℕ) (ts : List CellType) → Agrees (scatter_cells cells set o f ts) (cells_with cells set o f ts)
cells_agree cells set o f [] = goes_agree tt
cells_agree cells set o f (t ∷ ts) =
    then_agrees (any_value cells set t) (any_with cells set t) _ _ (any_agrees cells set t)
    (λ v. then_agrees (write (record { object = o; offset = f }) v) (without (write (record { object = o; offset = f }) v)) _ _ (without_agrees (write (record { object = o; offset = f }) v) (record { same = λ p cs n. refl }))
    (λ u. cells_agree cells set o (suc f) ts))

scatter_agree : (cells : Layout) (sets : ℕ → Member → Bool) (os : List ℕ) → Agrees (scatter cells sets os) (scatter_with cells sets os)
scatter_agree cells sets [] = goes_agree tt
scatter_agree cells sets (o ∷ os) = then_agrees (scatter_cells cells (sets o) o 0 (cells o)) (cells_with cells (sets o) o 0 (cells o)) _ _ (cells_agree cells (sets o) o 0 (cells o)) (λ u. scatter_agree cells sets os)

pub back_agrees : (cells : Layout) (sets : ℕ → Member → Bool) (mods : ℕ → List ℕ) (starts : ℕ → Store → Bool) (l : ℕ) → Agrees (back cells sets mods starts l) (back_with cells sets (mods l) (starts l))
back_agrees cells sets mods starts l =
    then_agrees (scatter cells sets (mods l)) (scatter_with cells sets (mods l)) (λ u. passing (starts l)) (λ u. without (passing (starts l))) (scatter_agree cells sets (mods l))
    (λ u. without_agrees (passing (starts l)) (plain_passing (starts l)))

-- ---- code

act_agrees : (g : Setting) (b : Bool) (a : Action) (t : Temps) → Agrees (act (machine_of g) b a t) (act_with g b a t)
act_agrees g b (action.Choice n ty) t = seen_agrees (λ z. On (with_temp t n (Number (wrap ty z)))) choose with_choice choice_agrees
act_agrees g b (action.Compute n c) t = without_agrees _ (plain_act (machine_of g) b (action.Compute n c) t tt)
act_agrees g b (action.Read n ty a) t = without_agrees _ (plain_act (machine_of g) b (action.Read n ty a) t tt)
act_agrees g b (action.Write ty a x) t = without_agrees _ (plain_act (machine_of g) b (action.Write ty a x) t tt)
act_agrees g b (action.Assume a) t = without_agrees _ (plain_act (machine_of g) b (action.Assume a) t tt)
act_agrees g b (action.Check c a) t = without_agrees _ (plain_act (machine_of g) b (action.Check c a) t tt)
act_agrees g b (action.Unless a n) t = without_agrees _ (plain_act (machine_of g) b (action.Unless a n) t tt)
act_agrees g b (action.Goto n) t = without_agrees _ (plain_act (machine_of g) b (action.Goto n) t tt)
act_agrees g b (action.Live o) t = without_agrees _ (plain_act (machine_of g) b (action.Live o) t tt)
act_agrees g b (action.Dead o) t = without_agrees _ (plain_act (machine_of g) b (action.Dead o) t tt)
act_agrees g b action.End t = without_agrees _ (plain_act (machine_of g) b action.End t tt)

follow_agrees : (r : Temps → Run Way) (q : Temps → Supplied Way) → ((t : Temps) → Agrees (r t) (q t)) → (w : Way) → Agrees (follow r w) (follow_with q w)
follow_agrees r q h (On t) = run_agrees (r t) (follow r (On t)) (q t) (λ s. refl) (h t)
follow_agrees r q h (Out n) = run_agrees (done (Out n)) (follow r (Out n)) (goes (Out n)) (λ s. refl) (goes_agree (Out n))

limited_agrees : (g : Setting) (heads : Heads) (l : ℕ) (turn : Bool → Turn (Unit {0}) ℕ) (q : Bool → Supplied (Unit {0} × Option ℕ)) → ((b : Bool) (c : Unit {0}) → Agrees (turn b c) (q b))
    → (b : Bool) → Agrees (limited (limit_of g heads) l turn b tt) (loop_with g heads l q b)
limited_agrees g (Short k) l turn q same b =
    run_agrees (rounds (Over Stopped) k (behind tally (turn b)) tt) (limited (loops.Short k) l turn b tt) _ (λ s. refl)
    (rounds_agree k (behind tally (turn b)) (then_with (without tally) (λ u. q b)) (λ c. then_agrees tally (without tally) (λ u. turn b c) (λ u. q b) (without_agrees tally (record { same = λ p cs t. refl })) (λ u. same b c)) tt)
limited_agrees g (Cut k starts) l turn q same b =
    run_agrees (cut k (back g.types.objects g.sets g.mods starts l) turn b tt) (limited (limit_of g (Cut k starts)) l turn b tt) _ (λ s. refl)
    (cut_agree turn q same k (back g.types.objects g.sets g.mods starts l) (back_with g.types.objects g.sets (g.mods l) (starts l)) (back_agrees g.types.objects g.sets g.mods starts l) b tt)

tested_agrees : {C F : Type 0} (tests : Tests) (l : ℕ) (turn : Bool → Turn C F) (b : Bool) (c : C) (q : Supplied (C × Option F)) → Agrees (turn b c) q → Agrees (tested tests l turn b c) (tested_with tests l b q)
tested_agrees tests l turn b c q h = after_agrees (turn b c) q (λ st. or_events b l (tests b l) st) (λ st x. plain_or_events b l (tests b l) st x) h

twice : {A B C : Type 0} (f : A → B) (h : B → C) (x : Result A) → on_go x (λ a. done (h (f a))) ≡ on_go (on_go x (λ a. done (f a))) (λ b. done (h b))
twice f h (Go a s) = refl
twice f h (Halt e s) = refl

turn_agrees : (r : Run Way) (q : Supplied Way) → Agrees r q → Agrees {A = Unit {0} × Option ℕ} (and_then (and_then r (λ w. done (close w))) (λ o. done (tt {0}, o))) (seen (λ w. (tt {0}, close w)) q)
turn_agrees r q h =
    run_agrees (and_then r (λ w. done (tt {0}, close w))) _ _ (λ s. twice close (λ (o : Option ℕ). (tt {0}, o)) (r s))
    (seen_agrees (λ w. (tt {0}, close w)) r q h)

abbrev turn_run : (Bool → Run Way) → Bool → Turn (Unit {0}) ℕ
turn_run r c u = and_then (and_then (r c) (λ w. done (close w))) (λ o. done (tt {0}, o))

abbrev whole_run : Setting → ℕ → (Bool → Run Way) → Bool → Run (Unit {0} × ℕ)
whole_run g l r b = loop_of (limit_of g g.heads) g.tests l (turn_run r) b tt

loop_agrees : (g : Setting) (l : ℕ) (r : Bool → Run Way) (q : Bool → Supplied Way) → ((c : Bool) → Agrees (r c) (q c)) → (b : Bool)
    → Agrees (and_then (code_loop (machine_of g) l (λ c. and_then (r c) (λ w. done (close w))) b) (λ n. done (Out n)))
    (seen (λ (x : Unit {0} × ℕ). Out x.1) (loop_with g g.heads l (λ c. tested_with g.tests l c (seen (λ w. (tt {0}, close w)) (q c))) b))
loop_agrees g l r q h b =
    run_agrees (and_then (whole_run g l r b) (λ x. done (Out x.1))) _ _ (λ s. twice (λ (x : Unit {0} × ℕ). x.1) Out (whole_run g l r b s))
    (seen_agrees (λ (x : Unit {0} × ℕ). Out x.1) (whole_run g l r b) _
    (limited_agrees g g.heads l (tested g.tests l (turn_run r)) (λ c. tested_with g.tests l c (seen (λ w. (tt {0}, close w)) (q c)))
    (λ c u. tested_agrees g.tests l (turn_run r) c u (seen (λ w. (tt {0}, close w)) (q c)) (turn_agrees (r c) (q c) (h c))) b))

mutual
  pub node_agrees : (g : Setting) (b : Bool) (x : Node) (t : Temps) → Agrees (node (machine_of g) b x t) (node_with g b x t)
  node_agrees g b (Do a) t = act_agrees g b a t
  node_agrees g b (Block all) t = seen_agrees (leave t) (nodes (machine_of g) b all t) (nodes_with g b all t) (nodes_agree g b all t)
  node_agrees g b (Loop l all) t = loop_agrees g l (λ c. nodes (machine_of g) c all t) (λ c. nodes_with g c all t) (λ c. nodes_agree g c all t) b

  pub nodes_agree : (g : Setting) (b : Bool) (xs : Nodes) (t : Temps) → Agrees (nodes (machine_of g) b xs t) (nodes_with g b xs t)
  nodes_agree g b none t = goes_agree (On t)
  nodes_agree g b (more x rest) t =
      then_agrees (node (machine_of g) b x t) (node_with g b x t) (follow (nodes (machine_of g) b rest)) (follow_with (nodes_with g b rest)) (node_agrees g b x t)
      (follow_agrees (nodes (machine_of g) b rest) (nodes_with g b rest) (nodes_agree g b rest))
