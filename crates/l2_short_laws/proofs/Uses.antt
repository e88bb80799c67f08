-- A short run on the choices of a solution uses all of them, and does what the solution shows.
use Rattle.std.proofs.Common.{◌≡◌, ℕ, zero, suc, ◌+◌, ◌<◌, ◌≤◌, ℤ, Bool, true, false, refl, sym, ap, ◌∙◌, subst, List, [], ◌∷◌, ◌++◌, append_assoc, length, Option, Some, None}
use Rattle.std.specs.Prelude.{if◌then◌else◌, ◌&&◌, ◌||◌, ◌==◌}
use Rattle.l2_bits.specs.Values.{wrap}
use Rattle.l2_runs.specs.declared.cells.CellValue.{CellValue}
use Rattle.l2_runs.specs.declared.cells.CellValue.TheVariants.{Number}
use Rattle.l2_runs.specs.declared.outcome.Outcome.TheVariants.{Stopped, Broken}
use Rattle.l2_runs.specs.Store.{Store, Address}
use Rattle.l2_runs.specs.Runs.{End, Over, Result, Go, Halt, Run, on_go, and_then, done, stop, either, choose, read, write, demand}
use Rattle.l2_runs.specs.Loops as turning
use Rattle.l2_runs.specs.Loops.{no_tests, or_events, rounds, behind, tally, or_next}
use Rattle.l2_code.specs.declared.action.Operand.{Operand}
use Rattle.l2_code.specs.declared.action.Action.{Action}
use Rattle.l2_code.specs.declared.action.Action.TheVariants as action
use Rattle.l2_code.specs.Trees.{Node, Do, Block, Loop, Nodes, none, more}
use Rattle.l2_code.specs.Values.{Temps, with_temp, operand_value, is_true, compute, cell_of}
use Rattle.l2_code.specs.Machine as machine
use Rattle.l2_code.specs.Machine.{Way, On, Out, or_stuck, act, leave, close, follow}
use Rattle.l2_code.specs.Sets.{IsClosedNode, AreClosed}
use Rattle.l2_code.specs.WellFormed.{Scope, IsTypedNode, AreTyped, behind_node}
use Rattle.l2_code_laws.specs.Holding.{behind_nodes}
use Rattle.l2_code_laws.specs.Preserved.{LimitPreserves}
use Rattle.l2_supply.specs.Supply.{Supply, Place, at, Come, Goes, Ends, Supplied, on_goes, without, come_of, result_of}
use Rattle.l2_supply.specs.Going.{Cut, limit_of, seen, next_with, rounds_with, tested_with, act_with, follow_with, node_with, nodes_with}
use Rattle.l2_ssa.specs.Steps.{Step, Names, on, bit, number_in, Solves}
use Rattle.l2_ssa.specs.Walks as walks
use Rattle.l2_ssa.specs.Walks.{Setting, Slot, Walk, Frame, Given, nothing, pair, Plain, past, is_last, copy_frame, count_steps, count_name, walk_copies, walk_action, walk_node, walk}
use Rattle.l2_ssa.specs.Law.{RowsOf, RanksOf, Matches, starts}
use Rattle.l2_ssa.proofs.Shows.{Spot, Off, At, Standing, Stands, Begins, Shows, Stops, solves_first, solves_second}
use Rattle.l2_ssa.proofs.Labels.{bit_on}
use Rattle.l2_ssa.proofs.Acts.{names}
use Rattle.l2_ssa.proofs.Frames.{outs_of, let_out, allow, NotStuck}
use Rattle.l2_ssa.proofs.Copies.{first_unstuck, ComeHolds}
use Rattle.l2_ssa.proofs.Givens.{supply_of}
use Rattle.l2_ssa.proofs.Whole.{Inv, Hold, KnownCome, nodes_stop, node_known, nodes_known, way_known, node_shows, nodes_shows}
use Rattle.l2_short_laws.specs.Used.{arrivals}
use Rattle.l2_short_laws.proofs.Idle.{given_used, Idle, arrivals_both, g, m, cut, copies_idle, nodes_idle}

abbrev pub place : Store → ℕ → Place
place st n = record { store = st; arrivals = n }

-- with so many arrivals
abbrev pub moved : {A : Type 0} → ℕ → Come A → Come A
moved n (Goes a q) = Goes a (place q.store n)
moved n (Ends x q) = Ends x (place q.store n)

module _ (s : Names) where
  -- on these choices the run does this, uses them all, and makes these arrivals
  pub record Uses {A : Type 0} (r : Run A) (e : Come A) (given : Given) (heads : List Operand) (st : Store) : Type 0 where
    pub by : (rest : List ℤ) (t n : ℕ) → r (at (place st n) (given_used s given ++ rest) t) ≡ result_of (moved (arrivals s n heads) e) rest t

  uses_then : {A B : Type 0} (r : Run A) (f : A → Run B) (e : Come A) (k : A → Place → Come B) (x y : Given) (hs js : List Operand) (st : Store) → Uses r e x hs st
      → ((a : A) (q : Place) → e ≡ Goes a q → Uses (f a) (k a q) y js q.store) → ((z : End) (q : Place) → e ≡ Ends z q → Idle s y js)
      → Uses (and_then r f) (on_goes e k) (pair x y) (hs ++ js) st
  uses_then {A = A} {B = B} r f e k x y hs js st h go off = record {
    by = λ rest t n.
        ap (λ cs. on_go (r (at (place st n) cs t)) f) (append_assoc (given_used s x) (given_used s y) rest)
        ∙ ap (λ z. on_go z f) (h.by (given_used s y ++ rest) t n) ∙ next e go off rest t n;
  }
    where
      next : (e : Come A) → ((a : A) (q : Place) → e ≡ Goes a q → Uses (f a) (k a q) y js q.store) → ((z : End) (q : Place) → e ≡ Ends z q → Idle s y js) → (rest : List ℤ) (t n : ℕ)
          → on_go (result_of (moved (arrivals s n hs) e) (given_used s y ++ rest) t) f ≡ result_of (moved (arrivals s n (hs ++ js)) (on_goes e k)) rest t
      next (Goes a q) go off rest t n = (go a q refl).by rest t (arrivals s n hs) ∙ ap (λ i. result_of (moved i (k a q)) rest t) (sym (arrivals_both s hs js n))
      next (Ends z q) go off rest t n =
          let idle = off z q refl in
          (λ i. Halt z (at (place q.store (arrivals s n hs)) (idle.none i ++ rest) t))
          ∙ ap (λ i. Halt z (at (place q.store i) rest t)) (sym (idle.stays (arrivals s n hs)) ∙ sym (arrivals_both s hs js n))

  uses_done : {A : Type 0} (a : A) (q : Place) (y : Given) (js : List Operand) → Idle s y js → Uses (done a) (Goes a q) y js q.store
  uses_done a q y js idle = record {
    by = λ rest t n.
        (λ i. Go a (at (place q.store n) (idle.none i ++ rest) t)) ∙ ap (λ i. Go a (at (place q.store i) rest t)) (sym (idle.stays n));
  }

  uses_seen : {A B : Type 0} (h : A → B) (r : Run A) (e : Come A) (u : Supply) (x : Given) (hs : List Operand) (st : Store) → Uses r e x hs st → Uses (and_then r (λ a. done (h a))) (on_goes e (λ a. without (done (h a)) u)) x hs st
  uses_seen {A = A} h r e u x hs st k = record { by = λ rest t n. ap (λ z. on_go z (λ a. done (h a))) (k.by rest t n) ∙ go e rest t (arrivals s n hs) }
    where
      go : (e : Come A) (rest : List ℤ) (t n : ℕ) → on_go (result_of (moved n e) rest t) (λ a. done (h a)) ≡ result_of (moved n (on_goes e (λ a. without (done (h a)) u))) rest t
      go (Goes a q) rest t n = refl
      go (Ends z q) rest t n = refl

module _ (row : RowsOf) (lower : RanksOf) (s : Names) (g0 : Setting) (checks loops : ℕ)
    (small : (n : ℕ) → length (g0.types.objects n) ≤ 65536) (there : (o : ℕ) → 0 < length (g0.types.objects o) → (1 ≤ o) × (o < 1 + g0.objects)) (k0 : ℕ) where
  abbrev gs : Setting
  gs = g row lower s g0 checks loops small there k0

  abbrev ms : Rattle.l2_ssa.specs.Steps.Meaning
  ms = m row lower s g0 checks loops small there k0

  abbrev cuts : Rattle.l2_supply.specs.Going.Setting
  cuts = cut row lower s g0 checks loops small there k0

  abbrev pub short : machine.Setting
  short = record { limit = turning.Short (suc k0); tests = no_tests; types = g0.types }

  abbrev Keeps : Store → Type 0
  Keeps = Inv row lower s gs checks loops small there refl k0 refl

  abbrev Stand : Operand → List Slot → Spot → Type 0
  Stand p slots q = Stands ms s gs p slots q

  abbrev Own : Given → Type 0
  Own given = Matches g0.types.objects s given (supply_of s given)

  -- ---- instructions

  module _ (t : Temps) (p : Place) (rest : List ℤ) (turns n : ℕ) where
    abbrev Same : Run Way → Type 0
    Same r = r (at (place p.store n) rest turns) ≡ result_of (moved n (come_of (r (at p [] 0)))) rest turns

    compute_same : (i : ℕ) (x : Option CellValue) → Same (and_then (or_stuck x) (λ v. done (On (with_temp t i v))))
    compute_same i None = refl
    compute_same i (Some v) = refl

    read_same : (i : ℕ) (x : Option Address) → Same (and_then (or_stuck x) (λ ad. and_then (read ad) (λ v. done (On (with_temp t i v)))))
    read_same i None = refl
    read_same i (Some ad) = refl

    write_same : (v : CellValue) (x : Option Address) → Same (and_then (or_stuck x) (λ ad. and_then (write ad v) (λ u. done (On t))))
    write_same v None = refl
    write_same v (Some ad) = refl

    assume_same : (x : Bool) → Same (either x (done (On t)) stop)
    assume_same true = refl
    assume_same false = refl

    unless_same : (d : ℕ) (x : Bool) → Same (either x (done (On t)) (done (Out d)))
    unless_same d true = refl
    unless_same d false = refl

    demand_same : (b : Bool) (e : End) (ok : Bool) → Same (and_then (demand b e ok) (λ u. done (On t)))
    demand_same b e true = refl
    demand_same true e false = refl
    demand_same false e false = refl

  act_uses : (fs : List Frame) (c : Operand) (n : ℕ) (w : Walk) (t : Temps) (p : Place) → on s w.path ≡ true → (b : Bool) (a : Action)
      → Uses s (act short b a t) (act_with cuts b a t (supply_of s (walk_action gs fs c n w a).given) p) (walk_action gs fs c n w a).given (walk_action gs fs c n w a).heads p.store
  act_uses fs c n w t p h b (action.Compute i x) = record { by = λ rest turns k. compute_same t p rest turns k i (compute g0.types p.store t x) }
  act_uses fs c n w t p h b (action.Read i ty a) = record { by = λ rest turns k. read_same t p rest turns k i (cell_of g0.types.objects ty (operand_value t a)) }
  act_uses fs c n w t p h b (action.Write ty a x) = record { by = λ rest turns k. write_same t p rest turns k (operand_value t x) (cell_of g0.types.objects ty (operand_value t a)) }
  act_uses fs c n w t p h b (action.Choice i ty) = record { by = λ rest turns k. ap (λ y. and_then choose (λ z. done (On (with_temp t i (Number (wrap ty z))))) (at (place p.store k) ((if y then number_in (s n) ∷ [] else []) ++ rest) turns)) h }
  act_uses fs c n w t p h b (action.Assume a) = record { by = λ rest turns k. assume_same t p rest turns k (is_true (operand_value t a)) }
  act_uses fs c n w t p h b (action.Check i a) = record { by = λ rest turns k. demand_same t p rest turns k b (Over (Broken i)) (i == 0 || is_true (operand_value t a)) }
  act_uses fs c n w t p h b (action.Unless a d) = record { by = λ rest turns k. unless_same t p rest turns k d (is_true (operand_value t a)) }
  act_uses fs c n w t p h b (action.Goto d) = record { by = λ rest turns k. refl }
  act_uses fs c n w t p h b (action.Live o) = record { by = λ rest turns k. refl }
  act_uses fs c n w t p h b (action.Dead o) = record { by = λ rest turns k. refl }
  act_uses fs c n w t p h b action.End = record { by = λ rest turns k. refl }

  -- ---- a turn of a loop

  module _ (l : ℕ) (all : Nodes) (t : Temps) (b : Bool) where
    -- a turn, as the machine has it, with its tests
    abbrev turn_run : Unit {0} → Run (Unit {0} × Option ℕ)
    turn_run = turning.tested no_tests l (λ d (u : Unit {0}). and_then (and_then (machine.nodes short d all t) (λ w. done (close w))) (λ o. done (tt {0}, o))) b

    abbrev turn_with : Supplied (Unit {0} × Option ℕ)
    turn_with = tested_with no_tests l b (seen (λ w. (tt {0}, close w)) (nodes_with cuts b all t))

    abbrev rounds_run : ℕ → Unit {0} → Run (Unit {0} × ℕ)
    rounds_run k = rounds (Over Stopped) k (behind tally turn_run)

    turn_runs : (st : Store) (x : Result Way) (k : ℕ)
        → on_go (on_go (on_go (on_go x (λ w. done (close w))) (λ o. done (tt {0}, o))) (or_events b l [] st)) (or_next (rounds_run k)) ≡ on_go x (λ w. or_next (rounds_run k) (tt {0}, close w))
    turn_runs st (Go (On u) z) k = refl
    turn_runs st (Go (Out j) z) k = refl
    turn_runs st (Halt e z) k = refl

    turn_comes : (st : Store) (u : Supply) (x : Come Way) (k : ℕ) (v : Supply)
        → on_goes (on_goes (on_goes x (λ w. without (done (tt {0}, close w)) u)) (λ y. without (or_events b l [] st y) u)) (λ y. next_with (rounds_with k turn_with) y v)
        ≡ on_goes x (λ w q. next_with (rounds_with k turn_with) (tt {0}, close w) v q)
    turn_comes st u (Goes (On a) q) k v = refl
    turn_comes st u (Goes (Out j) q) k v = refl
    turn_comes st u (Ends e q) k v = refl

  count_is : (last : Bool) (p c : Operand) (n : ℕ) → on s p ≡ true → Solves ms s n (count_steps last p walks.F c) → on s (count_name last c n) ≡ on s c
  count_is true p c n guard ok = refl
  count_is false p c n guard ok = ap is_true (ok.0 guard) ∙ bit_on (on s c && true) ∙ and_true (on s c)
    where
      and_true : (x : Bool) → (x && true) ≡ x
      and_true true = refl
      and_true false = refl

  out_off : (x : Bool) (j : ℕ) (q : Place) (o : walks.Out) → Shows ms s gs o (let_out x j q) → Stand o.after.path o.after.slots Off
  out_off true j q o h = h.after.stands
  out_off false j q o h = h.after.stands

  module _ (limits : LimitPreserves Keeps (limit_of cuts (Cut (suc k0) (starts row gs)))) where
    module _ (l : ℕ) (all : Nodes) (fs : List Frame) (temps : ℕ → Operand) (t : Temps) (same : (i : ℕ) → operand_value s (temps i) ≡ t i) (c : Operand)
        (body_uses : (f : Frame) (d : Operand) (n : ℕ) (w : Walk) (p : Place) → Begins ms s gs w (Standing t p) → Keeps p.store → Solves ms s n (walk gs all (f ∷ fs) d n w).steps → Own (walk gs all (f ∷ fs) d n w).given
        → NotStuck (nodes_with cuts (on s d) all t (supply_of s (walk gs all (f ∷ fs) d n w).given) p)
        → Uses s (machine.nodes short (on s d) all t) (nodes_with cuts (on s d) all t (supply_of s (walk gs all (f ∷ fs) d n w).given) p) (walk gs all (f ∷ fs) d n w).given (walk gs all (f ∷ fs) d n w).heads p.store)
        (body_shows : (f : Frame) (d : Operand) (n : ℕ) (w : Walk) (p : Place) → Begins ms s gs w (Standing t p) → Keeps p.store → Solves ms s n (walk gs all (f ∷ fs) d n w).steps → Own (walk gs all (f ∷ fs) d n w).given
        → NotStuck (nodes_with cuts (on s d) all t (supply_of s (walk gs all (f ∷ fs) d n w).given) p)
        → Shows ms s gs (walk gs all (f ∷ fs) d n w) (allow (outs_of s (f ∷ fs)) (nodes_with cuts (on s d) all t (supply_of s (walk gs all (f ∷ fs) d n w).given) p)))
        (body_holds : (d : Bool) (u : Supply) (p : Place) → Keeps p.store → ComeHolds Keeps (nodes_with cuts d all t u p)) where
      abbrev copies : ℕ → ℕ → Walk → walks.Out
      copies k n w = walk_copies gs (λ f d i v. walk gs all (f ∷ fs) d i v) l Plain walks.F c temps k n w

      abbrev with_rounds : ℕ → Given → Place → Come (Unit {0} × ℕ)
      with_rounds k given p = rounds_with k (turn_with l all t (on s c)) (supply_of s given) p

      abbrev runs : ℕ → Unit {0} → Run (Unit {0} × ℕ)
      runs k = rounds_run l all t (on s c) k

      dead_copies : (k n : ℕ) (w : Walk) → Stand w.path w.slots Off → Solves ms s n (copies k n w).steps → Idle s (copies k n w).given (copies k n w).heads
      dead_copies k n w h ok =
          copies_idle row lower s g0 checks loops small there k0 limits l (λ f d i v. walk gs all (f ∷ fs) d i v) temps c (λ f d i v h ok. nodes_idle row lower s g0 checks loops small there k0 limits all (f ∷ fs) d i v h ok)
          (λ f d i v h ok. nodes_stop row lower s gs checks loops small there refl k0 refl limits all (f ∷ fs) d i v h ok) k n w h ok

      -- a turn that has come to this, and the copies that follow
      turn_then : (fr : Frame) (k n : ℕ) (o : walks.Out) (e : Come Way) (v : Supply) (given : Given) (heads : List Operand) → Shows ms s gs o (allow (outs_of s (fr ∷ fs)) e) → ComeHolds Keeps e
          → ((q : Place) → Stand o.after.path o.after.slots (At q.store) → Keeps q.store → NotStuck (rounds_with k (turn_with l all t (on s c)) v q) → Uses s (runs k (tt {0})) (rounds_with k (turn_with l all t (on s c)) v q) given heads q.store)
          → (Stand o.after.path o.after.slots Off → Idle s given heads)
          → NotStuck (on_goes e (λ w q. next_with (rounds_with k (turn_with l all t (on s c))) (tt {0}, close w) v q))
          → (hs : List Operand) (x : Given) (st : Store) → Uses s (machine.nodes short (on s c) all t) e x hs st
          → Uses s (and_then (machine.nodes short (on s c) all t) (λ w. or_next (runs k) (tt {0}, close w))) (on_goes e (λ w q. next_with (rounds_with k (turn_with l all t (on s c))) (tt {0}, close w) v q)) (pair x given) (hs ++ heads) st
      turn_then fr k n o e v given heads sh inv go off ns hs x st u =
          uses_then s (machine.nodes short (on s c) all t) (λ w. or_next (runs k) (tt {0}, close w)) e (λ w q. next_with (rounds_with k (turn_with l all t (on s c))) (tt {0}, close w) v q) x given hs heads st u
          (λ a q i. way a q (subst (λ y. Shows ms s gs o (allow (outs_of s (fr ∷ fs)) y)) i sh) (subst (λ y. ComeHolds Keeps y) i inv)
          (subst (λ y. NotStuck (on_goes y (λ w q. next_with (rounds_with k (turn_with l all t (on s c))) (tt {0}, close w) v q))) i ns))
          (λ z q i. off (subst (λ y. Shows ms s gs o (allow (outs_of s (fr ∷ fs)) y)) i sh).after.stands)
        where
          way : (a : Way) (q : Place) → Shows ms s gs o (allow (outs_of s (fr ∷ fs)) (Goes a q)) → ComeHolds Keeps (Goes a q) → NotStuck (next_with (rounds_with k (turn_with l all t (on s c))) (tt {0}, close a) v q)
              → Uses s (or_next (runs k) (tt {0}, close a)) (next_with (rounds_with k (turn_with l all t (on s c))) (tt {0}, close a) v q) given heads q.store
          way (On u) q sh inv ns = record { by = λ rest turns i. (go q sh.after.stands inv ns).by rest turns i }
          way (Out j) q sh inv ns = record { by = λ rest turns i. (uses_done s (tt {0}, j) q given heads (off (out_off (outs_of s (fr ∷ fs) j) j q o sh))).by rest turns i }

      pub copies_use : (k n : ℕ) (w : Walk) (p : Place) → Stand w.path w.slots (At p.store) → Keeps p.store → Solves ms s n (copies k n w).steps → Own (copies k n w).given → NotStuck (with_rounds k (copies k n w).given p)
          → Uses s (runs k (tt {0})) (with_rounds k (copies k n w).given p) (copies k n w).given (copies k n w).heads p.store
      copies_use zero n w p h inv ok mt ns = record { by = λ rest turns i. refl }
      copies_use (suc k) n w p h inv ok mt ns =
          let x = count_steps (is_last k) w.path walks.F c in
          let d = count_name (is_last k) c n in
          let o = walk gs all (copy_frame (is_last k) walks.F ∷ fs) d (past n x) (record w { temps = temps }) in
          let n1 = past (past n x) o.steps in
          let q = copies k n1 o.after in
          let ok1 = solves_second ms s gs n x (o.steps ++ q.steps) ok in
          let oko = solves_first ms s gs (past n x) o.steps q.steps ok1 in
          let okq = solves_second ms s gs (past n x) o.steps q.steps ok1 in
          let dc = count_is (is_last k) w.path c n h.0 (solves_first ms s gs n x (o.steps ++ q.steps) ok) in
          let e = nodes_with cuts (on s c) all t (supply_of s o.given) p in
          let comes = turn_comes l all t (on s c) p.store (supply_of s o.given) e k (supply_of s q.given) in
          let ns1 = subst (λ y. NotStuck y) comes ns in
          let ns2 = first_unstuck e (λ w z. next_with (rounds_with k (turn_with l all t (on s c))) (tt {0}, close w) (supply_of s q.given) z) ns1 in
          let ns3 = subst (λ y. NotStuck (nodes_with cuts y all t (supply_of s o.given) p)) (sym dc) ns2 in
          let begin : Begins ms s gs (record w { temps = temps }) (Standing t p) = record { stands = h; temps = same } in
          let bu = subst (λ y. Uses s (machine.nodes short y all t) (nodes_with cuts y all t (supply_of s o.given) p) o.given o.heads p.store) dc (body_uses (copy_frame (is_last k) walks.F) d (past n x) (record w { temps = temps }) p begin inv oko mt.0 ns3) in
          let bs = subst (λ y. Shows ms s gs o (allow (outs_of s (copy_frame (is_last k) walks.F ∷ fs)) (nodes_with cuts y all t (supply_of s o.given) p))) dc (body_shows (copy_frame (is_last k) walks.F) d (past n x) (record w { temps = temps }) p begin inv oko mt.0 ns3) in
          let chain = turn_then (copy_frame (is_last k) walks.F) k n1 o e (supply_of s q.given) q.given q.heads bs (body_holds (on s c) (supply_of s o.given) p inv)
          (λ z st iz nz. copies_use k n1 o.after z st iz okq mt.1 nz) (λ off. dead_copies k n1 o.after off okq) ns1 o.heads o.given p.store bu in
          record {
            by = λ rest turns i.
                turn_runs l all t (on s c) p.store (machine.nodes short (on s c) all t (at (place p.store (suc i)) (given_used s (pair o.given q.given) ++ rest) turns)) k
                ∙ chain.by rest turns (suc i)
                ∙ ap (λ y. result_of (moved (arrivals s (if y then suc i else i) (o.heads ++ q.heads)) (on_goes e (λ w z. next_with (rounds_with k (turn_with l all t (on s c))) (tt {0}, close w) (supply_of s q.given) z))) rest turns) (sym h.0)
                ∙ ap (λ y. result_of (moved (arrivals s i (w.path ∷ (o.heads ++ q.heads))) y) rest turns) (sym comes);
          }

    -- ---- code

    loop_ends : (z : Result (Unit {0} × ℕ)) → on_go (on_go z (λ r. done r.1)) (λ n. done (Out n)) ≡ on_go z (λ r. done (Out r.1))
    loop_ends (Go a q) = refl
    loop_ends (Halt e q) = refl

    follow_uses : (b : Bool) (rest : Nodes) (fs : List Frame) (o : walks.Out) (e : Come Way) (v : Supply) (given : Given) (heads : List Operand) → Shows ms s gs o (allow (outs_of s fs) e)
        → ((u : Temps) (q : Place) → e ≡ Goes (On u) q → Uses s (machine.nodes short b rest u) (nodes_with cuts b rest u v q) given heads q.store)
        → (Stand o.after.path o.after.slots Off → Idle s given heads)
        → (a : Way) (q : Place) → e ≡ Goes a q → Uses s (follow (machine.nodes short b rest) a) (follow_with (nodes_with cuts b rest) a v q) given heads q.store
    follow_uses b rest fs o e v given heads sh go off (On u) q i = record { by = λ cs turns n. (go u q i).by cs turns n }
    follow_uses b rest fs o e v given heads sh go off (Out j) q i =
        record { by = λ cs turns n. (uses_done s (Out j) q given heads (off (out_off (outs_of s fs j) j q o (subst (λ y. Shows ms s gs o (allow (outs_of s fs) y)) i sh)))).by cs turns n }

    mutual
      node_uses : (x : Node) (fs : List Frame) (c : Operand) (n : ℕ) (w : Walk) (t : Temps) (p : Place) (scope : Scope) → IsTypedNode (names row lower s gs checks loops small there) scope x → IsClosedNode g0.family x
          → Begins ms s gs w (Standing t p) → Hold row lower s gs checks loops small there refl k0 refl scope t → Keeps p.store → Solves ms s n (walk_node gs x fs c n w).steps → Own (walk_node gs x fs c n w).given
          → NotStuck (node_with cuts (on s c) x t (supply_of s (walk_node gs x fs c n w).given) p)
          → Uses s (machine.node short (on s c) x t) (node_with cuts (on s c) x t (supply_of s (walk_node gs x fs c n w).given) p) (walk_node gs x fs c n w).given (walk_node gs x fs c n w).heads p.store
      node_uses (Do a) fs c n w t p scope k z h hold inv ok mt ns = act_uses fs c n w t p h.stands.0 (on s c) a
      node_uses (Block all) fs c n w t p scope k z h hold inv ok mt ns =
          let o = walk gs all (walks.Block ∷ fs) c n w in
          let u = nodes_uses all (walks.Block ∷ fs) c n w t p scope k z h hold inv (solves_first ms s gs n o.steps _ ok) mt (first_unstuck (nodes_with cuts (on s c) all t (supply_of s o.given) p) _ ns) in
          uses_seen s (leave t) (machine.nodes short (on s c) all t) (nodes_with cuts (on s c) all t (supply_of s o.given) p) (supply_of s o.given) o.given o.heads p.store u
      node_uses (Loop l all) fs c n w t p scope k z h hold inv ok mt ns =
          let cp = copies l all fs w.temps t h.temps c (λ f d i v q bg iv okb mtb nsb. nodes_uses all (f ∷ fs) d i v t q scope k.1 z bg hold iv okb mtb nsb)
          (λ f d i v q bg iv okb mtb nsb. nodes_shows row lower s gs checks loops small there refl k0 refl limits all (f ∷ fs) d i v t q (supply_of s (walk gs all (f ∷ fs) d i v).given) scope k.1 z bg hold iv okb mtb nsb)
          (λ d u q iv. way_known row lower s gs checks loops small there refl k0 refl limits (behind_nodes scope all) (nodes_with cuts d all t u q) (nodes_known row lower s gs checks loops small there refl k0 refl limits d all scope t u q k.1 z hold iv))
          (suc k0) n w in
          let e = rounds_with (suc k0) (turn_with l all t (on s c)) (supply_of s cp.given) p in
          let u = copies_use l all fs w.temps t h.temps c (λ f d i v q bg iv okb mtb nsb. nodes_uses all (f ∷ fs) d i v t q scope k.1 z bg hold iv okb mtb nsb)
          (λ f d i v q bg iv okb mtb nsb. nodes_shows row lower s gs checks loops small there refl k0 refl limits all (f ∷ fs) d i v t q (supply_of s (walk gs all (f ∷ fs) d i v).given) scope k.1 z bg hold iv okb mtb nsb)
          (λ d u q iv. way_known row lower s gs checks loops small there refl k0 refl limits (behind_nodes scope all) (nodes_with cuts d all t u q) (nodes_known row lower s gs checks loops small there refl k0 refl limits d all scope t u q k.1 z hold iv))
          (suc k0) n w p h.stands inv ok mt.1.1 (first_unstuck e (λ r. without (done (Out r.1)) (supply_of s (walk_node gs (Loop l all) fs c n w).given)) ns) in
          let seen_of = uses_seen s (λ (r : Unit {0} × ℕ). Out r.1) (rounds_run l all t (on s c) (suc k0) (tt {0})) e (supply_of s (walk_node gs (Loop l all) fs c n w).given) cp.given cp.heads p.store u in
          record { by = λ rest turns i. loop_ends (rounds_run l all t (on s c) (suc k0) (tt {0}) (at (place p.store i) (given_used s cp.given ++ rest) turns)) ∙ seen_of.by rest turns i }

      pub nodes_uses : (xs : Nodes) (fs : List Frame) (c : Operand) (n : ℕ) (w : Walk) (t : Temps) (p : Place) (scope : Scope) → AreTyped (names row lower s gs checks loops small there) scope xs → AreClosed g0.family xs
          → Begins ms s gs w (Standing t p) → Hold row lower s gs checks loops small there refl k0 refl scope t → Keeps p.store → Solves ms s n (walk gs xs fs c n w).steps → Own (walk gs xs fs c n w).given
          → NotStuck (nodes_with cuts (on s c) xs t (supply_of s (walk gs xs fs c n w).given) p)
          → Uses s (machine.nodes short (on s c) xs t) (nodes_with cuts (on s c) xs t (supply_of s (walk gs xs fs c n w).given) p) (walk gs xs fs c n w).given (walk gs xs fs c n w).heads p.store
      nodes_uses none fs c n w t p scope k z h hold inv ok mt ns = record { by = λ rest turns i. refl }
      nodes_uses (more x rest) fs c n w t p scope k z h hold inv ok mt ns =
          let o = walk_node gs x fs c n w in
          let q = walk gs rest fs c (past n o.steps) o.after in
          let e = node_with cuts (on s c) x t (supply_of s o.given) p in
          let oko = solves_first ms s gs n o.steps q.steps ok in
          let okq = solves_second ms s gs n o.steps q.steps ok in
          let nso = first_unstuck e (λ a. follow_with (nodes_with cuts (on s c) rest) a (supply_of s q.given)) ns in
          let sh = node_shows row lower s gs checks loops small there refl k0 refl limits x fs c n w t p (supply_of s o.given) scope k.0 z.0 h hold inv oko mt.0 nso in
          let known = node_known row lower s gs checks loops small there refl k0 refl limits (on s c) x scope t (supply_of s o.given) p k.0 z.0 hold inv in
          uses_then s (machine.node short (on s c) x t) (follow (machine.nodes short (on s c) rest)) e (λ a. follow_with (nodes_with cuts (on s c) rest) a (supply_of s q.given)) o.given q.given o.heads q.heads p.store
          (node_uses x fs c n w t p scope k.0 z.0 h hold inv oko mt.0 nso)
          (follow_uses (on s c) rest fs o e (supply_of s q.given) q.given q.heads sh
          (λ u y i. let kn = subst (KnownCome row lower s gs checks loops small there refl k0 refl (behind_node scope x)) i known in
          nodes_uses rest fs c (past n o.steps) o.after u y (behind_node scope x) k.1 z.1
          (subst (λ y. Begins ms s gs o.after (Rattle.l2_ssa.proofs.Shows.fallen (allow (outs_of s fs) y))) i sh.after) kn.0 kn.1 okq mt.1
          (subst (λ y. NotStuck (on_goes y (λ a. follow_with (nodes_with cuts (on s c) rest) a (supply_of s q.given)))) i ns))
          (λ off. nodes_idle row lower s g0 checks loops small there k0 limits rest fs c (past n o.steps) o.after off okq))
          (λ y z i. nodes_idle row lower s g0 checks loops small there k0 limits rest fs c (past n o.steps) o.after (subst (λ y. Begins ms s gs o.after (Rattle.l2_ssa.proofs.Shows.fallen (allow (outs_of s fs) y))) i sh.after).stands okq)
