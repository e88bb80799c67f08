-- What a solution shows of code, where rankings are asked for.
use Rattle.std.proofs.Common.{◌≡◌, inl, inr, ℕ, zero, suc, ◌+◌, ◌<◌, ◌≤◌, Bool, true, false, not, refl, sym, ap, ◌∙◌, subst, List, [], ◌∷◌, ◌++◌, length, Option, pos}
use Rattle.std.specs.Ordering.{int_eq}
use Rattle.l2_runs.specs.declared.outcome.Outcome.TheVariants.{Ended, Stopped, Broken, OutOfChoices, OutOfTurns}
use Rattle.l2_runs.specs.Store.{Store}
use Rattle.l2_runs.specs.Runs.{Over, Fallen, done, stop, either, Run}
use Rattle.l2_runs.specs.Keeps.{Anything}
use Rattle.l2_code.specs.declared.action.Operand.{Operand}
use Rattle.l2_code.specs.declared.action.Operand.TheVariants.{Temp}
use Rattle.l2_code.specs.declared.action.Action.{Action}
use Rattle.l2_code.specs.declared.action.Action.TheVariants as action
use Rattle.l2_code.specs.Trees.{Node, Do, Block, Loop, Nodes, none, more}
use Rattle.l2_code.specs.Values.{Temps, operand_value, is_true}
use Rattle.l2_code.specs.Machine as machine
use Rattle.l2_code.specs.Machine.{Way, On, Out, leave, close}
use Rattle.l2_code.specs.Sets.{IsClosedNode, AreClosed}
use Rattle.l2_code.specs.WellFormed.{Scope, IsTypedNode, AreTyped, behind_node}
use Rattle.l2_code_laws.specs.Preserved.{ResultHolds, Preserves, LimitPreserves}
use Rattle.l2_code_laws.specs.Holding.{StoreHolds, WayHolds, behind_nodes}
use Rattle.l2_code_laws.proofs.Acts as held
use Rattle.l2_supply.specs.Supply.{Supply, left, right, number_of, Place, at, Come, Goes, Ends, Supplied, on_goes, then_with, come_of, Chosen}
use Rattle.l2_supply.specs.Going.{Heads, Cut, seen, tested_with, rounds_with, later_with, scatter_with, passing, back_with, machine_of, limit_of, follow_with, node_with, nodes_with}
use Rattle.l2_supply.proofs.Runs.{node_agrees, nodes_agree, back_agrees}
use Rattle.l2_ssa.specs.Steps.{Step, Names, on, bit, Solves}
use Rattle.l2_ssa.specs.Walks as walks
use Rattle.l2_ssa.specs.Walks.{Setting, Walk, Frame, Given, Kind, Bottom, Plain, Rows, past, goes_on, joined, pair, at_label, scatter, head_rows, on_check, walk_action, walk_copies, walk_loop, walk_node, walk}
use Rattle.l2_ssa.specs.Law.{Matches, RowsOf, RanksOf, starts, starts_of, rows_hold}
use Rattle.l2_ssa.proofs.Shows.{Spot, Off, At, Standing, Stands, Begins, EventsShow, Shows, Stops, then_come, joined_stops, solves_first, solves_second}
use Rattle.l2_ssa.proofs.Labels.{bit_on, leave_come, label_shows, label_stops}
use Rattle.l2_ssa.proofs.Acts.{meaning, names, Held}
use Rattle.l2_ssa.proofs.Frames.{outs_of, let_out, allow, NotStuck}
use Rattle.l2_ssa.proofs.Instructions as instructions
use Rattle.l2_ssa.proofs.Instructions.{act_shows, act_stops}
use Rattle.l2_ssa.proofs.Heads.{entry_all, off_all, Lands, back_all, rows_entry, rows_back, rows_off}
use Rattle.l2_ssa.proofs.Copies.{turns, entry_turns, back_turns, way_of, first_unstuck, ComeHolds}
use Rattle.l2_ssa_laws.specs.Rankings.{Watch, rank_tests}
use Rattle.l2_ssa_laws.proofs.Shown.{others, Shown, unranked, AllQuiet, joined_shown, false_unranked, false_quiet}
use Rattle.l2_ssa_laws.proofs.Rounds.{copies_show, copies_stop}

module _ (row : RowsOf) (lower : RanksOf) (s : Names) (g : Setting) (checks loops : ℕ)
    (small : (n : ℕ) → length (g.types.objects n) ≤ 65536) (there : (o : ℕ) → 0 < length (g.types.objects o) → (1 ≤ o) × (o < 1 + g.objects))
    (ranked : g.ranks ≡ true) (watched : ℕ → Watch) (k0 : ℕ) (copies : g.copies ≡ suc k0) where
  abbrev heads : Heads
  heads = Cut (suc k0) (starts row g)

  abbrev m : Rattle.l2_ssa.specs.Steps.Meaning
  m = meaning row lower s g checks loops small there

  abbrev pub run : Rattle.l2_supply.specs.Going.Setting
  run = instructions.run row lower s g checks loops small there heads (rank_tests row lower g watched)

  abbrev Inv : Store → Type 0
  Inv store = StoreHolds g.types.objects g.family store

  abbrev Stand : Operand → List walks.Slot → Spot → Type 0
  Stand p slots q = Stands m s g p slots q

  abbrev Show : walks.Out → Come Way → Type 0
  Show o e = Shown m s g watched o e

  abbrev Stop : walks.Out → Type 0
  Stop o = Stops m s g o

  abbrev Hold : Scope → Temps → Type 0
  Hold scope t = Held row lower s g checks loops small there scope t

  stop_show : (o : walks.Out) (p : Place) → Stop o → Show o (Ends (Over Stopped) p)
  stop_show o p h = inl (record {
    shows = record { after = record { stands = h.after; temps = tt }; entries = h.entries; events = false_unranked m s g watched o.events h.events };
    quiet = false_quiet m s g watched o.events h.events;
  })

  -- what is shown doesn't look at steps and names
  show_as : (o : walks.Out) (steps : List Step) (given : Given) (e : Come Way) → Show o e → Show (record o { steps = steps; given = given }) e
  show_as o steps given e (inl h) = inl (record { shows = record { after = h.shows.after; entries = h.shows.entries; events = h.shows.events }; quiet = h.quiet })
  show_as o steps given e (inr h) = inr h

  -- ---- instructions

  check_kept : (rk : Bool) (k : ℕ) (c a : Operand) (n : ℕ) (w : Walk) → unranked (on_check rk k c a n w).events ≡ (on_check rk k c a n w).events
  check_kept true k c a n w = refl
  check_kept false k c a n w = refl

  check_quiet : (rk : Bool) (k : ℕ) (c a : Operand) (n : ℕ) (w : Walk) → AllQuiet m s g watched (on_check rk k c a n w).events
  check_quiet true k c a n w = tt
  check_quiet false k c a n w = (tt, tt)

  act_kept : (fs : List Frame) (c : Operand) (n : ℕ) (w : Walk) (a : Action) → unranked (walk_action g fs c n w a).events ≡ (walk_action g fs c n w a).events
  act_kept fs c n w (action.Compute i x) = refl
  act_kept fs c n w (action.Read i ty a) = refl
  act_kept fs c n w (action.Write ty a x) = refl
  act_kept fs c n w (action.Choice i ty) = refl
  act_kept fs c n w (action.Assume a) = refl
  act_kept fs c n w (action.Check k a) = check_kept g.ranks k c (walks.now w a) n w
  act_kept fs c n w (action.Unless a d) = refl
  act_kept fs c n w (action.Goto d) = refl
  act_kept fs c n w (action.Live o) = refl
  act_kept fs c n w (action.Dead o) = refl
  act_kept fs c n w action.End = refl

  act_quiet : (fs : List Frame) (c : Operand) (n : ℕ) (w : Walk) (a : Action) → AllQuiet m s g watched (walk_action g fs c n w a).events
  act_quiet fs c n w (action.Compute i x) = tt
  act_quiet fs c n w (action.Read i ty a) = tt
  act_quiet fs c n w (action.Write ty a x) = tt
  act_quiet fs c n w (action.Choice i ty) = tt
  act_quiet fs c n w (action.Assume a) = tt
  act_quiet fs c n w (action.Check k a) = check_quiet g.ranks k c (walks.now w a) n w
  act_quiet fs c n w (action.Unless a d) = tt
  act_quiet fs c n w (action.Goto d) = tt
  act_quiet fs c n w (action.Live o) = tt
  act_quiet fs c n w (action.Dead o) = tt
  act_quiet fs c n w action.End = tt

  act_shown : (fs : List Frame) (c : Operand) (n : ℕ) (w : Walk) (a : Action) (e : Come Way) → Shows m s g (walk_action g fs c n w a) e → Show (walk_action g fs c n w a) e
  act_shown fs c n w a e h = inl (record {
    shows = record { after = h.after; entries = h.entries; events = subst (λ es. EventsShow m s g es e) (sym (act_kept fs c n w a)) h.events };
    quiet = act_quiet fs c n w a;
  })

  -- ---- labels

  label_shown : (temps : ℕ → Operand) (n : ℕ) (o : walks.Out) → Solves m s n (at_label g temps n o).steps → (t : Temps) (e : Come Way) → ((i : ℕ) → operand_value s (temps i) ≡ t i) → Show o e → Show (at_label g temps n o) (leave_come m s g t e)
  label_shown temps n o ok t e same (inl h) = inl (record { shows = label_shows m s g temps n (others o) ok t e same h.shows; quiet = h.quiet })
  label_shown temps n o ok t (Goes w p) same (inr h) = absurd h
  label_shown temps n o ok t (Ends x p) same (inr h) = inr h

  -- ---- what runs keep

  abbrev KnownCome : Scope → Come Way → Type 0
  KnownCome scope (Goes w p) = WayHolds g.types.objects g.family scope w × Inv p.store
  KnownCome scope (Ends e p) = Unit {0}

  come_known : (scope : Scope) (r : Run Way) (p : Place) (e : Come Way) → Preserves Inv (WayHolds g.types.objects g.family scope) r → Inv p.store → Chosen r p e → KnownCome scope e
  come_known scope r p (Goes w q) h inv c = subst (ResultHolds Inv (WayHolds g.types.objects g.family scope)) (c.comes [] 0) (h.by (at p (c.choices ++ []) 0) inv)
  come_known scope r p (Ends e q) h inv c = tt

  unit_known : (r : Run (Unit {0})) (p : Place) (e : Come (Unit {0})) → Preserves Inv Anything r → Inv p.store → Chosen r p e → ComeHolds Inv e
  unit_known r p (Goes w q) h inv c = (subst (ResultHolds Inv Anything) (c.comes [] 0) (h.by (at p (c.choices ++ []) 0) inv)).1
  unit_known r p (Ends e q) h inv c = tt

  module _ (limits : LimitPreserves Inv (limit_of run heads)) where
    node_known : (b : Bool) (x : Node) (scope : Scope) (t : Temps) (u : Supply) (p : Place) → IsTypedNode (names row lower s g checks loops small there) scope x → IsClosedNode g.family x → Hold scope t → Inv p.store
        → KnownCome (behind_node scope x) (node_with run b x t u p)
    node_known b x scope t u p k z h inv =
        come_known (behind_node scope x) (machine.node (machine_of run) b x t) p (node_with run b x t u p)
        (held.node_holds (names row lower s g checks loops small there) g.family small (machine_of run) refl limits b x scope t k z h) inv ((node_agrees run b x t).by_supply p u)

    nodes_known : (b : Bool) (xs : Nodes) (scope : Scope) (t : Temps) (u : Supply) (p : Place) → AreTyped (names row lower s g checks loops small there) scope xs → AreClosed g.family xs → Hold scope t → Inv p.store
        → KnownCome (behind_nodes scope xs) (nodes_with run b xs t u p)
    nodes_known b xs scope t u p k z h inv =
        come_known (behind_nodes scope xs) (machine.nodes (machine_of run) b xs t) p (nodes_with run b xs t u p)
        (held.nodes_hold (names row lower s g checks loops small there) g.family small (machine_of run) refl limits b xs scope t k z h) inv ((nodes_agree run b xs t).by_supply p u)

    way_known : (scope : Scope) (e : Come Way) → KnownCome scope e → ComeHolds Inv e
    way_known scope (Goes w p) h = h.1
    way_known scope (Ends e p) h = tt

    -- ---- blocks

    block_same : (fs : List Frame) (t : Temps) (e : Come Way) → leave_come m s g t (allow (outs_of s (walks.Block ∷ fs)) e) ≡ allow (outs_of s fs) (on_goes e (λ w p. Goes (leave t w) p))
    block_same fs t (Goes (On c) p) = refl
    block_same fs t (Goes (Out zero) p) = refl
    block_same fs t (Goes (Out (suc k)) p) = go (outs_of s fs k)
      where
        go : (x : Bool) → leave_come m s g t (let_out x (suc k) p) ≡ let_out x k p
        go true = refl
        go false = refl
    block_same fs t (Ends e p) = refl

    -- ---- sequences

    then_same : (fs : List Frame) (e : Come Way) (f : Temps → Place → Come Way) → then_come m s g (allow (outs_of s fs) e) (λ t p. allow (outs_of s fs) (f t p)) ≡ allow (outs_of s fs) (then_come m s g e f)
    then_same fs (Goes (On t) p) f = refl
    then_same fs (Goes (Out n) p) f = go (outs_of s fs n)
      where
        go : (x : Bool) → then_come m s g (let_out x n p) (λ t p. allow (outs_of s fs) (f t p)) ≡ let_out x n p
        go true = refl
        go false = refl
    then_same fs (Ends e p) f = refl

    follow_same : (e : Come Way) (f : Temps → Supplied Way) (u : Supply) → on_goes e (λ w. follow_with f w u) ≡ then_come m s g e (λ t p. f t u p)
    follow_same (Goes (On t) p) f u = refl
    follow_same (Goes (Out n) p) f u = refl
    follow_same (Ends e p) f u = refl

    allow_on : (outs : ℕ → Bool) (e : Come Way) (t : Temps) (p : Place) → allow outs e ≡ Goes (On t) p → e ≡ Goes (On t) p
    allow_on outs (Goes (On c) q) t p i = i
    allow_on outs (Goes (Out n) q) t p i = absurd (go (outs n) i)
      where
        go : (x : Bool) → let_out x n q ≡ Goes (On t) p → ⊥
        go true j = cc
        go false j = cc
    allow_on outs (Ends x q) t p i = absurd (go i)
      where
        go : Ends x q ≡ Goes (On t) p → ⊥
        go j = cc

    -- ---- loops

    module _ (l : ℕ) (body : Frame → Operand → ℕ → Walk → walks.Out) (turn : Bool → Supplied Way) (fs : List Frame) (temps : ℕ → Operand) (t : Temps) (same : (i : ℕ) → operand_value s (temps i) ≡ t i)
        (body_shows : (f : Frame) (d : Operand) (n : ℕ) (w : Walk) (p : Place) (u : Supply) → Begins m s g w (Standing t p) → Inv p.store → Solves m s n (body f d n w).steps → Matches g.types.objects s (body f d n w).given u
        → NotStuck (turn (on s d) u p) → Show (body f d n w) (allow (outs_of s (f ∷ fs)) (turn (on s d) u p)))
        (body_stops : (f : Frame) (d : Operand) (n : ℕ) (w : Walk) → Stand w.path w.slots Off → Solves m s n (body f d n w).steps → Stop (body f d n w))
        (body_holds : (c : Bool) (u : Supply) (p : Place) → Inv p.store → ComeHolds Inv (turn c u p)) where
      abbrev q : Bool → Supplied (Unit {0} × Option ℕ)
      q d = tested_with (rank_tests row lower g watched) l d (seen (λ w. (tt {0}, close w)) (turn d))

      abbrev loop_run : Bool → Supplied (Unit {0} × ℕ)
      loop_run b = Rattle.l2_supply.specs.Going.loop_with run heads l q b

      abbrev CopiesShow : Kind → Type 0
      CopiesShow kd = (b c : Operand) (z : Bool) → z ≡ on s b → (k n : ℕ) (w : Walk) (p : Place) (u : Supply) → Stand w.path w.slots (At p.store) → Inv p.store → Solves m s n (walk_copies g body l kd b c temps k n w).steps
          → Matches g.types.objects s (walk_copies g body l kd b c temps k n w).given u → NotStuck (turns q z (on s c) k u p) → Show (walk_copies g body l kd b c temps k n w) (allow (outs_of s fs) (way_of (turns q z (on s c) k u p)))

      copies_at : (kd : Kind) → g.kind l ≡ kd → CopiesShow kd
      copies_at kd e = subst CopiesShow e (copies_show m s g refl ranked watched l body turn fs temps t same Inv body_shows body_stops body_holds)

      abbrev CopiesStop : Kind → Type 0
      CopiesStop kd = (b c : Operand) (k n : ℕ) (w : Walk) → Stand w.path w.slots Off → Solves m s n (walk_copies g body l kd b c temps k n w).steps → Stop (walk_copies g body l kd b c temps k n w)

      stops_at : (kd : Kind) → g.kind l ≡ kd → CopiesStop kd
      stops_at kd e = subst CopiesStop e (copies_stop m s g refl ranked watched l body turn fs temps t same Inv body_shows body_stops body_holds)

      -- so many copies, as the setting has it
      copies_all : (kd : Kind) → g.kind l ≡ kd → (b c : Operand) (z : Bool) → z ≡ on s b → (n : ℕ) (w : Walk) (p : Place) (u : Supply) → Stand w.path w.slots (At p.store) → Inv p.store
          → Solves m s n (walk_copies g body l kd b c temps g.copies n w).steps → Matches g.types.objects s (walk_copies g body l kd b c temps g.copies n w).given u → NotStuck (turns q z (on s c) (suc k0) u p)
          → Show (walk_copies g body l kd b c temps g.copies n w) (allow (outs_of s fs) (way_of (turns q z (on s c) (suc k0) u p)))
      copies_all kd e b c z back n w p u =
          subst (λ k. Stand w.path w.slots (At p.store) → Inv p.store → Solves m s n (walk_copies g body l kd b c temps k n w).steps → Matches g.types.objects s (walk_copies g body l kd b c temps k n w).given u → NotStuck (turns q z (on s c) (suc k0) u p)
          → Show (walk_copies g body l kd b c temps k n w) (allow (outs_of s fs) (way_of (turns q z (on s c) (suc k0) u p)))) (sym copies) (copies_at kd e b c z back (suc k0) n w p u)

      -- an entry's run
      entry_run : (b : Bool) (u : Supply) (p : Place) → int_eq (number_of (left u)) (pos 0) ≡ true → loop_run b u p ≡ turns q false b (suc k0) (right (right u)) p
      entry_run b u p e =
          ap (λ x. Rattle.l2_supply.specs.Going.on_bool x (then_with (Rattle.l2_supply.specs.Going.goes (tt {0})) (λ v. rounds_with (suc k0) (q b)))
          (then_with (back_with g.types.objects g.family.object (g.mods l) (starts row g l)) (λ v. later_with k0 q b)) (right u) p) e
          ∙ ap (λ (f : Supplied (Unit {0} × ℕ)). f (right (right u)) p) (entry_turns q b (suc k0))

      enter_shows : (kd : Kind) → g.kind l ≡ kd → (c : Operand) (n : ℕ) (w : Walk) (p : Place) (u : Supply) → Stand w.path w.slots (At p.store) → Inv p.store
          → Solves m s n (walk_copies g body l kd walks.F c temps g.copies n w).steps → Matches g.types.objects s (walks.entered (walk_copies g body l kd walks.F c temps g.copies n w)).given u → NotStuck (loop_run (on s c) u p)
          → Show (walks.entered (walk_copies g body l kd walks.F c temps g.copies n w)) (allow (outs_of s fs) (way_of (loop_run (on s c) u p)))
      enter_shows kd e c n w p u h inv ok mt ns =
          let r = entry_run (on s c) u p mt.0 in
          let x = copies_all kd e walks.F c false refl n w p (right (right u)) h inv ok mt.1.1 (subst (λ y. NotStuck y) r ns) in
          subst (λ y. Show (walks.entered (walk_copies g body l kd walks.F c temps g.copies n w)) (allow (outs_of s fs) (way_of y))) (sym r)
          (show_as (walk_copies g body l kd walks.F c temps g.copies n w) (walk_copies g body l kd walks.F c temps g.copies n w).steps (pair walks.entering (pair walks.nothing (walk_copies g body l kd walks.F c temps g.copies n w).given)) _ x)

      -- ---- a loop that may start back

      abbrev back_run : Supplied (Unit {0})
      back_run = back_with g.types.objects g.family.object (g.mods l) (starts row g l)

      back_holds : (u : Supply) (p : Place) → Inv p.store → ComeHolds Inv (back_run u p)
      back_holds u p inv = unit_known (Rattle.l2_runs.specs.Back.back g.types.objects g.family.object g.mods (starts row g) l) p (back_run u p) (limits l) inv ((back_agrees g.types.objects g.family.object g.mods (starts row g) l).by_supply p u)

      back_go : (b : Bool) (u : Supply) (p : Place) → int_eq (number_of (left u)) (pos 0) ≡ false → loop_run b u p ≡ on_goes (back_run (left (right u)) p) (λ v. turns q true b (suc k0) (right (right u)))
      back_go b u p e =
          ap (λ x. Rattle.l2_supply.specs.Going.on_bool x (then_with (Rattle.l2_supply.specs.Going.goes (tt {0})) (λ v. rounds_with (suc k0) (q b)))
          (then_with back_run (λ v. later_with k0 q b)) (right u) p) e
          ∙ ap (λ (f : Supplied (Unit {0} × ℕ)). on_goes (back_run (left (right u)) p) (λ v. f (right (right u)))) (back_turns q b k0)

      module _ (r : ℕ) (e : g.kind l ≡ Rows r) (c : Operand) (n : ℕ) (w : Walk) where
        abbrev sc : walks.Out
        sc = scatter g w.path (Temp n) (g.mods l) (suc n) w

        abbrev n1 : ℕ
        n1 = past (suc n) sc.steps

        abbrev hd : walks.Written
        hd = head_rows g w.path (Temp n) l 1 r n1 sc.after

        abbrev cp : walks.Out
        cp = walk_copies g body l (Rows r) (Temp n) c temps g.copies (past n1 hd.steps) hd.walk

        abbrev rows_out : walks.Out
        rows_out = record cp { steps = Rattle.l2_ssa.specs.Steps.Choose w.path ∷ (sc.steps ++ (hd.steps ++ cp.steps)); given = pair (walks.chosen w.path n) (pair (pair sc.given walks.nothing) cp.given) }

        wrap_show : (x : Come Way) → Show cp x → Show rows_out x
        wrap_show x h = show_as cp rows_out.steps rows_out.given x h

        wrap_stop : Stop cp → Stop rows_out
        wrap_stop h = record { after = h.after; entries = h.entries; events = h.events }

        module _ (ok : Solves m s n rows_out.steps) where
          ok_s : Solves m s (suc n) sc.steps
          ok_s = solves_first m s g (suc n) sc.steps _ ok.1

          ok_h : Solves m s n1 hd.steps
          ok_h = solves_first m s g n1 hd.steps _ (solves_second m s g (suc n) sc.steps _ ok.1)

          ok_c : Solves m s (past n1 hd.steps) cp.steps
          ok_c = solves_second m s g n1 hd.steps _ (solves_second m s g (suc n) sc.steps _ ok.1)

          off_from : Stand sc.after.path sc.after.slots Off → Stop rows_out
          off_from h = wrap_stop (stops_at (Rows r) e (Temp n) c g.copies (past n1 hd.steps) hd.walk (rows_off m s g refl w.path (Temp n) l 1 r n1 sc.after h ok_h) ok_c)

          pub rows_stop : Stand w.path w.slots Off → Stop rows_out
          rows_stop h = off_from (off_all m s g refl w.path (Temp n) (g.mods l) (suc n) w h ok_s)

          module _ (p : Place) (u : Supply) (h : Stand w.path w.slots (At p.store)) (inv : Inv p.store) (mt : Matches g.types.objects s rows_out.given u) where
            rows_entered : on s (Temp n) ≡ false → NotStuck (turns q false (on s c) (suc k0) (right (right u)) p) → Show rows_out (allow (outs_of s fs) (way_of (turns q false (on s c) (suc k0) (right (right u)) p)))
            rows_entered b ns =
                wrap_show _ (copies_all (Rows r) e (Temp n) c false (sym b) (past n1 hd.steps) hd.walk p (right (right u))
                (rows_entry m s g refl w.path (Temp n) h.0 b l 1 r n1 sc.after p.store (entry_all m s g refl w.path (Temp n) h.0 b (g.mods l) (suc n) w p.store h ok_s) ok_h) inv ok_c mt.1.1 ns)

            abbrev after_scatter : Come (Unit {0}) → Come (Unit {0})
            after_scatter x = on_goes x (λ v z. come_of (passing (starts row g l) (at z [] 0)))

            starts_is : (st : Store) → starts row g l st ≡ rows_hold row g l 1 r st
            starts_is st = ap (λ kd. starts_of row g kd l st) e

            passed : on s (Temp n) ≡ true → (z : Place) → Stand sc.after.path sc.after.slots (At z.store) → (x : Bool) → starts row g l z.store ≡ x
                → ComeHolds Inv (come_of (either x (done (tt {0})) stop (at z [] 0))) → NotStuck (on_goes (come_of (either x (done (tt {0})) stop (at z [] 0))) (λ v. turns q true (on s c) (suc k0) (right (right u))))
                → Show rows_out (allow (outs_of s fs) (way_of (on_goes (come_of (either x (done (tt {0})) stop (at z [] 0))) (λ v. turns q true (on s c) (suc k0) (right (right u))))))
            passed b z st true i iz ns =
                wrap_show _ (copies_all (Rows r) e (Temp n) c true (sym b) (past n1 hd.steps) hd.walk z (right (right u))
                (rows_back m s g refl w.path (Temp n) h.0 b l 1 r n1 sc.after z.store st ok_h true (sym (starts_is z.store) ∙ i)) iz ok_c mt.1.1 ns)
            passed b z st false i iz ns =
                stop_show rows_out z (wrap_stop (stops_at (Rows r) e (Temp n) c g.copies (past n1 hd.steps) hd.walk
                (rows_back m s g refl w.path (Temp n) h.0 b l 1 r n1 sc.after z.store st ok_h false (sym (starts_is z.store) ∙ i)) ok_c))

            back_case : on s (Temp n) ≡ true → (x : Come (Unit {0})) → Lands m s g refl sc.after.path sc.after.slots x → ComeHolds Inv (after_scatter x) → NotStuck (on_goes (after_scatter x) (λ v. turns q true (on s c) (suc k0) (right (right u))))
                → Show rows_out (allow (outs_of s fs) (way_of (on_goes (after_scatter x) (λ v. turns q true (on s c) (suc k0) (right (right u))))))
            back_case b (Goes v z) d iz ns = passed b z d (starts row g l z.store) refl iz ns
            back_case b (Ends (Over Stopped) z) d iz ns = stop_show rows_out z (off_from d)
            back_case b (Ends (Over Ended) z) d iz ns = absurd d
            back_case b (Ends (Over (Broken k)) z) d iz ns = absurd d
            back_case b (Ends (Over OutOfChoices) z) d iz ns = absurd d
            back_case b (Ends (Over OutOfTurns) z) d iz ns = absurd d
            back_case b (Ends (Fallen k row') z) d iz ns = absurd d

            pub rows_shows : NotStuck (loop_run (on s c) u p) → Show rows_out (allow (outs_of s fs) (way_of (loop_run (on s c) u p)))
            rows_shows ns = go (int_eq (number_of (left u)) (pos 0)) refl
              where
                bit_is : (x : Bool) → int_eq (number_of (left u)) (pos 0) ≡ x → on s (Temp n) ≡ not x
                bit_is x i = ap is_true (mt.0 h.0) ∙ bit_on (not (int_eq (number_of (left u)) (pos 0))) ∙ ap not i

                go : (x : Bool) → int_eq (number_of (left u)) (pos 0) ≡ x → Show rows_out (allow (outs_of s fs) (way_of (loop_run (on s c) u p)))
                go true i = subst (λ y. Show rows_out (allow (outs_of s fs) (way_of y))) (sym (entry_run (on s c) u p i)) (rows_entered (bit_is true i) (subst (λ y. NotStuck y) (entry_run (on s c) u p i) ns))
                go false i = subst (λ y. Show rows_out (allow (outs_of s fs) (way_of y))) (sym (back_go (on s c) u p i))
                    (back_case (bit_is false i) (scatter_with g.types.objects g.family.object (g.mods l) (left (left (right u))) p)
                    (back_all m s g refl w.path (Temp n) h.0 (bit_is false i) (g.mods l) (suc n) w p (left (left (right u))) h ok_s mt.1.0.0)
                    (back_holds (left (right u)) p inv) (subst (λ y. NotStuck y) (back_go (on s c) u p i) ns))

    -- a loop of any kind
    module _ (l : ℕ) (body : Frame → Operand → ℕ → Walk → walks.Out) (turn : Bool → Supplied Way) (fs : List Frame) (c : Operand) (n : ℕ) (w : Walk)
        (body_stops : (f : Frame) (d : Operand) (n : ℕ) (w : Walk) → Stand w.path w.slots Off → Solves m s n (body f d n w).steps → Stop (body f d n w)) where
      loop_shows : (t : Temps) (same : (i : ℕ) → operand_value s (w.temps i) ≡ t i)
          (body_shows : (f : Frame) (d : Operand) (n : ℕ) (w : Walk) (p : Place) (u : Supply) → Begins m s g w (Standing t p) → Inv p.store → Solves m s n (body f d n w).steps → Matches g.types.objects s (body f d n w).given u
          → NotStuck (turn (on s d) u p) → Show (body f d n w) (allow (outs_of s (f ∷ fs)) (turn (on s d) u p)))
          (body_holds : (c : Bool) (u : Supply) (p : Place) → Inv p.store → ComeHolds Inv (turn c u p))
          (p : Place) (u : Supply) → Stand w.path w.slots (At p.store) → Inv p.store → (kd : Kind) → g.kind l ≡ kd → Solves m s n (walk_loop g kd body l c n w).steps → Matches g.types.objects s (walk_loop g kd body l c n w).given u
          → NotStuck (Rattle.l2_supply.specs.Going.loop_with run heads l (λ d. tested_with (rank_tests row lower g watched) l d (seen (λ w. (tt {0}, close w)) (turn d))) (on s c) u p)
          → Show (walk_loop g kd body l c n w) (allow (outs_of s fs) (way_of (Rattle.l2_supply.specs.Going.loop_with run heads l (λ d. tested_with (rank_tests row lower g watched) l d (seen (λ w. (tt {0}, close w)) (turn d))) (on s c) u p)))
      loop_shows t same bs bh p u h inv Bottom e ok mt ns = enter_shows l body turn fs w.temps t same bs body_stops bh Bottom e c n w p u h inv ok mt ns
      loop_shows t same bs bh p u h inv Plain e ok mt ns = enter_shows l body turn fs w.temps t same bs body_stops bh Plain e c n w p u h inv ok mt ns
      loop_shows t same bs bh p u h inv (Rows r) e ok mt ns = rows_shows l body turn fs w.temps t same bs body_stops bh r e c n w ok p u h inv mt ns

      abbrev AllStop : Kind → Type 0
      AllStop kd = (b : Operand) (k n : ℕ) (w : Walk) (temps : ℕ → Operand) → Stand w.path w.slots Off → Solves m s n (walk_copies g body l kd b c temps k n w).steps → Stop (walk_copies g body l kd b c temps k n w)

      -- nothing has to be known of a run that doesn't come here
      all_stop : (kd : Kind) → g.kind l ≡ kd → AllStop kd
      all_stop kd e = subst AllStop e (λ b k n w temps h ok.
          copies_stop m s g refl ranked watched l body (λ d u p. Ends (Over Stopped) p) fs temps (λ i. operand_value s (temps i)) (λ i. refl) (λ (st : Store). ⊥) (λ f d n w p u bg inv. absurd inv) body_stops (λ c u p inv. absurd inv) b c k n w h ok)

      loop_stop : Stand w.path w.slots Off → (kd : Kind) → g.kind l ≡ kd → Solves m s n (walk_loop g kd body l c n w).steps → Stop (walk_loop g kd body l c n w)
      loop_stop h Bottom e ok = let x = all_stop Bottom e walks.F g.copies n w w.temps h ok in record { after = x.after; entries = x.entries; events = x.events }
      loop_stop h Plain e ok = let x = all_stop Plain e walks.F g.copies n w w.temps h ok in record { after = x.after; entries = x.entries; events = x.events }
      loop_stop h (Rows r) e ok =
          let sc = scatter g w.path (Temp n) (g.mods l) (suc n) w in
          let n1 = past (suc n) sc.steps in
          let hd = head_rows g w.path (Temp n) l 1 r n1 sc.after in
          let ok2 = solves_second m s g (suc n) sc.steps _ ok.1 in
          let x = all_stop (Rows r) e (Temp n) g.copies (past n1 hd.steps) hd.walk w.temps
          (rows_off m s g refl w.path (Temp n) l 1 r n1 sc.after (off_all m s g refl w.path (Temp n) (g.mods l) (suc n) w h (solves_first m s g (suc n) sc.steps _ ok.1)) (solves_first m s g n1 hd.steps _ ok2))
          (solves_second m s g n1 hd.steps _ ok2) in
          record { after = x.after; entries = x.entries; events = x.events }

    -- ---- code

    mutual
      node_stop : (x : Node) (fs : List Frame) (c : Operand) (n : ℕ) (w : Walk) → Stand w.path w.slots Off → Solves m s n (walk_node g x fs c n w).steps → Stop (walk_node g x fs c n w)
      node_stop (Do a) fs c n w h ok = act_stops row lower s g checks loops small there heads (rank_tests row lower g watched) fs c n w h a ok
      node_stop (Block all) fs c n w h ok =
          label_stops m s g w.temps n (walk g all (walks.Block ∷ fs) c n w) ok (nodes_stop all (walks.Block ∷ fs) c n w h (solves_first m s g n (walk g all (walks.Block ∷ fs) c n w).steps _ ok))
      node_stop (Loop l all) fs c n w h ok =
          loop_stop l (λ f d k v. walk g all (f ∷ fs) d k v) (λ d u p. Ends (Over Stopped) p) fs c n w (λ f d k v h ok. nodes_stop all (f ∷ fs) d k v h ok) h (g.kind l) refl ok

      nodes_stop : (xs : Nodes) (fs : List Frame) (c : Operand) (n : ℕ) (w : Walk) → Stand w.path w.slots Off → Solves m s n (walk g xs fs c n w).steps → Stop (walk g xs fs c n w)
      nodes_stop none fs c n w h ok = record { after = h; entries = tt; events = tt }
      nodes_stop (more x rest) fs c n w h ok =
          let o = walk_node g x fs c n w in
          let p = walk g rest fs c (past n o.steps) o.after in
          let so = node_stop x fs c n w h (solves_first m s g n o.steps _ ok) in
          joined_stops m s g (pair o.given p.given) o p so (nodes_stop rest fs c (past n o.steps) o.after so.after (solves_second m s g n o.steps _ ok))

    mutual
      node_shows : (x : Node) (fs : List Frame) (c : Operand) (n : ℕ) (w : Walk) (t : Temps) (p : Place) (u : Supply) (scope : Scope) → IsTypedNode (names row lower s g checks loops small there) scope x → IsClosedNode g.family x
          → Begins m s g w (Standing t p) → Hold scope t → Inv p.store → Solves m s n (walk_node g x fs c n w).steps → Matches g.types.objects s (walk_node g x fs c n w).given u → NotStuck (node_with run (on s c) x t u p)
          → Show (walk_node g x fs c n w) (allow (outs_of s fs) (node_with run (on s c) x t u p))
      node_shows (Do a) fs c n w t p u scope k z h hold inv ok mt ns = act_shown fs c n w a _ (act_shows row lower s g checks loops small there heads (rank_tests row lower g watched) fs c n w t p scope hold inv h a u k z ok mt ns)
      node_shows (Block all) fs c n w t p u scope k z h hold inv ok mt ns =
          subst (Show (at_label g w.temps n (walk g all (walks.Block ∷ fs) c n w))) (block_same fs t (nodes_with run (on s c) all t u p))
          (label_shown w.temps n (walk g all (walks.Block ∷ fs) c n w) ok t (allow (outs_of s (walks.Block ∷ fs)) (nodes_with run (on s c) all t u p)) h.temps
          (nodes_shows all (walks.Block ∷ fs) c n w t p u scope k z h hold inv (solves_first m s g n (walk g all (walks.Block ∷ fs) c n w).steps _ ok) mt (first_unstuck (nodes_with run (on s c) all t u p) _ ns)))
      node_shows (Loop l all) fs c n w t p u scope k z h hold inv ok mt ns =
          loop_shows l (λ f d i v. walk g all (f ∷ fs) d i v) (λ d. nodes_with run d all t) fs c n w (λ f d i v h ok. nodes_stop all (f ∷ fs) d i v h ok) t h.temps
          (λ f d i v q b bg iv okb mtb nsb. nodes_shows all (f ∷ fs) d i v t q b scope k.1 z bg hold iv okb mtb nsb)
          (λ d b q iv. way_known (behind_nodes scope all) (nodes_with run d all t b q) (nodes_known d all scope t b q k.1 z hold iv))
          p u h.stands inv (g.kind l) refl ok mt (first_unstuck _ _ ns)

      pub nodes_shows : (xs : Nodes) (fs : List Frame) (c : Operand) (n : ℕ) (w : Walk) (t : Temps) (p : Place) (u : Supply) (scope : Scope) → AreTyped (names row lower s g checks loops small there) scope xs → AreClosed g.family xs
          → Begins m s g w (Standing t p) → Hold scope t → Inv p.store → Solves m s n (walk g xs fs c n w).steps → Matches g.types.objects s (walk g xs fs c n w).given u → NotStuck (nodes_with run (on s c) xs t u p)
          → Show (walk g xs fs c n w) (allow (outs_of s fs) (nodes_with run (on s c) xs t u p))
      nodes_shows none fs c n w t p u scope k z h hold inv ok mt ns = inl (record { shows = record { after = h; entries = tt; events = tt }; quiet = tt })
      nodes_shows (more x rest) fs c n w t p u scope k z h hold inv ok mt ns =
          let o = walk_node g x fs c n w in
          let q = walk g rest fs c (past n o.steps) o.after in
          let e = node_with run (on s c) x t (left u) p in
          let so = node_shows x fs c n w t p (left u) scope k.0 z.0 h hold inv (solves_first m s g n o.steps _ ok) mt.0 (first_unstuck e (λ v. follow_with (nodes_with run (on s c) rest) v (right u)) ns) in
          let known = node_known (on s c) x scope t (left u) p k.0 z.0 hold inv in
          let okq = solves_second m s g n o.steps _ ok in
          subst (Show (joined (pair o.given q.given) o q))
          (then_same fs e (λ t p. nodes_with run (on s c) rest t (right u) p) ∙ ap (allow (outs_of s fs)) (sym (follow_same e (nodes_with run (on s c) rest) (right u))))
          (joined_shown m s g watched (pair o.given q.given) o q (allow (outs_of s fs) e) (λ t p. allow (outs_of s fs) (nodes_with run (on s c) rest t (right u) p)) so
          (λ t' p' i bg. let eq = allow_on (outs_of s fs) e t' p' i in let kn = subst (KnownCome (behind_node scope x)) eq known in
          nodes_shows rest fs c (past n o.steps) o.after t' p' (right u) (behind_node scope x) k.1 z.1 bg kn.0 kn.1 okq mt.1
          (subst (λ y. NotStuck (on_goes y (λ v. follow_with (nodes_with run (on s c) rest) v (right u)))) eq ns))
          (λ off. nodes_stop rest fs c (past n o.steps) o.after off okq))
