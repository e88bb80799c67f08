-- The solutions of a code's equations with rankings are its cut runs that watch them.
use Rattle.std.proofs.Common.{arith, ◌≡◌, ◌⊎◌, inl, inr, ℕ, zero, suc, Bool, true, false, refl, sym, ap, ◌∙◌, subst, List, [], ◌∷◌, ◌++◌, length}
use Rattle.l2_runs.specs.declared.outcome.Outcome.TheVariants.{Broken}
use Rattle.l2_runs.specs.Runs.{End, Over, Fallen, Result, Go, Halt, on_go, stop}
use Rattle.l2_runs.specs.Loops.{Tests}
use Rattle.l2_run_laws.specs.Watches.{alone, with_watches}
use Rattle.l2_code.specs.Trees.{CodeTree}
use Rattle.l2_code.specs.Values.{no_temps}
use Rattle.l2_code.specs.Machine.{Way, On, Out}
use Rattle.l2_code.specs.Machine as machine
use Rattle.l2_code.specs.Sets.{Family, IsResolved}
use Rattle.l2_code.specs.Modes.{Cut, types_of, first_store}
use Rattle.l2_code.specs.WellFormed.{IsWellFormed, IsStuck, empty_scope}
use Rattle.l2_code_laws.proofs.Starts.{small_objects, limits_hold}
use Rattle.l2_supply.specs.Supply.{Supply, Place, Come, Goes, Ends, Chosen}
use Rattle.l2_supply.specs.Going as going
use Rattle.l2_supply.specs.Going.{nodes_with, machine_of}
use Rattle.l2_supply.proofs.Runs.{nodes_agree}
use Rattle.l2_ssa.specs.Steps.{Names, Meaning}
use Rattle.l2_ssa.specs.Walks as walks
use Rattle.l2_ssa.specs.Walks.{Setting, Kind, Goal, RowGoal, RankGoal, CheckGoal, Event}
use Rattle.l2_ssa.specs.Law.{RowsOf, RanksOf, starts, first_walk, HasEvent, Matches, end_of, EndsAt}
use Rattle.l2_ssa.proofs.Shows.{OneTrue, is_shown, Begins, Standing}
use Rattle.l2_ssa.proofs.Frames.{outs_of, allow, NotStuck}
use Rattle.l2_ssa.proofs.Givens.{supply_of, match_own, nodes_given}
use Rattle.l2_ssa.proofs.Solutions.{there_number, begins, temps_hold, stored, no_event, event_if}
use Rattle.l2_ssa_laws.specs.Rankings.{Watch, Unwatched, Ranked, rows_at, watch_at, rank_tests, rank_setting, rank_ssa, SolvesRanks, CutReaches, IsWatch, RowsRun, RanksRun, RunsFall, NoneWatched}
use Rattle.l2_ssa_laws.proofs.Shown.{keep, unranked, Quiet, AllQuiet, Shown}
use Rattle.l2_ssa_laws.proofs.Ends.{app_nil}
use Rattle.l2_ssa_laws.proofs.Nodes.{run, nodes_shows}
use Rattle.l2_ssa_laws.proofs.Safe.{find_entered}

-- ---- no watch

tests_alone : (rows ranks : ℕ → List Rattle.l2_runs.specs.Loops.Test) → ((l : ℕ) → ranks l ≡ []) → (counted : Bool) (l : ℕ) → with_watches rows ranks counted l ≡ alone rows counted l
tests_alone rows ranks h true l = ap (λ ws. rows l ++ ws) (h l) ∙ app_nil (rows l)
tests_alone rows ranks h false l = refl

pub none_watched : NoneWatched
none_watched row lower g = λ i counted l. tests_alone (rows_at row g) (watch_at lower g (λ l. Unwatched)) (λ l. refl) counted l i

-- ---- events

module _ (m : Meaning) (s : Names) (g : Setting) (watched : ℕ → Watch) where
  -- an event of a row is kept
  row_kept : (l i : ℕ) (es : List Event) → HasEvent s (RowGoal l i) es → HasEvent s (RowGoal l i) (unranked es)
  row_kept l i [] h = h
  row_kept l i (e ∷ es) (inl h) = go e.goal h.0
    where
      go : (x : Goal) → x ≡ RowGoal l i → HasEvent s (RowGoal l i) (keep x e (unranked es))
      go (RowGoal a b) k = inl h
      go (RankGoal a) k = cc
      go (CheckGoal a) k = cc
  row_kept l i (e ∷ es) (inr h) = go e.goal (row_kept l i es h)
    where
      go : (x : Goal) → HasEvent s (RowGoal l i) (unranked es) → HasEvent s (RowGoal l i) (keep x e (unranked es))
      go (RowGoal a b) k = inr k
      go (RankGoal a) k = k
      go (CheckGoal a) k = inr k

  quiet_ranks : (l : ℕ) → watched l ≡ Ranked → (es : List Event) → AllQuiet m s g watched es → HasEvent s (RankGoal l) es → ⊥
  quiet_ranks l wt [] q h = h
  quiet_ranks l wt (e ∷ es) q (inl h) = go e.goal h.0 q.0
    where
      go : (x : Goal) → x ≡ RankGoal l → Quiet m s g watched x e → ⊥
      go (RowGoal a b) k d = cc
      go (RankGoal a) k d = let same : a ≡ l = cc in let off = d (ap watched same ∙ wt) in let true_now = h.1 in cc
      go (CheckGoal a) k d = cc
  quiet_ranks l wt (e ∷ es) q (inr h) = quiet_ranks l wt es q.1 h

  -- the true event of a row that fails
  row_true : (l i : ℕ) (es : List Event) → OneTrue m s g (Fallen l i) (unranked es) → HasEvent s (RowGoal l i) es
  row_true l i [] h = h
  row_true l i (e ∷ es) h = go e.goal refl h (row_true l i es)
    where
      go : (x : Goal) → e.goal ≡ x → OneTrue m s g (Fallen l i) (keep x e (unranked es)) → (OneTrue m s g (Fallen l i) (unranked es) → HasEvent s (RowGoal l i) es) → HasEvent s (RowGoal l i) (e ∷ es)
      go (RowGoal a b) q (inl k) next = inl (q ∙ row_is (ap (end_of g) (sym q) ∙ k.0), k.1)
        where
          row_is : Fallen a b ≡ Fallen l i → RowGoal a b ≡ RowGoal l i
          row_is j = let x : a ≡ l = cc in let y : b ≡ i = cc in λ t. RowGoal (x t) (y t)
      go (RowGoal a b) q (inr k) next = inr (next k.1)
      go (RankGoal a) q k next = inr (next k)
      go (CheckGoal a) q (inl k) next = absurd (no_check (ap (end_of g) (sym q) ∙ k.0))
        where
          no_check : Over (Broken a) ≡ Fallen l i → ⊥
          no_check j = cc
      go (CheckGoal a) q (inr k) next = inr (next k.1)

-- ---- the laws

module _ (c : CodeTree) (f : Family) (w : IsWellFormed c) (z : IsResolved c f) (k0 : ℕ) (kind : ℕ → Kind) (row : RowsOf) (lower : RanksOf) (watched : ℕ → Watch) (s : Names) where
  abbrev g : Setting
  g = rank_setting c f (suc k0) kind

  abbrev m : Meaning
  m = record { types = types_of c; row = row; lower = lower }

  abbrev o : walks.Out
  o = rank_ssa c f (suc k0) kind

  abbrev the_run : going.Setting
  the_run = run row lower s g (length c.checks) (length c.loops) (small_objects c w) (there_number c.objects) refl watched k0 refl

  abbrev p0 : Place
  p0 = record { store = first_store c; arrivals = 0 }

  abbrev come : Supply → Come Way
  come u = nodes_with the_run true c.body no_temps u p0

  abbrev ways : Rattle.l2_runs.specs.Runs.Run Way
  ways = machine.nodes (machine_of the_run) true c.body no_temps

  not_stuck : (e : Come Way) → Chosen ways p0 e → NotStuck e
  not_stuck (Goes a p) h = tt
  not_stuck (Ends (Over x) p) h = tt
  not_stuck (Ends (Fallen zero r) p) h =
      w.never_stuck f z (Cut (suc k0) (starts row g)) (rank_tests row lower g watched) (h.choices ++ []) 0 (subst (λ (x : Result Way). IsStuck (on_go x (λ v. stop))) (sym (h.comes [] 0)) tt)
  not_stuck (Ends (Fallen (suc l) r) p) h = tt

  first : Begins m s g (first_walk c) (Standing no_temps p0)
  first = let b = begins c f w z k0 kind row lower s in record { stands = b.stands; temps = b.temps }

  module _ (ok : SolvesRanks c f (suc k0) row lower kind s) where
    shown : (u : Supply) → Matches (types_of c).objects s o.given u → Shown m s g watched o (allow (outs_of s []) (come u))
    shown u mt =
        nodes_shows row lower s g (length c.checks) (length c.loops) (small_objects c w) (there_number c.objects) refl watched k0 refl (limits_hold c f w z (Cut (suc k0) (starts row g))) c.body [] walks.T 0 (first_walk c) no_temps p0 u empty_scope
        w.typed z.closed.actions first (temps_hold c f w z k0 kind row lower s) (stored c f w z k0 kind row lower s) ok mt
        (not_stuck (come u) ((nodes_agree the_run true c.body no_temps).by_supply p0 u))

    abbrev own : Supply
    own = supply_of s o.given

    own_shown : Shown m s g watched o (allow (outs_of s []) (come own))
    own_shown = shown own (match_own s (types_of c).objects o.given (nodes_given m s g c.body [] walks.T 0 (first_walk c) ok))

    own_chosen : Chosen ways p0 (come own)
    own_chosen = (nodes_agree the_run true c.body no_temps).by_supply p0 own

    abbrev Reaches : End → Type 0
    Reaches x = CutReaches c f (suc k0) row kind (rank_tests row lower g watched) x

    reaches : (x : End) (p : Place) → Chosen ways p0 (Ends x p) → Reaches x
    reaches x p ch = (ch.choices, λ rest turns. subst (λ (r : Result Way). EndsAt x (on_go r (λ v. stop))) (sym (ch.comes rest turns)) refl)

    pub row_runs : ((l : ℕ) → watched l ≡ Unwatched) → (l i : ℕ) → HasEvent s (RowGoal l i) o.events → Reaches (Fallen l i)
    row_runs none l i ev = go (come own) own_shown own_chosen
      where
        go : (e : Come Way) → Shown m s g watched o (allow (outs_of s []) e) → Chosen ways p0 e → Reaches (Fallen l i)
        go (Goes (On t) p) (inl h) ch = absurd (no_event m s g (RowGoal l i) _ h.shows.events (row_kept m s g watched l i o.events ev))
        go (Goes (On t) p) (inr h) ch = absurd h
        go (Goes (Out n) p) (inl h) ch = absurd (no_event m s g (RowGoal l i) _ h.shows.events (row_kept m s g watched l i o.events ev))
        go (Goes (Out n) p) (inr h) ch = absurd h
        go (Ends x p) (inl h) ch = subst Reaches (event_if m s g (is_shown g x) (RowGoal l i) x _ h.shows.events (row_kept m s g watched l i o.events ev)) (reaches x p ch)
        go (Ends (Over x) p) (inr h) ch = absurd h
        go (Ends (Fallen a b) p) (inr h) ch = let yes_watched = h.0.0 in let not_watched = none a in cc

    pub rank_runs : (l : ℕ) → watched l ≡ Ranked → HasEvent s (RankGoal l) o.events → (a i : ℕ) × IsWatch kind watched a i × Reaches (Fallen a i)
    rank_runs l wt ev = go (come own) own_shown own_chosen
      where
        go : (e : Come Way) → Shown m s g watched o (allow (outs_of s []) e) → Chosen ways p0 e → (a i : ℕ) × IsWatch kind watched a i × Reaches (Fallen a i)
        go (Goes v p) (inl h) ch = absurd (quiet_ranks m s g watched l wt o.events h.quiet ev)
        go (Goes (On t) p) (inr h) ch = absurd h
        go (Goes (Out n) p) (inr h) ch = absurd h
        go (Ends x p) (inl h) ch = absurd (quiet_ranks m s g watched l wt o.events h.quiet ev)
        go (Ends (Over x) p) (inr h) ch = absurd h
        go (Ends (Fallen a i) p) (inr h) ch = (a, i, h.0, reaches (Fallen a i) p ch)

    abbrev Fails : ℕ → ℕ → Type 0
    Fails l i = HasEvent s (RowGoal l i) o.events ⊎ (IsWatch kind watched l i × HasEvent s (RankGoal l) o.events)

    pub fails : (u : Supply) (p : Place) (l i : ℕ) → come u ≡ Ends (Fallen l i) p → Matches (types_of c).objects s o.given u → Fails l i
    fails u p l i e mt = go (subst (λ y. Shown m s g watched o (allow (outs_of s []) y)) e (shown u mt))
      where
        go : Shown m s g watched o (Ends (Fallen l i) p) → Fails l i
        go (inl h) = inl (row_true m s g watched l i o.events h.shows.events)
        go (inr h) = inr h

pub rows_run : RowsRun
rows_run c f w z zero some kind row lower s ok l i ev = absurd (omega arith)
rows_run c f w z (suc k0) some kind row lower s ok l i ev =
    subst (λ ts. CutReaches c f (suc k0) row kind ts (Fallen l i)) (none_watched row lower (rank_setting c f (suc k0) kind)) (row_runs c f w z k0 kind row lower (λ l. Unwatched) s ok (λ l. refl) l i ev)

pub ranks_run : RanksRun
ranks_run c f w z zero some kind row lower s ok watched l wt ev = absurd (omega arith)
ranks_run c f w z (suc k0) some kind row lower s ok watched l wt ev = rank_runs c f w z k0 kind row lower watched s ok l wt ev

pub runs_fall : RunsFall
runs_fall c f w z zero some kind no_plain row lower watched choices turns l i e = absurd (omega arith)
runs_fall c f w z (suc k0) some kind no_plain row lower watched choices turns l i e =
    let d = find_entered c f z k0 kind no_plain row true (rank_tests row lower (rank_setting c f (suc k0) kind) watched) (Fallen l i) tt choices turns e in
    (d.0, d.1, λ s ok mt. fails c f w z k0 kind row lower watched s ok d.0 d.2.0 l i d.2.1 mt)
