-- Where a short run breaks a check, an event of the check is true.
use Rattle.std.proofs.Common.{arith, ◌≡◌, inl, inr, ℕ, zero, suc, true, false, refl, sym, ap, ◌∙◌, subst, List, [], ◌∷◌, ◌++◌, length, ℤ}
use Rattle.l2_runs.specs.declared.outcome.Outcome.TheVariants.{Stopped, Broken}
use Rattle.l2_runs.specs.Runs.{End, Over, Fallen, Result, Go, Halt, on_go, stop}
use Rattle.l2_runs.specs.Loops.{no_tests}
use Rattle.l2_code.specs.Trees.{CodeTree}
use Rattle.l2_code.specs.Values.{no_temps}
use Rattle.l2_code.specs.Machine.{Way, On, Out}
use Rattle.l2_code.specs.Machine as machine
use Rattle.l2_code.specs.Sets.{Family, IsResolved}
use Rattle.l2_code.specs.Modes.{Cut, types_of, mods_of, first_store, start}
use Rattle.l2_code.specs.WellFormed.{IsWellFormed, IsStuck, empty_scope}
use Rattle.l2_code_laws.proofs.Starts.{small_objects, limits_hold}
use Rattle.l2_supply.specs.Supply.{IsFailure, IsSupplied, place_of, Supply, Place, Come, Goes, Ends, Chosen}
use Rattle.l2_supply.specs.Going as going
use Rattle.l2_supply.specs.Going.{nodes_with, machine_of}
use Rattle.l2_supply.proofs.Runs.{nodes_agree}
use Rattle.l2_ssa.specs.Steps.{Names, Meaning}
use Rattle.l2_ssa.specs.Walks as walks
use Rattle.l2_ssa.specs.Walks.{Setting, Goal, RowGoal, RankGoal, CheckGoal, Plain, Event}
use Rattle.l2_ssa.specs.Law.{RowsOf, RanksOf, starts, setting_of, first_walk, HasEvent, Matches, end_of, EndsAt}
use Rattle.l2_ssa.proofs.Shows.{OneTrue, Shows}
use Rattle.l2_ssa.proofs.Frames.{outs_of, allow, NotStuck}
use Rattle.l2_ssa.proofs.Solutions.{there_number, begins, temps_hold, stored}
use Rattle.l2_ssa.proofs.Whole.{nodes_shows}
use Rattle.l2_short_laws.specs.Shorts.{short_ssa, SolvesShort, short_run, ShortsSolve}
use Rattle.l2_short_laws.proofs.Likes.{Like, nodes_enters, nodes_like}
use Rattle.l2_short_laws.proofs.Entered.{nodes_entered}

-- the true event of a check that breaks
check_true : (m : Meaning) (s : Names) (g : Setting) (i : ℕ) (es : List Event) → OneTrue m s g (Over (Broken i)) es → HasEvent s (CheckGoal i) es
check_true m s g i [] h = h
check_true m s g i (e ∷ es) (inl h) = inl (go e.goal refl, h.1)
  where
    go : (x : Goal) → e.goal ≡ x → e.goal ≡ CheckGoal i
    go (CheckGoal a) q = q ∙ check_is (ap (end_of g) (sym q) ∙ h.0)
      where
        check_is : Over (Broken a) ≡ Over (Broken i) → CheckGoal a ≡ CheckGoal i
        check_is j = let x : a ≡ i = cc in ap CheckGoal x
    go (RowGoal a b) q = absurd (no_row (ap (end_of g) (sym q) ∙ h.0))
      where
        no_row : Fallen a b ≡ Over (Broken i) → ⊥
        no_row j = cc
    go (RankGoal a) q = absurd (no_rank (ap (end_of g) (sym q) ∙ h.0))
      where
        no_rank : end_of g (RankGoal a) ≡ Over (Broken i) → ⊥
        no_rank j = cc
check_true m s g i (e ∷ es) (inr h) = inr (check_true m s g i es h.1)

module _ (c : CodeTree) (f : Family) (w : IsWellFormed c) (z : IsResolved c f) (k0 : ℕ) (row : RowsOf) (lower : RanksOf) where
  abbrev pub g : Setting
  g = setting_of c f (suc k0) (λ l. Plain) false

  abbrev pub m : Meaning
  m = record { types = types_of c; row = row; lower = lower }

  abbrev pub p0 : Place
  p0 = record { store = first_store c; arrivals = 0 }

  abbrev pub base : going.Setting
  base = record { heads = going.Short (suc k0); tests = no_tests; types = types_of c; sets = f.object; mods = mods_of c }

  abbrev pub cut : going.Setting
  cut = record base { heads = going.Cut (suc k0) (starts row g) }

  abbrev short_come : Supply → Come Way
  short_come u = nodes_with base true c.body no_temps u p0

  abbrev pub cut_come : Supply → Come Way
  cut_come u = nodes_with cut true c.body no_temps u p0

  pub not_stuck : (e : Come Way) → Chosen (machine.nodes (machine_of cut) true c.body no_temps) p0 e → NotStuck e
  not_stuck (Goes a p) h = tt
  not_stuck (Ends (Over x) p) h = tt
  not_stuck (Ends (Fallen zero r) p) h =
      w.never_stuck f z (Cut (suc k0) (starts row g)) no_tests (h.choices ++ []) 0 (subst (λ (x : Result Way). IsStuck (on_go x (λ v. stop))) (sym (h.comes [] 0)) tt)
  not_stuck (Ends (Fallen (suc l) r) p) h = tt

  pub shown : (s : Names) → SolvesShort c f (suc k0) row lower s → (u : Supply) → Matches (types_of c).objects s (short_ssa c f (suc k0)).given u → Shows m s g (short_ssa c f (suc k0)) (allow (outs_of s []) (cut_come u))
  shown s ok u mt =
      nodes_shows row lower s g (length c.checks) (length c.loops) (small_objects c w) (there_number c.objects) refl k0 refl (limits_hold c f w z (Cut (suc k0) (starts row g))) c.body [] walks.T 0 (first_walk c) no_temps p0 u empty_scope
      w.typed z.closed.actions (begins c f w z k0 (λ l. Plain) row lower s) (temps_hold c f w z k0 (λ l. Plain) row lower s) (stored c f w z k0 (λ l. Plain) row lower s) ok mt
      (not_stuck (cut_come u) ((nodes_agree cut true c.body no_temps).by_supply p0 u))

  module _ (i : ℕ) where
    abbrev broken : End
    broken = Over (Broken i)

    find : (r : Result Way) → IsSupplied short_come r → EndsAt broken (on_go r (λ v. stop)) → (u : Supply) × ((p : Place) × (short_come u ≡ Ends broken p))
    find (Go a st) h e = absurd (no_stop e)
      where
        no_stop : Over Stopped ≡ Over (Broken i) → ⊥
        no_stop j = cc
    find (Halt y st) h e =
        let d = subst (λ x. IsFailure x → (u : Supply) × (short_come u ≡ Ends x (place_of st))) e h tt in
        (d.0, (place_of st, d.1))

    breaks : (e e' : Come Way) (p : Place) → e ≡ Ends broken p → Like e e' → (q : Place) × (e' ≡ Ends broken q)
    breaks e (Goes a q) p i h = absurd (subst (λ (x : Come Way). Like x (Goes a q)) i h)
    breaks e (Ends y q) p i h = (q, ap (λ x. Ends x q) (sym (subst (λ (x : Come Way). Like x (Ends y q)) i h)))

    event_of : (s : Names) (e : Come Way) (q : Place) → e ≡ Ends broken q → Shows m s g (short_ssa c f (suc k0)) (allow (outs_of s []) e) → HasEvent s (CheckGoal i) (short_ssa c f (suc k0)).events
    event_of s e q j h = check_true m s g i (short_ssa c f (suc k0)).events (subst (λ y. Shows m s g (short_ssa c f (suc k0)) (allow (outs_of s []) y)) j h).events

    solve : (choices : List ℤ) (turns : ℕ) → EndsAt broken (short_run c f (suc k0) choices turns)
        → (u : Supply) × Rattle.l2_ssa_laws.specs.Entering.Enters (types_of c).objects (short_ssa c f (suc k0)).given u
        × ((s : Names) → SolvesShort c f (suc k0) row lower s → Matches (types_of c).objects s (short_ssa c f (suc k0)).given u → HasEvent s (CheckGoal i) (short_ssa c f (suc k0)).events)
    solve choices turns e =
        let d = find (machine.nodes (machine_of base) true c.body no_temps (start c choices turns)) ((nodes_agree base true c.body no_temps).by_choices (start c choices turns)) e in
        let v = nodes_enters (suc k0) c.body d.0 in
        let b = breaks (short_come d.0) (cut_come v) d.1.0 d.1.1 (nodes_like k0 (starts row g) base true c.body no_temps d.0 p0 p0 refl) in
        (v, nodes_entered g (λ l. refl) c.body [] walks.T 0 (first_walk c) d.0, λ s ok mt. event_of s (cut_come v) b.0 b.1 (shown s ok v mt))

pub shorts_solve : ShortsSolve
shorts_solve c f w z zero some row lower choices turns i e = absurd (omega arith)
shorts_solve c f w z (suc k0) some row lower choices turns i e = solve c f w z k0 row lower i choices turns e
