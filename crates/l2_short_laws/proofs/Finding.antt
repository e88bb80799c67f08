-- The choices of a solution are those of a short run that breaks the check.
use Rattle.std.proofs.Common.{arith, ◌≡◌, ℕ, zero, suc, true, refl, sym, ◌∙◌, subst, [], length}
use Rattle.l2_runs.specs.Runs.{Result, on_go, stop}
use Rattle.l2_code.specs.Trees.{CodeTree}
use Rattle.l2_code.specs.Values.{no_temps}
use Rattle.l2_code.specs.Machine.{Way, On, Out}
use Rattle.l2_code.specs.Machine as machine
use Rattle.l2_code.specs.Sets.{Family, IsResolved}
use Rattle.l2_code.specs.Modes.{Cut, types_of}
use Rattle.l2_code.specs.WellFormed.{IsWellFormed, empty_scope}
use Rattle.l2_code_laws.proofs.Starts.{small_objects, limits_hold}
use Rattle.l2_supply.specs.Supply.{Supply, Place, at, Come, Goes, Ends, result_of}
use Rattle.l2_supply.proofs.Runs.{nodes_agree}
use Rattle.l2_ssa.specs.Steps.{Names}
use Rattle.l2_ssa.specs.Walks as walks
use Rattle.l2_ssa.specs.Walks.{CheckGoal, Plain}
use Rattle.l2_ssa.specs.Law.{RowsOf, RanksOf, starts, first_walk, HasEvent, Matches}
use Rattle.l2_ssa.proofs.Shows.{Shows, is_shown}
use Rattle.l2_ssa.proofs.Frames.{outs_of, allow}
use Rattle.l2_ssa.proofs.Givens.{supply_of, match_own, nodes_given}
use Rattle.l2_ssa.proofs.Solutions.{there_number, begins, temps_hold, stored, no_event, event_if}
use Rattle.l2_ssa_laws.proofs.Ends.{app_nil}
use Rattle.l2_short_laws.specs.Shorts.{short_ssa, SolvesShort, short_run}
use Rattle.l2_short_laws.specs.Used.{used, arrivals, BreaksAt, SolutionsBreak}
use Rattle.l2_short_laws.proofs.Breaking as breaking
use Rattle.l2_short_laws.proofs.Breaking.{not_stuck, shown}
use Rattle.l2_short_laws.proofs.Idle.{given_used}
use Rattle.l2_short_laws.proofs.Uses.{moved, Uses, nodes_uses}
use Rattle.l2_short_laws.proofs.Takes.{nodes_take, are_values}

module _ (c : CodeTree) (f : Family) (w : IsWellFormed c) (z : IsResolved c f) (k0 : ℕ) (row : RowsOf) (lower : RanksOf) (s : Names) (ok : SolvesShort c f (suc k0) row lower s) where
  abbrev o : walks.Out
  o = short_ssa c f (suc k0)

  abbrev g : walks.Setting
  g = breaking.g c f w z k0 row lower

  abbrev m : Rattle.l2_ssa.specs.Steps.Meaning
  m = breaking.m c f w z k0 row lower

  abbrev p0 : Place
  p0 = breaking.p0 c f w z k0 row lower

  abbrev own : Supply
  own = supply_of s o.given

  abbrev come : Come Way
  come = breaking.cut_come c f w z k0 row lower own

  abbrev short : machine.Setting
  short = record { limit = Rattle.l2_runs.specs.Loops.Short (suc k0); tests = Rattle.l2_runs.specs.Loops.no_tests; types = types_of c }

  matches : Matches (types_of c).objects s o.given own
  matches = match_own s (types_of c).objects o.given (nodes_given m s g c.body [] walks.T 0 (first_walk c) ok)

  uses : Uses s (machine.nodes short true c.body no_temps) come o.given o.heads p0.store
  uses =
      nodes_uses row lower s g (length c.checks) (length c.loops) (small_objects c w) (there_number c.objects) k0 (limits_hold c f w z (Cut (suc k0) (starts row g))) c.body [] walks.T 0 (first_walk c) no_temps p0 empty_scope
      w.typed z.closed.actions (begins c f w z k0 (λ l. Plain) row lower s) (temps_hold c f w z k0 (λ l. Plain) row lower s) (stored c f w z k0 (λ l. Plain) row lower s) ok matches
      (not_stuck c f w z k0 row lower come ((nodes_agree (breaking.cut c f w z k0 row lower) true c.body no_temps).by_supply p0 own))

  taken : used s 0 o.steps ≡ given_used s o.given
  taken = nodes_take s g k0 c.body [] walks.T 0 (first_walk c)

  module _ (i : ℕ) (ev : HasEvent s (CheckGoal i) o.events) where
    breaks : (e : Come Way) → Shows m s g o (allow (outs_of s []) e) → (turns n : ℕ) → BreaksAt i n (on_go (result_of (moved n e) [] turns) (λ v. stop))
    breaks (Goes (On t) q) h turns n = absurd (no_event m s g (CheckGoal i) o.events h.events ev)
    breaks (Goes (Out j) q) h turns n = absurd (no_event m s g (CheckGoal i) o.events h.events ev)
    breaks (Ends x q) h turns n = (event_if m s g (is_shown g x) (CheckGoal i) x o.events h.events ev, refl, refl)

    pub finds : (turns : ℕ) → BreaksAt i (arrivals s 0 o.heads) (short_run c f (suc k0) (used s 0 o.steps) turns)
    finds turns =
        subst (λ (r : Result Way). BreaksAt i (arrivals s 0 o.heads) (on_go r (λ v. stop)))
        (sym ((λ j. machine.nodes short true c.body no_temps (at p0 ((taken ∙ sym (app_nil (given_used s o.given))) j) turns)) ∙ uses.by [] turns 0))
        (breaks come (shown c f w z k0 row lower s ok own matches) turns (arrivals s 0 o.heads))

pub solutions_break : SolutionsBreak
solutions_break c f w z zero some row lower s ok i ev = absurd (omega arith)
solutions_break c f w z (suc k0) some row lower s ok i ev = (
  are_values (record { types = types_of c; row = row; lower = lower }) s 0 (short_ssa c f (suc k0)).steps ok,
  λ turns. finds c f w z k0 row lower s ok i ev turns,
)
