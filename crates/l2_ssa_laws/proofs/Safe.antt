-- Where a cut run fails, a supply that enters does; and what the solutions that match it show where checks are events.
use Rattle.std.proofs.Common.{arith, ◌≡◌, inl, inr, ℕ, zero, suc, ◌<◌, Bool, true, false, refl, sym, ap, ◌∙◌, subst, List, [], ◌∷◌, ◌++◌, length, ℤ, Option, Some, None}
use Rattle.l2_runs.specs.declared.member.Member.TheVariants as member
use Rattle.l2_runs.specs.declared.outcome.Outcome.TheVariants.{Ended, Stopped, Broken, OutOfChoices, OutOfTurns}
use Rattle.l2_runs.specs.Runs.{End, Over, Fallen, Result, Go, Halt, on_go, stop}
use Rattle.l2_runs.specs.Loops.{Tests}
use Rattle.l2_runs.specs.Numbers.{at_number}
use Rattle.l2_code.specs.declared.code.CodeObject.{CodeObject}
use Rattle.l2_code.specs.Trees.{CodeTree}
use Rattle.l2_code.specs.Values.{no_temps}
use Rattle.l2_code.specs.Machine.{Way}
use Rattle.l2_code.specs.Machine as machine
use Rattle.l2_code.specs.Sets.{Family, HasCell, IsResolved}
use Rattle.l2_code.specs.Modes.{Cut, object_cells, types_of, first_store, limit_of, run_code, start}
use Rattle.l2_code.specs.WellFormed.{IsWellFormed, IsStuck, empty_scope}
use Rattle.l2_code_laws.proofs.Starts.{small_objects, limits_hold}
use Rattle.l2_supply.specs.Supply.{IsFailure, IsSupplied, place_of, Supply, Place, Come, Goes, Ends, Chosen}
use Rattle.l2_supply.specs.Going as going
use Rattle.l2_supply.specs.Going.{nodes_with, machine_of}
use Rattle.l2_supply.proofs.Runs.{nodes_agree}
use Rattle.l2_ssa.specs.Steps.{Names, Meaning, Solves}
use Rattle.l2_ssa.specs.Walks as walks
use Rattle.l2_ssa.specs.Walks.{Setting, Kind, Event}
use Rattle.l2_ssa.specs.Law.{RowsOf, RanksOf, tests, starts, setting_of, first_walk, ssa, HasEnd, EndsAt, Matches}
use Rattle.l2_ssa.proofs.Shows.{OneTrue, OneIf, Shows, is_shown}
use Rattle.l2_ssa.proofs.Frames.{outs_of, allow, NotStuck}
use Rattle.l2_ssa.proofs.Enters.{Halted, Same}
use Rattle.l2_ssa.proofs.Solutions.{there_number, begins, temps_hold, stored}
use Rattle.l2_ssa.proofs.Whole.{nodes_shows}
use Rattle.l2_ssa_laws.specs.Entering.{Enters, RunsEnter}
use Rattle.l2_ssa_laws.proofs.Entering.{enters, enters_enter, nodes_enter}

has_cell : (x : Option CodeObject) → HasCell x → 0 < length (object_cells x)
has_cell None h = absurd h
has_cell (Some o) h = h

fail_goes_on : (x : End) (p : Place) → IsFailure x → Halted {A = Way} (Ends x p) → ⊥
fail_goes_on (Over Ended) p h k = k
fail_goes_on (Over Stopped) p h k = h
fail_goes_on (Over (Broken i)) p h k = k
fail_goes_on (Over OutOfChoices) p h k = k
fail_goes_on (Over OutOfTurns) p h k = k
fail_goes_on (Fallen l r) p h k = k

-- a run under any tests
module _ (c : CodeTree) (f : Family) (z : IsResolved c f) (k0 : ℕ) (kind : ℕ → Kind) (no_plain : (l : ℕ) → kind l ≡ walks.Plain → ⊥) (row : RowsOf) (ranks : Bool) (ts : Tests) (x : End) (fails : IsFailure x) where
  abbrev gg : Setting
  gg = setting_of c f (suc k0) kind ranks

  abbrev rr : going.Setting
  rr = record { heads = going.Cut (suc k0) (starts row gg); tests = ts; types = types_of c; sets = f.object; mods = gg.mods }

  abbrev pp : Place
  pp = record { store = first_store c; arrivals = 0 }

  abbrev pub comes : Supply → Come Way
  comes u = nodes_with rr true c.body no_temps u pp

  over : (n o : ℕ) → f.object n (member.Object o) ≡ true → 0 < length ((types_of c).objects o)
  over n o e = has_cell (at_number c.objects o) (z.over.objects n o e)

  record Found : Type 0 where
    supply : Supply
    place : Place
    is : comes supply ≡ Ends x place

  find : (r : Result Way) → IsSupplied (λ u. comes u) r → EndsAt x (on_go r (λ v. stop)) → Found
  find (Go a st) h e = absurd (subst IsFailure (sym e) fails)
  find (Halt y st) h e =
      let d = h (subst IsFailure (sym e) fails) in
      record { supply = d.0; place = place_of st; is = d.1 ∙ ap (λ i. Ends i (place_of st)) e }

  abbrev given : walks.Given
  given = (ssa c f (suc k0) kind ranks).given

  abbrev entered : Supply → Supply
  entered u = enters (types_of c).objects given u

  entered_is : (u : Supply) (p : Place) → comes u ≡ Ends x p → Same (comes u) (comes (entered u)) → comes (entered u) ≡ Ends x p
  entered_is u p e (inl q) = sym q ∙ e
  entered_is u p e (inr h) = absurd (fail_goes_on x p fails (subst (λ (y : Come Way). Halted y) e h))

  pub find_entered : (choices : List ℤ) (turns : ℕ) → EndsAt x (run_code c (limit_of c f (Cut (suc k0) (starts row gg))) ts (start c choices turns))
      → (u : Supply) × Enters (types_of c).objects given u × ((p : Place) × (comes u ≡ Ends x p))
  find_entered choices turns e =
      let d = find (machine.nodes (machine_of rr) true c.body no_temps (start c choices turns)) ((nodes_agree rr true c.body no_temps).by_choices (start c choices turns)) e in (
        entered d.supply,
        enters_enter (types_of c).objects given d.supply,
        (d.place, entered_is d.supply d.place d.is (nodes_enter gg over row ts k0 refl no_plain c.body [] walks.T 0 (first_walk c) true no_temps d.supply pp)),
      )

-- ---- where checks are events

fail_shown : (c : CodeTree) (f : Family) (k : ℕ) (kind : ℕ → Kind) (x : End) → IsFailure x → is_shown (setting_of c f k kind false) x ≡ true
fail_shown c f k kind (Over Ended) h = absurd h
fail_shown c f k kind (Over Stopped) h = absurd h
fail_shown c f k kind (Over (Broken i)) h = refl
fail_shown c f k kind (Over OutOfChoices) h = absurd h
fail_shown c f k kind (Over OutOfTurns) h = absurd h
fail_shown c f k kind (Fallen l r) h = refl

one_end : (m : Meaning) (s : Names) (g : Setting) (x : End) (es : List Event) → OneTrue m s g x es → HasEnd s g x es
one_end m s g x [] h = h
one_end m s g x (e ∷ es) (inl h) = inl (h.0, h.1)
one_end m s g x (e ∷ es) (inr h) = inr (one_end m s g x es h.1)

module _ (c : CodeTree) (f : Family) (w : IsWellFormed c) (z : IsResolved c f) (k0 : ℕ) (kind : ℕ → Kind) (no_plain : (l : ℕ) → kind l ≡ walks.Plain → ⊥) (row : RowsOf) (lower : RanksOf) (x : End) (fails : IsFailure x) where
  abbrev g : Setting
  g = setting_of c f (suc k0) kind false

  abbrev m : Meaning
  m = record { types = types_of c; row = row; lower = lower }

  abbrev o : walks.Out
  o = ssa c f (suc k0) kind false

  abbrev run : going.Setting
  run = rr c f z k0 kind no_plain row false (tests row lower g) x fails

  abbrev p0 : Place
  p0 = pp c f z k0 kind no_plain row false (tests row lower g) x fails

  abbrev come : Supply → Come Way
  come u = nodes_with run true c.body no_temps u p0

  not_stuck : (e : Come Way) → Chosen (machine.nodes (machine_of run) true c.body no_temps) p0 e → NotStuck e
  not_stuck (Goes a p) h = tt
  not_stuck (Ends (Over y) p) h = tt
  not_stuck (Ends (Fallen zero r) p) h =
      w.never_stuck f z (Cut (suc k0) (starts row g)) (tests row lower g) (h.choices ++ []) 0 (subst (λ (y : Result Way). IsStuck (on_go y (λ v. stop))) (sym (h.comes [] 0)) tt)
  not_stuck (Ends (Fallen (suc l) r) p) h = tt

  shown : (s : Names) (u : Supply) (p : Place) → come u ≡ Ends x p → Solves m s 0 o.steps → Matches (types_of c).objects s o.given u → HasEnd s g x o.events
  shown s u p e ok mt =
      let sh = nodes_shows row lower s g (length c.checks) (length c.loops) (small_objects c w) (there_number c.objects) refl k0 refl (limits_hold c f w z (Cut (suc k0) (starts row g))) c.body [] walks.T 0 (first_walk c) no_temps p0 u empty_scope
      w.typed z.closed.actions (begins c f w z k0 kind row lower s) (temps_hold c f w z k0 kind row lower s) (stored c f w z k0 kind row lower s) ok mt
      (not_stuck (come u) ((nodes_agree run true c.body no_temps).by_supply p0 u)) in
      let ends = subst (λ y. Shows m s g o (allow (outs_of s []) y)) e sh in
      one_end m s g x o.events (subst (λ b. OneIf m s g b x o.events) (fail_shown c f (suc k0) kind x fails) ends.events)

pub runs_enter : RunsEnter
runs_enter c f w z zero some kind no_plain row lower choices turns x fails e = absurd (omega arith)
runs_enter c f w z (suc k0) some kind no_plain row lower choices turns x fails e =
    let d = find_entered c f z k0 kind no_plain row false (tests row lower (setting_of c f (suc k0) kind false)) x fails choices turns e in
    (d.0, d.1, λ s ok mt. shown c f w z k0 kind no_plain row lower x fails s d.0 d.2.0 d.2.1 ok mt)
