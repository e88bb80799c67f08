-- The goals whose events are true in some model of the grown equations where rows are as a point says are those that runs miss.
use Rattle.std.specs.Prelude.{◌≡◌, ◌↔◌, ℕ, suc, ◌≤◌, Bool, true, ℤ, List, None}
use Rattle.std.specs.List.{Contains}
use Rattle.l2_runs.specs.declared.member.Member.{Member}
use Rattle.l2_runs.specs.declared.outcome.Outcome.TheVariants.{Broken}
use Rattle.l2_runs.specs.Runs.{End, Over, Fallen}
use Rattle.l2_program.specs.Programs.{ProgramTree}
use Rattle.l2_meaning.specs.Lawful.{IsLawful}
use Rattle.l2_templates.specs.declared.point.LoopPoint.{LoopPoint}
use Rattle.l2_templates.specs.Forms.{row_holds}
use Rattle.l2_cuts.specs.Cuts.{row_end}
use Rattle.l2_code.specs.Trees.{CodeTree}
use Rattle.l2_code.specs.Sets.{Family, IsResolved}
use Rattle.l2_lower.specs.Code.{code}
use Rattle.l2_labels.specs.Labels.{one_label}
use Rattle.l2_ssa.specs.Steps.{values_of}
use Rattle.l2_ssa.specs.Walks.{Goal, RowGoal, CheckGoal}
use Rattle.l2_ssa.specs.Law.{HasEvent}
use Rattle.l2_ssa_points.specs.Places.{vars_of, placed_row_at}
use Rattle.l2_ssa_points.specs.Meanings.{numbers_in}
use Rattle.l2_ssa_points.specs.Law.{AreOver}
use Rattle.l2_gates.specs.Gates.{Made, Bit, start}
use Rattle.l2_gates.specs.Models.{value, Ok, Extends}
use Rattle.l2_goals.specs.Fills.{fill_of}
use Rattle.l2_goal_laws.specs.Fits.{AreOf}
use Rattle.l2_grown_laws.specs.Grown.{grown_ssa, HasRoom}
use Rattle.l2_grown_models.specs.Law.{IsAskable}
use Rattle.l2_growing.specs.Models.{at_variables, followed}
use Rattle.l2_asked_goals.specs.Spots.{Spot, base_of, grown_spots, grown_events, grown_names, AllAsSaid, HasLiteral, row_literal}

-- some cut run at the point ends so
abbrev pub Ends : ProgramTree → (ℕ → Member → Bool) → ℕ → List LoopPoint → End → Type 0
Ends p sets k q x = (choices : List ℤ) × (row_end p sets k q choices ≡ x)

-- some model of what is made, where rows are as a point says, has a true event of the goal
abbrev pub IsShown : CodeTree → Family → ℕ → (ℕ → ℕ) → List LoopPoint → Made → Goal → Type 0
IsShown c f k counts q m goal =
    (v : ℕ → Bool) × (v 0 ≡ true) × Ok v m × AllAsSaid c q (base_of c f k counts).env v (grown_spots c f k counts)
    × HasEvent (grown_names c f k counts v) goal (grown_ssa c f k counts).events

-- a goal with a true event is missed by some run, row i of the equations being the point's row before it; and where some run misses a
-- goal, some model shows it, whatever was made later
pub record GoalsAreRuns : Type 0 where
  pub rows : (p : ProgramTree) (f : Family) (c : CodeTree) → IsAskable p f c → (k : ℕ) → 1 ≤ k → (counts : ℕ → ℕ) (q : List LoopPoint) → AreOver c q None → HasRoom counts q
      → (l i : ℕ) → IsShown c f k counts q (base_of c f k counts).made (RowGoal l i) → (j : ℕ) × (i ≡ suc j) × Ends p f.object k q (Fallen l j)
  pub checks : (p : ProgramTree) (f : Family) (c : CodeTree) → IsAskable p f c → (k : ℕ) → 1 ≤ k → (counts : ℕ → ℕ) (q : List LoopPoint) → AreOver c q None → HasRoom counts q
      → (n : ℕ) → IsShown c f k counts q (base_of c f k counts).made (CheckGoal n) → Ends p f.object k q (Over (Broken n))
  pub fails : (p : ProgramTree) (f : Family) (c : CodeTree) → IsAskable p f c → (k : ℕ) → 1 ≤ k → (counts : ℕ → ℕ) (q : List LoopPoint) → AreOver c q None → HasRoom counts q
      → (m : Made) → Extends (base_of c f k counts).made m → (l j : ℕ) → Ends p f.object k q (Fallen l j) → IsShown c f k counts q m (RowGoal l (suc j))
  pub breaks : (p : ProgramTree) (f : Family) (c : CodeTree) → IsAskable p f c → (k : ℕ) → 1 ≤ k → (counts : ℕ → ℕ) (q : List LoopPoint) → AreOver c q None → HasRoom counts q
      → (m : Made) → Extends (base_of c f k counts).made m → (n : ℕ) → Ends p f.object k q (Over (Broken n)) → IsShown c f k counts q m (CheckGoal n)

-- a circuit behind all variables that there are: each model before goes on to one of all
abbrev pub IsBehind : Made → Bit → Type 0
IsBehind m r = Extends m (followed m r.made)

-- the literal of a row is true exactly where the variable is what the point's row says of the values
abbrev pub RowLiteralsSay : Type 0
RowLiteralsSay =
    (p : ProgramTree) (f : Family) (c : CodeTree) → IsAskable p f c → (k : ℕ) (counts : ℕ → ℕ) (q : List LoopPoint) → AreOf c q None
    → (s : Spot) → Contains (grown_spots c f k counts) s → (m : Made) → Extends (base_of c f k counts).made m → (i : ℕ) (r : Bit)
    → r ≡ row_literal (fill_of (vars_of c) q None) (base_of c f k counts).env s i (at_variables m.next)
    → IsBehind m r
    × ((v : ℕ → Bool) → v 0 ≡ true → Ok v (followed m r.made)
    → (value v r.bit ≡ true) ↔ (value v s.own ≡ row_holds (placed_row_at (vars_of c) q s.at i) (numbers_in (values_of (grown_names c f k counts v) s.vars))))

-- an event is true exactly where its literal is
abbrev pub EventsShow : Type 0
EventsShow =
    (p : ProgramTree) (f : Family) (c : CodeTree) → IsAskable p f c → (k : ℕ) (counts : ℕ → ℕ) (v : ℕ → Bool) → v 0 ≡ true → Ok v (base_of c f k counts).made
    → (goal : Goal) → HasEvent (grown_names c f k counts v) goal (grown_ssa c f k counts).events ↔ HasLiteral v goal (grown_events c f k counts)

-- the equations are made behind variable 1
abbrev pub BaseIsMade : Type 0
BaseIsMade = (c : CodeTree) (f : Family) (k : ℕ) (counts : ℕ → ℕ) → Extends start (base_of c f k counts).made

-- the code of a lawful program, with one label at each place, may be asked
abbrev pub ProgramsAreAskable : Type 0
ProgramsAreAskable = (p : ProgramTree) → IsLawful p → (f : Family) → IsResolved (code p) f → IsAskable p f (one_label (code p))
