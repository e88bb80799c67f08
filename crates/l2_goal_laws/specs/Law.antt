-- Which formulas have models, and what it says of a program that none has.
use Rattle.std.specs.Prelude.{◌≡◌, ◌↔◌, ℕ, ◌+◌, ◌==◌, ◌<◌, ◌≤◌, Bool, true, if◌then◌else◌, ℤ, List, [], ◌∷◌, ◌++◌, length, Option, Some, None, slice_index_or}
use Rattle.std.specs.List.{Contains}
use Rattle.l2_runs.specs.declared.outcome.Outcome.TheVariants.{Broken}
use Rattle.l2_runs.specs.declared.member.Member.{Member}
use Rattle.l2_runs.specs.Store.{Store}
use Rattle.l2_runs.specs.Runs.{Over, Fallen}
use Rattle.l2_templates.specs.declared.form.Form.{Form}
use Rattle.l2_templates.specs.declared.point.LoopPoint.{LoopPoint}
use Rattle.l2_cnf.specs.Logic.{Satisfies}
use Rattle.l2_program.specs.Programs.{ProgramTree}
use Rattle.l2_meaning.specs.Execution.{Safe}
use Rattle.l2_meaning.specs.Lawful.{IsLawful}
use Rattle.l2_code.specs.Sets.{Family, IsResolved}
use Rattle.l2_lower.specs.Code.{code}
use Rattle.l2_labels.specs.Labels.{one_label}
use Rattle.l2_cuts.specs.Points.{lowers}
use Rattle.l2_cuts.specs.Cuts.{rows_at, watched, cut_end, row_end, Proves, RankProves}
use Rattle.l2_cuts.specs.Turns.{Terminating}
use Rattle.l2_ssa.specs.Walks.{Goal, RowGoal, RankGoal, CheckGoal}
use Rattle.l2_ssa.specs.Law.{RanksOf, ssa}
use Rattle.l2_ssa_laws.specs.Events.{HasRows}
use Rattle.l2_ssa_points.specs.Goals.{kind_at, goals, row_goals, check_goals}
use Rattle.l2_ssa_points.specs.Meanings.{rows_say}
use Rattle.l2_ssa_points.specs.Places.{vars_of, or_no_ranks}
use Rattle.l2_blast.specs.Words.{Fill}
use Rattle.l2_goals.specs.Formulas.{Formulas, formulas, formula_of}
use Rattle.l2_goals.specs.Numbers.{all_numbers}
use Rattle.l2_goal_laws.specs.Fits.{AreOf}
use Rattle.l2_goal_laws.specs.Models.{Fills, AreLower, HasModel}

-- ---- single formulas

-- the turns of one loop that are lower pass, and all those of other loops
abbrev pub passes_one : (ℕ → Store → Store → Bool) → ℕ → ℕ → Store → Store → Bool
passes_one low l m old new = if m == l then low m old new else true

-- some cut run of the program fails the row, breaks the check, or has a turn that counts and isn't lower
abbrev pub IsMissed : ProgramTree → (ℕ → Member → Bool) → ℕ → List LoopPoint → Option (List (List Form)) → Goal → Type 0
IsMissed p sets k q ranks (RowGoal l i) = (choices : List ℤ) × (row_end p sets k q choices ≡ Fallen l i)
IsMissed p sets k q ranks (RankGoal l) =
    (choices : List ℤ) × (cut_end p sets k q (watched q (passes_one (lowers (or_no_ranks ranks)) l)) choices ≡ Fallen l (length (rows_at q l) + 1))
IsMissed p sets k q ranks (CheckGoal n) = (choices : List ℤ) × (row_end p sets k q choices ≡ Over (Broken n))

-- a goal's formula has a model exactly where some cut run misses the goal
abbrev pub FormulasAreRuns : Type 0
FormulasAreRuns =
    (p : ProgramTree) → IsLawful p → (f : Family) → IsResolved (code p) f → (k : ℕ) → 1 ≤ k → (q : List LoopPoint) (ranks : Option (List (List Form))) → AreOf (code p) q ranks
    → (goal : Goal) → Contains (goals (length (code p).checks) q ranks) goal
    → ((v : ℕ → Bool) × Satisfies v (all_numbers (formula_of (code p) f k q ranks goal))) ↔ IsMissed p f.object k q ranks goal

-- and so with whatever else rankings say of turns: the goal of a loop's ranking has a model exactly where some turn that counts isn't lower
abbrev pub TurnsAreRuns : Type 0
TurnsAreRuns =
    (p : ProgramTree) → IsLawful p → (f : Family) → IsResolved (code p) f → (k : ℕ) → 1 ≤ k → (q : List LoopPoint) → AreOf (code p) q None
    → (fill : Fill) (lower : RanksOf) (low : ℕ → Store → Store → Bool) → AreLower (one_label (code p)) lower low → Fills (one_label (code p)) fill (rows_say (vars_of (code p)) q) lower
    → (l : ℕ) → HasRows (kind_at q l)
    → HasModel (one_label (code p)) fill (ssa (one_label (code p)) f k (kind_at q) true) (RankGoal l) ↔ ((choices : List ℤ) × (cut_end p f.object k q (watched q (passes_one low l)) choices ≡ Fallen l (length (rows_at q l) + 1)))

-- the rows that cut runs fail, and the checks that they break, are among the goals
pub record RunsAreListed : Type 0 where
  pub rows : (p : ProgramTree) → IsLawful p → (f : Family) → IsResolved (code p) f → (k : ℕ) → 1 ≤ k → (q : List LoopPoint) → AreOf (code p) q None
      → (choices : List ℤ) (l i : ℕ) → row_end p f.object k q choices ≡ Fallen l i → Contains (row_goals 1 q) (RowGoal l i)
  pub checks : (p : ProgramTree) → IsLawful p → (f : Family) → IsResolved (code p) f → (k : ℕ) → 1 ≤ k → (q : List LoopPoint) → AreOf (code p) q None
      → (choices : List ℤ) (n : ℕ) → row_end p f.object k q choices ≡ Over (Broken n) → Contains (check_goals 1 (length (code p).checks)) (CheckGoal n)

-- ---- all formulas

-- no goal's formula has a model
abbrev pub NoneHasModels : Formulas → Type 0
NoneHasModels fs = (i : ℕ) → i < length fs.last → (v : ℕ → Bool) → ¬ Satisfies v (all_numbers fs.base ++ slice_index_or (all_numbers fs.last) i [] ∷ [])

-- where no formula of a lawful program has a model the point proves, and the program is safe
abbrev pub PointsProve : Type 0
PointsProve =
    (p : ProgramTree) → IsLawful p → (f : Family) → IsResolved (code p) f → (k : ℕ) → 1 ≤ k → (q : List LoopPoint) → AreOf (code p) q None
    → NoneHasModels (formulas (code p) f k q None) → Proves p f.object k q × Safe p

-- with rankings these rank the loops at the point, and the program terminates
abbrev pub RanksProve : Type 0
RanksProve =
    (p : ProgramTree) → IsLawful p → (f : Family) → IsResolved (code p) f → (k : ℕ) → 1 ≤ k → (q : List LoopPoint) (r : List (List Form)) → AreOf (code p) q (Some r)
    → NoneHasModels (formulas (code p) f k q (Some r)) → RankProves p f.object k q r × Terminating p r
