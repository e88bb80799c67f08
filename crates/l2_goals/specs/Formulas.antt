-- The formula of each goal.
use Rattle.std.specs.Prelude.{ℕ, suc, Bool, false, ◌&&◌, ◌==◌, if◌then◌else◌, is_some, List, [], ◌∷◌, ◌++◌, length, map, Option}
use Rattle.l2_templates.specs.declared.form.Form.{Form}
use Rattle.l2_templates.specs.declared.point.LoopPoint.{LoopPoint}
use Rattle.l2_code.specs.Trees.{CodeTree}
use Rattle.l2_code.specs.Sets.{Family}
use Rattle.l2_labels.specs.Labels.{one_label}
use Rattle.l2_ssa.specs.Walks.{Goal, RowGoal, RankGoal, CheckGoal, Event, Out}
use Rattle.l2_ssa.specs.Law.{ssa}
use Rattle.l2_ssa.specs.Views.{kinds_of}
use Rattle.l2_ssa.specs.declared.goal.Kind.{Kind}
use Rattle.l2_ssa.specs.declared.goal.Kind.TheVariants as kind
use Rattle.l2_gates.specs.Gates.{Lit, F, same}
use Rattle.l2_blast.specs.Words.{Env, Fill, Setting, literal}
use Rattle.l2_blast.specs.Kept.{setting_of}
use Rattle.l2_blast.specs.Blasting.{Blasted, clauses_of}
use Rattle.l2_ssa_points.specs.Goals.{goals_of_rows, check_goals, kind_at, goals}
use Rattle.l2_ssa_points.specs.Places.{vars_of}
use Rattle.l2_goals.specs.Fills.{fill_of}

abbrev pub same_goal : Goal → Goal → Bool
same_goal (RowGoal l i) (RowGoal m j) = l == m && i == j
same_goal (RankGoal l) (RankGoal m) = l == m
same_goal (CheckGoal c) (CheckGoal d) = c == d
same_goal g h = false

abbrev pub unless_false : Lit → List Lit → List Lit
unless_false l rest = if same l F then rest else l ∷ rest

-- the literals of a goal's events, in order, without F
abbrev pub literals : Env → Goal → List Event → List Lit
literals env goal [] = []
literals env goal (e ∷ es) = if same_goal e.goal goal then unless_false (literal env e.literal) (literals env goal es) else literals env goal es

-- the clauses that all goals have, over so many variables, and for each goal its last clause
pub record Formulas : Type 0 where
  pub base : List (List Lit)
  pub variables : ℕ
  pub last : List (List Lit)

abbrev pub formulas_of : Blasted → List Event → List Goal → Formulas
formulas_of b events all = record { base = b.made.clauses; variables = b.made.next; last = map (λ g. literals b.env g events) all }

-- ---- loops of some kinds, and what fills rows and rankings

-- the rows of a loop, or that no turn of it ends
abbrev pub rows_of_kind : ℕ → Kind → List Goal
rows_of_kind l kind.Bottom = RowGoal l 0 ∷ []
rows_of_kind l kind.Plain = []
rows_of_kind l (kind.Rows n) = goals_of_rows l 1 n

-- of the loops from number l on
abbrev pub rows_of_kinds : ℕ → List Kind → List Goal
rows_of_kinds l [] = []
rows_of_kinds l (x ∷ kinds) = rows_of_kind l x ++ rows_of_kinds (suc l) kinds

abbrev pub rank_of_kind : ℕ → Kind → List Goal
rank_of_kind l kind.Bottom = []
rank_of_kind l kind.Plain = []
rank_of_kind l (kind.Rows n) = RankGoal l ∷ []

-- the ranking of each loop that has rows
abbrev pub ranks_of_kinds : ℕ → List Kind → List Goal
ranks_of_kinds l [] = []
ranks_of_kinds l (x ∷ kinds) = rank_of_kind l x ++ ranks_of_kinds (suc l) kinds

-- the goals of loops of these kinds, and of rankings or of so many checks
abbrev pub goals_of_kinds : ℕ → List Kind → Bool → List Goal
goals_of_kinds checks kinds ranks = rows_of_kinds 1 kinds ++ (if ranks then ranks_of_kinds 1 kinds else check_goals 1 checks)

-- the formulas of a code as its labels stand, with k copies of each turn
unfoldable pub walk_formulas_with : CodeTree → Family → ℕ → List Kind → Bool → Fill → Formulas
walk_formulas_with c f k kinds ranks fill =
    let o = ssa c f k (kinds_of kinds) ranks in
    formulas_of (clauses_of (setting_of c fill) o.steps) o.events (goals_of_kinds (length c.checks) kinds ranks)

-- the formulas of a code are those of the code with one label at each place
abbrev pub formulas_with : CodeTree → Family → ℕ → List Kind → Bool → Fill → Formulas
formulas_with c = walk_formulas_with (one_label c)

-- ---- a point

-- the equations at a point
abbrev pub equations : CodeTree → Family → ℕ → List LoopPoint → Option (List (List Form)) → Out
equations c f k q ranks = ssa c f k (kind_at q) (is_some ranks)

abbrev pub setting : CodeTree → List LoopPoint → Option (List (List Form)) → Setting
setting c q ranks = setting_of c (fill_of (vars_of c) q ranks)

-- the formulas of a code as its labels stand, with k copies of each turn at a point, with rankings or without
unfoldable pub walk_formulas : CodeTree → Family → ℕ → List LoopPoint → Option (List (List Form)) → Formulas
walk_formulas c f k q ranks =
    let o = equations c f k q ranks in
    formulas_of (clauses_of (setting c q ranks) o.steps) o.events (goals (length c.checks) q ranks)

-- the formula of one goal of it
unfoldable pub walk_formula_of : CodeTree → Family → ℕ → List LoopPoint → Option (List (List Form)) → Goal → List (List Lit)
walk_formula_of c f k q ranks goal =
    let o = equations c f k q ranks in
    let b = clauses_of (setting c q ranks) o.steps in
    b.made.clauses ++ literals b.env goal o.events ∷ []

-- of the code with one label at each place
abbrev pub formulas : CodeTree → Family → ℕ → List LoopPoint → Option (List (List Form)) → Formulas
formulas c = walk_formulas (one_label c)

-- the formula of one goal
abbrev pub formula_of : CodeTree → Family → ℕ → List LoopPoint → Option (List (List Form)) → Goal → List (List Lit)
formula_of c = walk_formula_of (one_label c)
