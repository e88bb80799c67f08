-- A point as code goes through it.
use Rattle.std.specs.Prelude.{ℕ, zero, suc, ◌+◌, List, map, option_map}
use Rattle.l2_templates.specs.declared.point.LoopPoint.{LoopPoint}
use Rattle.l2_templates.specs.declared.point.LoopPoint.TheVariants.{Bottom, Rows}
use Rattle.l2_code.specs.Trees.{code_of}
use Rattle.l2_ssa.specs.declared.goal.Kind.{Kind}
use Rattle.l2_ssa.specs.declared.goal.Kind.TheVariants as kind
use Rattle.l2_blast.specs.Words.{Fill}
use Rattle.l2_ssa_points.specs.Places.{vars_of}
use Rattle.l2_goals.specs.declared.filling.PointFill.{PointFill}
use Rattle.l2_goals.specs.Fills.{fill_of}
use Rattle.l2_goals.specs.declared.clauses.Endings.{Endings}
use Rattle.l2_ssa.specs.Walks.{Goal}
use Rattle.l2_ssa.specs.Views.{events_of}
use Rattle.l2_gates.specs.Gates.{Lit}
use Rattle.l2_goals.specs.Formulas.{literals}
use Rattle.l2_goals.specs.Numbers.{row_count}

-- what a loop is to the walk, as code keeps it
abbrev pub kept_kind : LoopPoint → Kind
kept_kind Bottom = kind.Bottom
kept_kind (Rows rows) = kind.Rows (row_count (Rows rows))

abbrev pub kept_kinds : List LoopPoint → List Kind
kept_kinds = map kept_kind

abbrev pub fill_in : PointFill → Fill
fill_in f = fill_of (vars_of (code_of f.code.now)) f.point.now (option_map (λ r. r.now) f.ranks)

-- a place behind so many variables
abbrev pub behind : ℕ → ℕ → ℕ
behind i zero = 0
behind i (suc n) = i + suc n

-- the last clauses of goals, by the equations' words and events as they are kept
abbrev pub endings : Endings → List Goal → List (List Lit)
endings e = map (λ g. literals e.words.now g (events_of e.events.now))
