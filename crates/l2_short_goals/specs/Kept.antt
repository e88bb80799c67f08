-- Choices among equations as code keeps them.
use Rattle.std.specs.Prelude.{ℕ, List, [], ◌∷◌, Option, Some, None}
use Rattle.l2_ssa.specs.declared.step.TakeStep.{TakeStep}
use Rattle.l2_ssa.specs.declared.step.Step.{Step}
use Rattle.l2_ssa.specs.declared.step.Step.TheVariants.{Choose, Take, Half, Point, Among, Compute, Alive, Pick, Row, Lower, Apart, Both, But, Either, Merge}
use Rattle.l2_blast.specs.Words.{Env, name, literal}
use Rattle.l2_short_goals.specs.Taken.{Choice}

-- a step that takes a choice
abbrev pub kept_take : Step → Option TakeStep
kept_take (Choose s) = None
kept_take (Take s) = Some s.value
kept_take (Half s) = None
kept_take (Point s) = None
kept_take (Among s) = None
kept_take (Compute s) = None
kept_take (Alive s) = None
kept_take (Pick s) = None
kept_take (Row s) = None
kept_take (Lower s) = None
kept_take (Apart s) = None
kept_take (Both s) = None
kept_take (But s) = None
kept_take (Either s) = None
kept_take (Merge s) = None

-- the choice that it takes, as name n
abbrev pub taken_as : Env → ℕ → TakeStep → Choice
taken_as env n t = record { path = literal env t.path; word = (name env n).bits; ty = t.ty }

abbrev pub taken_at : Env → ℕ → Option TakeStep → List Choice
taken_at env n None = []
taken_at env n (Some t) = taken_as env n t ∷ []
