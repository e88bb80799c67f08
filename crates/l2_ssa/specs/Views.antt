-- What code keeps, as the definitions speak of it.
use Rattle.std.specs.Prelude.{ℕ, Bool, List, [], ◌∷◌, map, Option, Some, None}
use Rattle.l2_runs.specs.Numbers.{at_number}
use Rattle.l2_code.specs.declared.action.Operand.{Operand}
use Rattle.l2_code.specs.declared.action.Test.{Test}
use Rattle.l2_code.specs.declared.action.Test.TheVariants as test
use Rattle.l2_code.specs.declared.action.Computation.{Computation}
use Rattle.l2_code.specs.declared.action.Computation.TheVariants.{Numbers, Convert, Move, Pointers, Passes}
use Rattle.l2_code.specs.Sets.{Family}
use Rattle.l2_ssa.specs.Steps as steps
use Rattle.l2_ssa.specs.Walks as walks
use Rattle.l2_ssa.specs.declared.step.Flag.{Flag}
use Rattle.l2_ssa.specs.declared.step.Step.{Step}
use Rattle.l2_ssa.specs.declared.step.Step.TheVariants.{Choose, Take, Half, Point, Among, Compute, Alive, Pick, Row, Lower, Apart, Both, But, Either, Merge}
use Rattle.l2_ssa.specs.declared.goal.Goal.TheVariants as goal
use Rattle.l2_ssa.specs.declared.goal.Goal.{Goal}
use Rattle.l2_ssa.specs.declared.goal.Event.{Event}
use Rattle.l2_ssa.specs.declared.goal.Kind.TheVariants as kind
use Rattle.l2_ssa.specs.declared.goal.Kind.{Kind}

-- a test, or a computation, with these operands in place of its own
abbrev pub test_with : Test → Operand → Operand → Test
test_with (test.Division ty x y) a b = test.Division ty a b
test_with (test.Shift ty x) a b = test.Shift ty a
test_with (test.Overflow op ty x y) a b = test.Overflow op ty a b
test_with (test.Index n x) a b = test.Index n a
test_with (test.IndexEnd n x) a b = test.IndexEnd n a
test_with (test.Null x) a b = test.Null a
test_with (test.Invalid x) a b = test.Invalid a
test_with (test.Live x) a b = test.Live a
test_with (test.Cells n x) a b = test.Cells n a
test_with (test.Move by x y) a b = test.Move by a b
test_with (test.Same x y) a b = test.Same a b

abbrev pub with_operands : Computation → Operand → Operand → Computation
with_operands (Numbers op ty x y) a b = Numbers op ty a b
with_operands (Convert ty x) a b = Convert ty a
with_operands (Move by x y) a b = Move by a b
with_operands (Pointers op x y) a b = Pointers op a b
with_operands (Passes t) a b = Passes (test_with t a b)

abbrev pub flag_of : Flag → steps.Flag
flag_of x = record { object = x.object; live = x.live }

abbrev pub flags_of : List Flag → List steps.Flag
flags_of xs = map flag_of xs

-- a computation of the code, with its operands as they are now, where pointers have these sets
abbrev pub computed : Family → Operand → Computation → Operand → Operand → steps.Step
computed f path c a b = steps.Compute path (with_operands c a b) (walks.set_of f c)

-- a step, where pointers have these sets
abbrev pub step_of : Family → Step → steps.Step
step_of f (Choose s) = steps.Choose s.value
step_of f (Take s) = steps.Take s.value.path s.value.ty
step_of f (Half s) = steps.Half s.value
step_of f (Point s) = steps.Point s.value.path s.value.selector s.value.offset
step_of f (Among s) = steps.Among s.value.path s.value.selector s.value.offset (f.object s.value.object)
step_of f (Compute s) = computed f s.value.path s.value.what.now s.value.left s.value.right
step_of f (Alive s) = steps.Alive s.value.path s.value.pointer (flags_of s.value.flags)
step_of f (Pick s) = steps.Pick s.value.path s.value.pointer s.value.object s.value.offset s.value.ty s.value.there s.value.elsewhere
step_of f (Row s) = steps.Row s.value.path s.value.of_loop s.value.row s.value.vars
step_of f (Lower s) = steps.Lower s.value.path s.value.of_loop s.value.old s.value.now
step_of f (Apart s) = steps.Apart s.value.path s.value.left s.value.right
step_of f (Both s) = steps.Both s.value.left s.value.right
step_of f (But s) = steps.But s.value.left s.value.right
step_of f (Either s) = steps.Either s.value.left s.value.right
step_of f (Merge s) = steps.Merge s.value.path s.value.entry s.value.ty s.value.brought s.value.own

abbrev pub steps_of : Family → List Step → List steps.Step
steps_of f xs = map (step_of f) xs

abbrev pub goal_of : Goal → walks.Goal
goal_of (goal.Row l i) = walks.RowGoal l i
goal_of (goal.Rank l) = walks.RankGoal l
goal_of (goal.Check c) = walks.CheckGoal c

abbrev pub event_of : Event → walks.Event
event_of e = record { goal = goal_of e.goal; literal = e.literal }

abbrev pub events_of : List Event → List walks.Event
events_of xs = map event_of xs

abbrev pub kind_of : Option Kind → walks.Kind
kind_of None = walks.Bottom
kind_of (Some kind.Bottom) = walks.Bottom
kind_of (Some kind.Plain) = walks.Plain
kind_of (Some (kind.Rows n)) = walks.Rows n

-- the kinds of loops by their numbers; a loop that isn't listed is at Bottom
abbrev pub kinds_of : List Kind → ℕ → walks.Kind
kinds_of kinds l = kind_of (at_number kinds l)
