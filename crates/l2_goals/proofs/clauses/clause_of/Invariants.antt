use Rattle.std.proofs.Common.{◌≡◌, ◌++◌, drop}
use Rattle.l2_gates.specs.Gates.{literals_of}
use Rattle.l2_ssa.specs.Views.{goal_of, events_of}
use Rattle.l2_goals.specs.Formulas.{literals}
use Rattle.l2_goals.proofs.clauses.clause_of.Given as goal

abbrev pub invariant-loop-event : goal.invariant-loop-event
invariant-loop-event l = literals_of l.clause.items ++ literals l.words (goal_of l.goal) (events_of (drop l.event-index l.events)) ≡ literals l.words (goal_of l.goal) (events_of l.events)
