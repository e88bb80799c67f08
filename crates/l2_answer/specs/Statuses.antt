-- The statuses of replays.
use Rattle.l2_runs.specs.declared.outcome.Outcome.{Outcome}
use Rattle.l2_runs.specs.declared.outcome.Outcome.TheVariants.{Ended, Stopped, Broken, OutOfChoices, OutOfTurns}
use Rattle.l2_status.specs.declared.status.Status.{Status}
use Rattle.l2_status.specs.declared.status.Status.TheVariants.{Fine, Short, Unsafe}

-- the status that a replay with this outcome ends with
abbrev pub status_of : Outcome → Status
status_of Ended = Fine
status_of Stopped = Fine
status_of (Broken c) = Unsafe
status_of OutOfChoices = Short
status_of OutOfTurns = Short
