-- What the replay of a text on a values file ends with and prints.
use Rattle.std.specs.Prelude.{◌≡◌, ◌≢◌, ℕ, ℤ, List, codes, Some}
use Rattle.l2_witness.specs.ValuesFile.{InRange, spelling}
use Rattle.l2_runs.specs.declared.outcome.Outcome.{Outcome}
use Rattle.l2_runs.specs.Runs.{Over}
use Rattle.l2_runs.specs.Loops.{Real, no_tests}
use Rattle.l2_program.specs.Programs.{ProgramTree}
use Rattle.l2_meaning.specs.Execution.{Execution, exec}
use Rattle.l2_status.specs.declared.status.Status.{Status}
use Rattle.l2_status.specs.declared.status.Status.TheVariants.{FileRefused}
use Rattle.l2_answer.specs.Statuses.{status_of}
use Rattle.l2_answer.specs.Printed.{replay_line}
use Rattle.l2_status.specs.Texts.{OfText}

-- an execution comes to an outcome, with this status and this line
pub record Ends (p : ProgramTree) (e : Execution) (status : Status) (line : List ℕ) : Type 0 where
  pub outcome : Outcome
  pub ends : e.end ≡ Over outcome
  pub status_is : status ≡ status_of outcome
  pub line_is : replay_line p.checks outcome e.turns_used e.choices_used ≡ Some line

-- the program is executed on the choices and the turns of the values file
pub record Executes (values : List ℕ) (p : ProgramTree) (e : Execution) : Type 0 where
  pub turns : ℕ
  pub choices : List ℤ
  pub in_range : InRange turns choices
  pub values_spelt : values ≡ spelling turns choices
  pub executed : e ≡ exec p Real no_tests choices turns

-- the bytes are no values file
abbrev pub IsNoValues : List ℕ → Type 0
IsNoValues values = (turns : ℕ) (choices : List ℤ) → InRange turns choices → values ≢ spelling turns choices

-- how the replay of a program on a values file ends, and the line that it prints
pub data ReplaysOn (values : List ℕ) (p : ProgramTree) (status : Status) (line : List ℕ) : Type 0 where
  executed : (e : Execution) → Executes values p e → Ends p e status line → ReplaysOn values p status line
  values_refused : IsNoValues values → status ≡ FileRefused → line ≡ codes "VALUES BadLine 0\n" → ReplaysOn values p status line

-- the same of a text
abbrev pub Replays : List ℕ → List ℕ → Status → List ℕ → Type 0
Replays text values status line = OfText text (ReplaysOn values) status line
