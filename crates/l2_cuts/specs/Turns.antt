-- How many turns an execution takes at most, where each loop has a rank.
use Rattle.std.specs.Prelude.{◌≡◌, ℕ, ◌+◌, ◌*◌, ◌^◌, ℤ, List, length, Option, Some, None}
use Rattle.l2_runs.specs.declared.outcome.Outcome.TheVariants.{OutOfTurns}
use Rattle.l2_runs.specs.Runs.{Over}
use Rattle.l2_runs.specs.Loops.{Real, no_tests}
use Rattle.l2_program.specs.Checked.{CheckedTree, Block, Declare, Static, Initialise, Label, Evaluate, If, IfElse, While, Return, CheckedTrees, none, more}
use Rattle.l2_program.specs.Programs.{ProgramTree, FunctionTree}
use Rattle.l2_meaning.specs.Execution.{exec, main_among}
use Rattle.l2_templates.specs.declared.form.Form.{Form}
use Rattle.l2_cuts.specs.Points.{ranks_at}

abbrev mutual
  -- by the number of forms that rank each loop: a form has fewer than 2^66 values. Expressions take no turns
  pub turns_in : (ℕ → ℕ) → CheckedTree → ℕ
  turns_in forms (Block all) = all_turns_in forms all
  turns_in forms (Declare n) = 0
  turns_in forms (Static n) = 0
  turns_in forms (Initialise n e) = 0
  turns_in forms (Label n) = 0
  turns_in forms (Evaluate e) = 0
  turns_in forms (If e s) = turns_in forms s
  turns_in forms (IfElse e s t) = turns_in forms s + turns_in forms t
  turns_in forms (While l named e s) = (2 ^ (66 * forms l) + 1) * (1 + turns_in forms s)
  turns_in forms (Return e) = 0

  pub all_turns_in : (ℕ → ℕ) → CheckedTrees → ℕ
  all_turns_in forms none = 0
  all_turns_in forms (more s rest) = turns_in forms s + all_turns_in forms rest

abbrev pub turns_of_main : (ℕ → ℕ) → Option FunctionTree → ℕ
turns_of_main forms None = 0
turns_of_main forms (Some f) = turns_in forms f.body

-- the turns that a program takes at most where these forms rank its loops
abbrev pub turns_of : ProgramTree → List (List Form) → ℕ
turns_of p r = turns_of_main (λ l. length (ranks_at r l)) (main_among p.names p.functions)

-- no execution uses up these turns
abbrev pub Terminating : ProgramTree → List (List Form) → Type 0
Terminating p r = (choices : List ℤ) → ¬ ((exec p Real no_tests choices (turns_of p r)).end ≡ Over OutOfTurns)
