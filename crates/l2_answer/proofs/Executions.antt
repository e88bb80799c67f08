-- Executions on values files.
use Rattle.std.proofs.Common.{◌≡◌, ℕ, ℤ, List, codes, Result, Ok, Err, IfOk, refl}
use Rattle.l2_witness.specs.ValuesFile.{InRange, spelling}
use Rattle.l2_runs.specs.Loops.{Real, no_tests}
use Rattle.l2_program.specs.Programs.{ProgramTree}
use Rattle.l2_meaning.specs.Execution.{exec}
use Rattle.l2_status.specs.declared.status.Answer.{Answer}
use Rattle.l2_status.specs.declared.status.Status.TheVariants.{FileRefused}
use Rattle.l2_answer.specs.Replays.{Ends, IsNoValues, ReplaysOn, executed, values_refused}

pub executes : {E : Type 0} (values : List ℕ) (p : ProgramTree) (turns : ℕ) (choices : List ℤ) → InRange turns choices → values ≡ spelling turns choices →
    (r : Result Answer E) → IfOk r (λ a. Ends p (exec p Real no_tests choices turns) a.status a.output.items) → IfOk r (λ a. ReplaysOn values p a.status a.output.items)
executes values p turns choices range spelt (Ok a) ends =
    executed (exec p Real no_tests choices turns) (record { turns = turns; choices = choices; in_range = range; values_spelt = spelt; executed = refl }) ends
executes values p turns choices range spelt (Err x) ends = tt

pub no_values : {E : Type 0} (values : List ℕ) (p : ProgramTree) → IsNoValues values →
    (r : Result Answer E) → IfOk r (λ a. (a.status ≡ FileRefused) × (a.output.items ≡ codes "VALUES BadLine 0\n")) → IfOk r (λ a. ReplaysOn values p a.status a.output.items)
no_values values p none (Ok a) (s, l) = values_refused none s l
no_values values p none (Err x) said = tt
