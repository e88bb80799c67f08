-- Statuses of answers: those of all but faults of writing and want of memory.
use Rattle.std.proofs.Common.{◌≢◌, ℕ, List}
use Rattle.l2_program.specs.Programs.{ProgramTree}
use Rattle.l2_status.specs.declared.status.Status.{Status}
use Rattle.l2_status.specs.declared.status.Status.TheVariants.{WriteFault, NoMemory}
use Rattle.l2_status.specs.Texts.{OfText, taken, refused}

abbrev pub IsAnswered : Status → Type 0
IsAnswered s = (s ≢ WriteFault) × (s ≢ NoMemory)

pub of_text : (text : List ℕ) (ComesTo : ProgramTree → Status → List ℕ → Type 0) (s : Status) (output : List ℕ) →
    ((p : ProgramTree) → ComesTo p s output → IsAnswered s) → OfText text ComesTo s output → IsAnswered s
of_text text ComesTo s output h (taken p is comes) = h p comes
of_text text ComesTo s output h (refused f n i e l) = ((λ n. cc), (λ n. cc))
