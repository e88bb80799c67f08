-- A check that is broken is one of the program's.
use Rattle.std.proofs.Common.{◌≡◌, ℕ, List, refl}
use Rattle.l2_runs.specs.declared.outcome.Outcome.{Outcome}
use Rattle.l2_runs.specs.declared.outcome.Outcome.TheVariants.{Ended, Stopped, Broken, OutOfChoices, OutOfTurns}
use Rattle.l2_runs.specs.Numbers.{at_number}
use Rattle.l2_program.specs.declared.program.CheckInfo.{CheckInfo}
use Rattle.l2_meaning.specs.Lawful.{IsSome}
use Rattle.l2_answer.specs.Printed.{ListsBroken}

pub listed : (checks : List CheckInfo) (o : Outcome) → ((c : ℕ) → o ≡ Broken c → IsSome (at_number checks c)) → ListsBroken checks o
listed checks Ended h = tt
listed checks Stopped h = tt
listed checks (Broken c) h = h c refl
listed checks OutOfChoices h = tt
listed checks OutOfTurns h = tt
