-- Laws of answers.
use Rattle.std.specs.Prelude.{◌≡◌, ◌≢◌, ◌⊎◌, ℕ, ℤ, List, Option}
use Rattle.l2_outside.specs.Outside.{Files}
use Rattle.l2_dimacs.specs.Profile.{IsFile}
use Rattle.l2_sat.specs.declared.status.SatStatus.{SatStatus}
use Rattle.l2_sat.specs.declared.status.SatStatus.TheVariants.{NoMemory, Satisfiable, Unsatisfiable, WriteFault}
use Rattle.l2_sat.specs.Formulas.{HasNoModel, Solves, Written}
use Rattle.l2_sat.specs.Answers.{Answers, OfText}

-- an answer's status is neither that of a fault of writing nor that of want of memory
abbrev pub StatusLaw : Type 0
StatusLaw = (files : Option Files) (before now : ℕ) (words : List (List ℕ)) (status : SatStatus) (output : List ℕ) (written : Option Written) → Answers files before now words status output written →
    (status ≢ WriteFault) × (status ≢ NoMemory)

-- a formula that is read is satisfiable or unsatisfiable, and the answer says which
abbrev pub SolveLaw : Type 0
SolveLaw = (text name : List ℕ) (v : ℕ) (formula : List (List ℤ)) (status : SatStatus) (output : List ℕ) (written : Option Written) → IsFile text v formula → OfText text (Solves name) status output written →
    ((status ≡ Satisfiable) × ¬ HasNoModel formula) ⊎ ((status ≡ Unsatisfiable) × HasNoModel formula)
