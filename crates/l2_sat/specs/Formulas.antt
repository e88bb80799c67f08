-- What is answered about a formula: whether it can be satisfied, and whether a file shows that it can't.
use Rattle.std.specs.Prelude.{◌≡◌, ℕ, Bool, ℤ, Option, None, Some, List, codes}
use Rattle.l2_lines.specs.Lines.{IsFirstBad, lines_of}
use Rattle.l2_cnf.specs.Logic.{Satisfies}
use Rattle.l2_cnf.specs.Steps.{Step}
use Rattle.l2_cert.specs.Certificate.{IsGoal}
use Rattle.l2_derivations.specs.Goals.{FailsAt, IsOpen, IsRefuted}
use Rattle.l2_refute.specs.Refuting.{Refute}
use Rattle.l2_derivation_file.specs.File.{IsFile as IsDerivationFile, spelling}
use Rattle.l2_sat.specs.declared.status.SatStatus.{SatStatus}
use Rattle.l2_sat.specs.declared.status.SatStatus.TheVariants.{Accepted, FileRefused, Satisfiable, Unsatisfiable}
use Rattle.l2_sat.specs.Texts.{model_text, numbered}

-- no assignment satisfies a formula
abbrev pub HasNoModel : List (List ℤ) → Type 0
HasNoModel formula = (a : ℕ → Bool) → ¬ Satisfies a formula

-- a file that is to be written
pub record Written : Type 0 where
  pub name : List ℕ
  pub bytes : List ℕ

-- Steps that show that a formula over variables up to `v` has no model: a derivation that ends with the empty clause, which a
-- file can spell, and none of which but the last is absorbed.
pub record Shows (v : ℕ) (formula : List (List ℤ)) (steps : List Step) : Type 0 where
  pub refute : Refute v formula steps
  pub none : HasNoModel formula

-- what `solve` comes to, and what it writes to the file of this name
pub data Solves (name : List ℕ) (v : ℕ) (formula : List (List ℤ)) (status : SatStatus) (output : List ℕ) (written : Option Written) : Type 0 where
  satisfiable : (a : ℕ → Bool) → Satisfies a formula → status ≡ Satisfiable → output ≡ model_text a v → written ≡ None →
      Solves name v formula status output written
  unsatisfiable : (steps : List Step) → Shows v formula steps → status ≡ Unsatisfiable → output ≡ codes "s UNSATISFIABLE\n" →
      written ≡ Some (record { name = name; bytes = spelling steps }) → Solves name v formula status output written

-- these bytes are the derivation file of these steps
abbrev pub AreSteps : List ℕ → List Step → Type 0
AreSteps bytes steps = IsGoal steps × (bytes ≡ spelling steps)

-- what `check` comes to on these bytes
pub data Checks (bytes : List ℕ) (v : ℕ) (formula : List (List ℤ)) (status : SatStatus) (output : List ℕ) (written : Option Written) : Type 0 where
  bad_line : (n : ℕ) → IsFirstBad IsDerivationFile (lines_of bytes) n → status ≡ FileRefused → output ≡ numbered (codes "DERIVATION BadLine ") n → written ≡ None →
      Checks bytes v formula status output written
  bad_step : (steps : List Step) (n : ℕ) → AreSteps bytes steps → FailsAt formula v steps n → status ≡ FileRefused → output ≡ numbered (codes "DERIVATION BadStep ") n →
      written ≡ None → Checks bytes v formula status output written
  unclosed : (steps : List Step) → AreSteps bytes steps → IsOpen formula v steps → status ≡ FileRefused → output ≡ codes "DERIVATION Unclosed\n" → written ≡ None →
      Checks bytes v formula status output written
  accepted : (steps : List Step) → AreSteps bytes steps → IsRefuted formula v steps → HasNoModel formula → status ≡ Accepted → output ≡ codes "ACCEPTED\n" →
      written ≡ None → Checks bytes v formula status output written
