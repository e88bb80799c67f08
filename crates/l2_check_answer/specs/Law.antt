-- What an accepted certificate file shows of a text.
use Rattle.std.specs.Prelude.{◌≡◌, ℕ, List}
use Rattle.l2_program.specs.Programs.{ProgramTree}
use Rattle.l2_front.specs.Programs.{IsProgram}
use Rattle.l2_cert.specs.declared.cert.Cert.{Cert}
use Rattle.l2_check.specs.Verdict.{IsTrue}
use Rattle.l2_status.specs.declared.status.Status.{Status}
use Rattle.l2_status.specs.declared.status.Status.TheVariants.{Fine}
use Rattle.l2_check_answer.specs.Said.{accepted_line}
use Rattle.l2_check_answer.specs.Checks.{Spells, Checks}

-- the text is a program, the file spells a certificate, the line says that it is accepted, and what it says is true of the program
pub record IsShown (text file line : List ℕ) : Type 0 where
  pub program : ProgramTree
  pub certificate : Cert
  pub is_program : IsProgram text program
  pub spells : Spells file certificate
  pub said : line ≡ accepted_line certificate.kind certificate.k certificate.overflow
  pub is_true : IsTrue program certificate

-- a check ends well only where this is so
abbrev pub AcceptedLaw : Type 0
AcceptedLaw = (text file : List ℕ) (status : Status) (line : List ℕ) → Checks text file status line → status ≡ Fine → IsShown text file line
