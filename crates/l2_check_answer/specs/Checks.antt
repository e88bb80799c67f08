-- What the check of a certificate file against a text ends with and prints.
use Rattle.std.specs.Prelude.{◌≡◌, ℕ, List, true, Some}
use Rattle.l2_lines.specs.Lines.{lines_of, IsFirstBad}
use Rattle.l2_program.specs.Programs.{ProgramTree}
use Rattle.l2_front.specs.Programs.{not_built_yet}
use Rattle.l2_cert.specs.declared.cert.Cert.{Cert}
use Rattle.l2_cert.specs.Certificate.{InGrammar, IsFile, spelling}
use Rattle.l2_check.specs.declared.checking.CheckError.{CheckError}
use Rattle.l2_check.specs.Accepting.{Accepts, IsRefusal}
use Rattle.l2_status.specs.declared.status.Status.{Status}
use Rattle.l2_status.specs.declared.status.Status.TheVariants.{Fine, Refused, FileRefused}
use Rattle.l2_status.specs.Printed.{refusal_line}
use Rattle.l2_status.specs.Texts.{OfText}
use Rattle.l2_check_answer.specs.Said.{accepted_line, bad_line, fault_line}

-- the file spells this certificate
pub record Spells (file : List ℕ) (c : Cert) : Type 0 where
  pub in_grammar : InGrammar c
  pub spelt : file ≡ spelling c

-- what a certificate comes to for a program
pub data OfCertificate (c : Cert) (p : ProgramTree) (status : Status) (line : List ℕ) : Type 0 where
  accepted : Accepts p c → status ≡ Fine → line ≡ accepted_line c.kind c.k c.overflow → OfCertificate c p status line
  refused : (e : CheckError) → IsRefusal p c e → status ≡ FileRefused → fault_line e ≡ Some line → OfCertificate c p status line

-- what a file comes to for a program: its certificate, or its first line that is in no certificate
pub data OfFile (file : List ℕ) (p : ProgramTree) (status : Status) (line : List ℕ) : Type 0 where
  read : (c : Cert) → Spells file c → OfCertificate c p status line → OfFile file p status line
  unread : (n : ℕ) → IsFirstBad IsFile (lines_of file) n → status ≡ FileRefused → line ≡ bad_line n → OfFile file p status line

-- the file spells a certificate for which overflow of signed operators is a check
abbrev pub IsOfOverflow : List ℕ → Type 0
IsOfOverflow file = (c : Cert) × Spells file c × (c.overflow ≡ true)

-- what a file comes to for a text; no text is read with checks of overflow yet
pub data Checks (text file : List ℕ) (status : Status) (line : List ℕ) : Type 0 where
  plain : ¬ IsOfOverflow file → OfText text (OfFile file) status line → Checks text file status line
  not_built : IsOfOverflow file → status ≡ Refused → line ≡ refusal_line not_built_yet → Checks text file status line
