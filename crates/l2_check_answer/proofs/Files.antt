-- Checks of files, by what is read of them.
use Rattle.std.proofs.Common.{◌≡◌, ℕ, List, Bool, true, false, Result, Ok, Err, IfOk, ap, ◌∙◌, sym, refl}
use Rattle.std.specs.Prelude.{MatchResult}
use Rattle.l2_lines.specs.Lines.{lines_of, IsFirstBad}
use Rattle.l2_program.specs.Programs.{ProgramTree}
use Rattle.l2_cert.specs.declared.cert.Cert.{Cert}
use Rattle.l2_cert.specs.declared.cert.CertError.{CertError}
use Rattle.l2_cert.specs.declared.cert.CertError.TheVariants.{BadLine, NoMemory}
use Rattle.l2_cert.specs.Certificate.{InGrammar, IsFile, spelling}
use Rattle.l2_status.specs.declared.status.Answer.{Answer}
use Rattle.l2_status.specs.declared.status.Status.{Status}
use Rattle.l2_status.specs.declared.status.Status.TheVariants.{FileRefused}
use Rattle.l2_status.specs.Texts.{OfText, taken, refused}
use Rattle.l2_check_answer.specs.Said.{bad_line}
use Rattle.l2_check_answer.specs.Checks.{Spells, OfCertificate, OfFile, read, unread, IsOfOverflow, Checks, plain}

-- what a file is read as, and as nothing else
abbrev pub IsReadAs : List ℕ → Result Cert CertError → Type 0
IsReadAs file r = (c : Cert) → InGrammar c → file ≡ spelling c → MatchResult r (λ d. d ≡ c) (λ e. e ≡ NoMemory)

plain_read : (file : List ℕ) (c : Cert) → IsReadAs file (Ok c) → c.overflow ≡ false → ¬ IsOfOverflow file
plain_read file c exactly isnt (d, spells, is) =
    let same : c ≡ d = exactly d spells.in_grammar spells.spelt in
    let both : false ≡ true = sym isnt ∙ ap (λ x. x.overflow) same ∙ is in
    cc

plain_unread : (file : List ℕ) (line : ℕ) → IsReadAs file (Err (BadLine line)) → ¬ IsOfOverflow file
plain_unread file line exactly (d, spells, is) =
    let bad : BadLine line ≡ NoMemory = exactly d spells.in_grammar spells.spelt in
    cc

read_so : (text file : List ℕ) (c : Cert) (s : Status) (line : List ℕ) → Spells file c → OfText text (OfCertificate c) s line → OfText text (OfFile file) s line
read_so text file c s line spells (taken p is of) = taken p is (read c spells of)
read_so text file c s line spells (refused f none is e l) = refused f none is e l

-- a file that is read as this certificate
pub of_read : {E : Type 0} (text file : List ℕ) (c : Cert) → InGrammar c → file ≡ spelling c → IsReadAs file (Ok c) → c.overflow ≡ false →
    (r : Result Answer E) → IfOk r (λ a. OfText text (OfCertificate c) a.status a.output.items) → IfOk r (λ a. Checks text file a.status a.output.items)
of_read text file c grammar spelt exactly isnt (Ok a) of =
    plain (plain_read file c exactly isnt) (read_so text file c a.status a.output.items (record { in_grammar = grammar; spelt = spelt }) of)
of_read text file c grammar spelt exactly isnt (Err x) of = tt

-- a file that is no certificate, for a program
pub of_bad_line : {E : Type 0} (file : List ℕ) (p : ProgramTree) (line : ℕ) → IsFirstBad IsFile (lines_of file) line →
    (r : Result Answer E) → IfOk r (λ a. (a.status ≡ FileRefused) × (a.output.items ≡ bad_line line)) → IfOk r (λ a. OfFile file p a.status a.output.items)
of_bad_line file p line bad (Ok a) (s, l) = unread line bad s l
of_bad_line file p line bad (Err x) said = tt

-- the same for a text
pub of_unread : {E : Type 0} (text file : List ℕ) (line : ℕ) → IsReadAs file (Err (BadLine line)) →
    (r : Result Answer E) → IfOk r (λ a. OfText text (OfFile file) a.status a.output.items) → IfOk r (λ a. Checks text file a.status a.output.items)
of_unread text file line exactly (Ok a) of = plain (plain_unread file line exactly) of
of_unread text file line exactly (Err x) of = tt
