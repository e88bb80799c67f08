-- The statuses of checks.
use Rattle.std.proofs.Common.{ℕ, List}
use Rattle.l2_program.specs.Programs.{ProgramTree}
use Rattle.l2_cert.specs.declared.cert.Cert.{Cert}
use Rattle.l2_status.specs.declared.status.Status.{Status}
use Rattle.l2_status.proofs.Answered.{IsAnswered, of_text}
use Rattle.l2_check_answer.specs.Checks.{OfCertificate, accepted, refused, OfFile, read, unread, Checks, plain, not_built}

of_certificate : (c : Cert) (p : ProgramTree) (s : Status) (line : List ℕ) → OfCertificate c p s line → IsAnswered s
of_certificate c p s line (accepted a e l) = ((λ n. cc), (λ n. cc))
of_certificate c p s line (refused x r e l) = ((λ n. cc), (λ n. cc))

of_file : (file : List ℕ) (p : ProgramTree) (s : Status) (line : List ℕ) → OfFile file p s line → IsAnswered s
of_file file p s line (read c spells of) = of_certificate c p s line of
of_file file p s line (unread n bad e l) = ((λ n. cc), (λ n. cc))

pub checked : (text file : List ℕ) (s : Status) (line : List ℕ) → Checks text file s line → IsAnswered s
checked text file s line (plain none of) = of_text text (OfFile file) s line (λ p. of_file file p s line) of
checked text file s line (not_built of e l) = ((λ n. cc), (λ n. cc))
