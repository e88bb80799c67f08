-- Where a check ends well its verdict is true.
use Rattle.std.proofs.Common.{◌≡◌, ℕ, List, Option, Some, None}
use Rattle.l2_program.specs.Programs.{ProgramTree}
use Rattle.l2_meaning.specs.Lawful.{IsLawful}
use Rattle.l2_small.specs.SmallTrees.{SmallUnitTree}
use Rattle.l2_small.specs.SmallForm.{small_of, and_then}
use Rattle.l2_small_check.specs.Elaboration.{program_of}
use Rattle.l2_front.specs.Programs.{IsProgram}
use Rattle.l2_cert.specs.declared.cert.Cert.{Cert}
use Rattle.l2_check.specs.Verdict.{AcceptedIsTrue}
use Rattle.l2_status.specs.declared.status.Status.{Status}
use Rattle.l2_status.specs.declared.status.Status.TheVariants.{Fine}
use Rattle.l2_status.specs.Texts.{OfText, taken}
use Rattle.l2_status.specs.Texts as texts
use Rattle.l2_check_answer.specs.Checks.{Spells, OfCertificate, accepted, refused, OfFile, read, unread, Checks, plain, not_built}
use Rattle.l2_check_answer.specs.Law.{IsShown, AcceptedLaw}

abbrev pub ProgramsAreLawful : Type 0
ProgramsAreLawful = (u : SmallUnitTree) (p : ProgramTree) → program_of u ≡ Some p → IsLawful p

lawful_program : ProgramsAreLawful → (text : List ℕ) (p : ProgramTree) → IsProgram text p → IsLawful p
lawful_program lawful text p is = go (small_of is.unit) is.program where
  go : (o : Option SmallUnitTree) → and_then o program_of ≡ Some p → IsLawful p
  go None e = absurd (let f : None ≡ Some p = e in cc)
  go (Some u) e = lawful u p e

module _ (holds : AcceptedIsTrue) (lawful : ProgramsAreLawful) where
  by_certificate : (text file : List ℕ) (p : ProgramTree) (c : Cert) (s : Status) (line : List ℕ) → IsProgram text p → Spells file c → OfCertificate c p s line → s ≡ Fine → IsShown text file line
  by_certificate text file p c s line is spells (accepted a e said) fine = record {
    program = p;
    certificate = c;
    is_program = is;
    spells = spells;
    said = said;
    is_true = holds p c (lawful_program lawful text p is) spells.in_grammar a;
  }
  by_certificate text file p c s line is spells (refused x why e said) fine = absurd (cc)

  by_file : (text file : List ℕ) (p : ProgramTree) (s : Status) (line : List ℕ) → IsProgram text p → OfFile file p s line → s ≡ Fine → IsShown text file line
  by_file text file p s line is (read c spells of) fine = by_certificate text file p c s line is spells of fine
  by_file text file p s line is (unread n bad e said) fine = absurd (cc)

  pub shown : AcceptedLaw
  shown text file s line (plain none (taken p is of)) fine = by_file text file p s line is of fine
  shown text file s line (plain none (texts.refused f never why e said)) fine = absurd (cc)
  shown text file s line (not_built of e said) fine = absurd (cc)
