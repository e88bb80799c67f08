-- What the decision of a program ends with and prints, and its certificate.
use Rattle.std.specs.Prelude.{◌≡◌, ℕ, ◌<◌, ◌≤◌, Bool, true, false, List, [], Option, Some, None}
use Rattle.l2_program.specs.Programs.{ProgramTree}
use Rattle.l2_meaning.specs.Lawful.{IsLawful}
use Rattle.l2_code.specs.declared.sets.Sets.{Sets}
use Rattle.l2_code.specs.Trees.{CodeTree}
use Rattle.l2_code.specs.Sizes.{instructions}
use Rattle.l2_code.specs.Sets.{family}
use Rattle.l2_lower.specs.Code.{code}
use Rattle.l2_lower.specs.Output.{most_instructions}
use Rattle.l2_front.specs.Codes.{IsCodeOf}
use Rattle.l2_kiki.specs.declared.decision.Mode.{Mode}
use Rattle.l2_kiki.specs.declared.decision.Decision.{Decision}
use Rattle.l2_kiki.specs.declared.decision.Decision.TheVariants.{Safe, Unsafe, Terminating, Unwind, Size}
use Rattle.l2_words.specs.declared.request.DomainName.{DomainName}
use Rattle.l2_cert.specs.declared.cert.CertKind.TheVariants as kind
use Rattle.l2_verdicts.specs.Verdicts.{IsVerdict}
use Rattle.l2_verdict_text.specs.Texts.{Says}
use Rattle.l2_certificates.specs.Certificates.{IsFileOf}
use Rattle.l2_status.specs.declared.status.Status.{Status}
use Rattle.l2_verify_answer.specs.Bounds.{forms_named, bounds_named}

-- the certificate of an answer, where it has one: that of the point that proves, or of the lists that rank the loops there
abbrev pub IsFileFor : ProgramTree → Decision → Option (List ℕ) → Type 0
IsFileFor p (Safe k q) None = ⊥
IsFileFor p (Safe k q) (Some file) = IsFileOf kind.Safe p k q [] file
IsFileFor p (Unsafe k found) certificate = certificate ≡ None
IsFileFor p (Terminating k q ranks) None = ⊥
IsFileFor p (Terminating k q ranks) (Some file) = IsFileOf kind.Terminating p k q ranks file
IsFileFor p (Unwind k) certificate = certificate ≡ None
IsFileFor p (Size k) certificate = certificate ≡ None

-- the same, where it is wanted
abbrev pub IsCertificate : ProgramTree → Decision → Bool → Option (List ℕ) → Type 0
IsCertificate p d false certificate = certificate ≡ None
IsCertificate p d true certificate = IsFileFor p d certificate

-- how an answer ends a run, what is printed of it, and its certificate
pub record IsSaid (p : ProgramTree) (d : Decision) (wanted : Bool) (status : Status) (output : List ℕ) (certificate : Option (List ℕ)) : Type 0 where
  pub says : Says p d status output
  pub certified : IsCertificate p d wanted certificate

-- a program is answered in this mode, by points of this domain: with up to so many copies of a loop's turn, or not at all where its
-- code is too large by itself
pub data IsDecided (mode : Mode) (unwind : ℕ) (domain : DomainName) (wanted : Bool) (certificate : Option (List ℕ)) (p : ProgramTree) (status : Status) (output : List ℕ) : Type 0 where
  too_large : most_instructions < instructions (code p).body → IsSaid p (Size 1) wanted status output certificate → IsDecided mode unwind domain wanted certificate p status output
  answered : (c : CodeTree) (s : Sets) → IsCodeOf p c s → (d : Decision) → IsVerdict p c (family s) (forms_named domain) (bounds_named domain p.thresholds) mode unwind d
      → IsSaid p d wanted status output certificate → IsDecided mode unwind domain wanted certificate p status output

-- a lawful program with its code and sets, and so many copies, at most 64
pub record IsBegun (p : ProgramTree) (c : CodeTree) (s : Sets) (k : ℕ) : Type 0 where
  pub lawful : IsLawful p
  pub is_code : IsCodeOf p c s
  pub some : 1 ≤ k
  pub most : k ≤ 64
