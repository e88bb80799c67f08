-- What the decision of a text shows of it.
use Rattle.std.specs.Prelude.{◌≡◌, ◌≢◌, ℕ, Bool, List, ◌++◌, codes, Option, None}
use Rattle.l2_runs.specs.Loops.{Real, no_tests}
use Rattle.l2_program.specs.Programs.{ProgramTree}
use Rattle.l2_meaning.specs.Execution.{exec, Safe}
use Rattle.l2_cuts.specs.Turns as turns
use Rattle.l2_found_laws.specs.Found.{breaking}
use Rattle.l2_front.specs.Programs.{IsProgram}
use Rattle.l2_templates.specs.declared.form.Form.{Form}
use Rattle.l2_templates.specs.declared.infer.Found.{Found}
use Rattle.l2_templates.specs.declared.point.LoopPoint.{LoopPoint}
use Rattle.l2_kiki.specs.declared.decision.Decision.TheVariants as decision
use Rattle.l2_words.specs.declared.request.DomainName.{DomainName}
use Rattle.l2_verdict_text.specs.Texts.{IsUnsafeText, point_text, ranks_text, verdict_line}
use Rattle.l2_status.specs.declared.status.Status.{Status}
use Rattle.l2_status.specs.declared.status.Status.TheVariants.{Fine, Unsafe}
use Rattle.l2_verify_answer.specs.Decided.{IsCertificate}
use Rattle.l2_verify_answer.specs.Verifies.{Verifies, Terminates}

-- no execution of the text's program breaks a check; the point that proves it is printed, and the certificate is this point's
pub record IsSafe (text : List ℕ) (wanted : Bool) (output : List ℕ) (certificate : Option (List ℕ)) : Type 0 where
  pub program : ProgramTree
  pub is_program : IsProgram text program
  pub safe : Safe program
  pub k : ℕ
  pub point : List LoopPoint
  pub said : output ≡ point_text program 1 point ++ verdict_line (codes "SAFE") k
  pub certified : IsCertificate program (decision.Safe k point) wanted certificate

-- the execution of the text's program on the printed choices and turns breaks the printed check, and uses all of both
pub record IsUnsafe (text : List ℕ) (output : List ℕ) : Type 0 where
  pub program : ProgramTree
  pub is_program : IsProgram text program
  pub k : ℕ
  pub found : Found
  pub breaks : exec program Real no_tests found.choices found.turns ≡ breaking found.check found.choices found.turns
  pub said : IsUnsafeText program k found output

-- every execution of the text's program ends within the turns that the printed rankings give, and the certificate is theirs
pub record IsEnding (text : List ℕ) (wanted : Bool) (output : List ℕ) (certificate : Option (List ℕ)) : Type 0 where
  pub program : ProgramTree
  pub is_program : IsProgram text program
  pub k : ℕ
  pub point : List LoopPoint
  pub ranks : List (List Form)
  pub terminating : turns.Terminating program ranks
  pub said : output ≡ point_text program 1 point ++ (ranks_text program 1 ranks ++ verdict_line (codes "TERMINATING") k)
  pub certified : IsCertificate program (decision.Terminating k point ranks) wanted certificate

-- status 0 and 10 come only where this is so, and a certificate with status 0 alone
pub record IsShown (text : List ℕ) (wanted : Bool) (status : Status) (output : List ℕ) (certificate : Option (List ℕ)) : Type 0 where
  pub fine : status ≡ Fine → IsSafe text wanted output certificate
  pub unsafe : status ≡ Unsafe → IsUnsafe text output
  pub alone : status ≢ Fine → certificate ≡ None

abbrev pub VerifiedLaw : Type 0
VerifiedLaw = (text : List ℕ) (unwind : ℕ) (domain : DomainName) (wanted : Bool) (status : Status) (output : List ℕ) (certificate : Option (List ℕ))
    → Verifies text unwind domain wanted status output certificate → IsShown text wanted status output certificate

-- status 0 comes only where every execution ends, and a certificate with it alone
pub record IsEnded (text : List ℕ) (wanted : Bool) (status : Status) (output : List ℕ) (certificate : Option (List ℕ)) : Type 0 where
  pub fine : status ≡ Fine → IsEnding text wanted output certificate
  pub alone : status ≢ Fine → certificate ≡ None

abbrev pub TerminatedLaw : Type 0
TerminatedLaw = (text : List ℕ) (unwind : ℕ) (domain : DomainName) (wanted : Bool) (status : Status) (output : List ℕ) (certificate : Option (List ℕ))
    → Terminates text unwind domain wanted status output certificate → IsEnded text wanted status output certificate
