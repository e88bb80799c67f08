-- The statuses of decisions.
use Rattle.std.proofs.Common.{ℕ, Bool, List, Option}
use Rattle.l2_program.specs.Programs.{ProgramTree}
use Rattle.l2_kiki.specs.declared.decision.Mode.{Mode}
use Rattle.l2_kiki.specs.declared.decision.Mode.TheVariants.{Safety, Termination}
use Rattle.l2_kiki.specs.declared.decision.Decision.{Decision}
use Rattle.l2_kiki.specs.declared.decision.Decision.TheVariants as decision
use Rattle.l2_words.specs.declared.request.DomainName.{DomainName}
use Rattle.l2_status.specs.declared.status.Status.{Status}
use Rattle.l2_status.proofs.Answered.{IsAnswered, of_text}
use Rattle.l2_verify_answer.specs.Decided.{IsSaid, IsDecided, too_large, answered}
use Rattle.l2_verify_answer.specs.Verifies.{DecidesText, Verifies, Terminates}

said : (p : ProgramTree) (d : Decision) (wanted : Bool) (s : Status) (output : List ℕ) (certificate : Option (List ℕ)) → IsSaid p d wanted s output certificate → IsAnswered s
said p (decision.Safe k q) wanted s output certificate h = let e = h.says.0 in ((λ n. cc), (λ n. cc))
said p (decision.Unsafe k found) wanted s output certificate h = let e = h.says.0 in ((λ n. cc), (λ n. cc))
said p (decision.Terminating k q ranks) wanted s output certificate h = let e = h.says.0 in ((λ n. cc), (λ n. cc))
said p (decision.Unwind k) wanted s output certificate h = let e = h.says.0 in ((λ n. cc), (λ n. cc))
said p (decision.Size k) wanted s output certificate h = let e = h.says.0 in ((λ n. cc), (λ n. cc))

decided : (mode : Mode) (unwind : ℕ) (domain : DomainName) (wanted : Bool) (certificate : Option (List ℕ)) (p : ProgramTree) (s : Status) (output : List ℕ) → IsDecided mode unwind domain wanted certificate p s output → IsAnswered s
decided mode unwind domain wanted certificate p s output (too_large more h) = said p (decision.Size 1) wanted s output certificate h
decided mode unwind domain wanted certificate p s output (answered c sets is d verdict h) = said p d wanted s output certificate h

text_decided : (mode : Mode) (text : List ℕ) (unwind : ℕ) (domain : DomainName) (wanted : Bool) (s : Status) (output : List ℕ) (certificate : Option (List ℕ)) → DecidesText mode text unwind domain wanted s output certificate → IsAnswered s
text_decided mode text unwind domain wanted s output certificate v =
    of_text text (IsDecided mode unwind domain wanted certificate) s output (λ p h. decided mode unwind domain wanted certificate p s output h) v.of_text

pub verified : (text : List ℕ) (unwind : ℕ) (domain : DomainName) (wanted : Bool) (s : Status) (output : List ℕ) (certificate : Option (List ℕ)) → Verifies text unwind domain wanted s output certificate → IsAnswered s
verified = text_decided Safety

pub terminated : (text : List ℕ) (unwind : ℕ) (domain : DomainName) (wanted : Bool) (s : Status) (output : List ℕ) (certificate : Option (List ℕ)) → Terminates text unwind domain wanted s output certificate → IsAnswered s
terminated = text_decided Termination
