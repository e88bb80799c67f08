-- What the decision of a text ends with and prints, and its certificate.
use Rattle.std.specs.Prelude.{◌≡◌, ◌≢◌, ℕ, Bool, List, Option, None, option_map}
use Rattle.std.specs.declared.vec.Vec.{Vec}
use Rattle.std.specs.declared.alloc.Global.{Global}
use Rattle.l2_words.specs.declared.request.DomainName.{DomainName}
use Rattle.l2_kiki.specs.declared.decision.Mode.{Mode}
use Rattle.l2_kiki.specs.declared.decision.Mode.TheVariants.{Safety, Termination}
use Rattle.l2_status.specs.declared.status.Status.{Status}
use Rattle.l2_status.specs.declared.status.Status.TheVariants.{Fine}
use Rattle.l2_status.specs.Texts.{OfText}
use Rattle.l2_verify_answer.specs.Decided.{IsDecided}

-- the text's program is answered, or the text is refused; a certificate comes with status 0 alone
pub record DecidesText (mode : Mode) (text : List ℕ) (unwind : ℕ) (domain : DomainName) (wanted : Bool) (status : Status) (output : List ℕ) (certificate : Option (List ℕ)) : Type 0 where
  pub of_text : OfText text (IsDecided mode unwind domain wanted certificate) status output
  pub alone : status ≢ Fine → certificate ≡ None

-- whether some execution breaks a check
abbrev pub Verifies : List ℕ → ℕ → DomainName → Bool → Status → List ℕ → Option (List ℕ) → Type 0
Verifies = DecidesText Safety

-- whether all executions end
abbrev pub Terminates : List ℕ → ℕ → DomainName → Bool → Status → List ℕ → Option (List ℕ) → Type 0
Terminates = DecidesText Termination

-- the bytes of a file, where there is one
abbrev pub bytes_of : Option (Vec ℕ Global) → Option (List ℕ)
bytes_of file = option_map (λ v. v.items) file
