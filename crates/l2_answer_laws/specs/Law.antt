-- Where no fault comes a text is decided.
use Rattle.std.specs.Prelude.{◌≡◌, ◌≢◌, ℕ, ◌≤◌, List, length, Option, Some, is_some}
use Rattle.l2_limits.specs.Limits.{text_limit}
use Rattle.l2_outside.specs.Outside.{Files, Rose, content, grown}
use Rattle.l2_words.specs.declared.request.DomainName.{DomainName}
use Rattle.l2_kiki.specs.declared.decision.Mode.{Mode}
use Rattle.l2_request.specs.Requests.{Decide, command}
use Rattle.l2_status.specs.declared.status.Status.{Status}
use Rattle.l2_status.specs.declared.status.Status.TheVariants.{WriteFault, NoMemory}
use Rattle.l2_verify_answer.specs.Verifies.{DecidesText}
use Rattle.l2_answer.specs.Stores.{into, stored_in}
use Rattle.l2_answer.specs.Answers.{Prints}

-- the run ends and prints as the decision of these bytes says, and the certificate stands where the words ask for it
pub record Delivers (mode : Mode) (bytes : List ℕ) (unwind : ℕ) (domain : DomainName) (out : Option (List ℕ)) (files after : Option Files) (status : Status) (old new : Option (List ℕ)) : Type 0 where
  pub output : List ℕ
  pub certificate : Option (List ℕ)
  pub decides : DecidesText mode bytes unwind domain (is_some out) status output certificate
  pub printed : new ≡ grown old output
  pub stored : after ≡ stored_in files (into out certificate)

-- so for each run of `verify` and `termination` over told files of which FILE is within its length, where no count of faults rose in a
-- read, nothing failed in a write, and memory wasn't wanting
abbrev pub DecidedLaw : Type 0
DecidedLaw =
    (files : Files) (after : Option Files) (before now : ℕ) (words : List (List ℕ)) (status : Status) (old new : Option (List ℕ))
    (mode : Mode) (file : List ℕ) (unwind : ℕ) (domain : DomainName) (out : Option (List ℕ)) (bytes : List ℕ)
    → command words ≡ Some (Decide mode file unwind domain out) → content files file ≡ Some bytes → length bytes ≤ text_limit
    → ¬ Rose before now → status ≢ WriteFault → status ≢ NoMemory
    → Prints (Some files) after before now words status old new → Delivers mode bytes unwind domain out (Some files) after status old new
