-- What a check that ends well shows, and what the decision of a text shows.
use Rattle.std.specs.Prelude.{◌≡◌, ◌⊎◌, ℕ, Bool, List, [], ◌∷◌, Option, Some, is_some}
use Rattle.l2_outside.specs.Outside.{Files, grown}
use Rattle.l2_inputs.specs.Inputs.{AreRead}
use Rattle.l2_kiki.specs.declared.decision.Mode.TheVariants.{Safety, Termination}
use Rattle.l2_words.specs.declared.request.DomainName.{DomainName}
use Rattle.l2_request.specs.Requests.{Decide, Check, command, inputs, text}
use Rattle.l2_status.specs.declared.status.Status.{Status}
use Rattle.l2_status.specs.declared.status.Status.TheVariants.{Fine, Unsafe}
use Rattle.l2_check_answer.specs.Law as check
use Rattle.l2_verify_answer.specs.Law.{IsShown, IsEnded}
use Rattle.l2_answer.specs.Stores.{into, stored_in}
use Rattle.l2_answer.specs.Answers.{Prints}

-- the files have these contents, and what the line says is true of the program that the first spells
pub record ShowsOf (files : Option Files) (file certificate : List ℕ) (jobs : ℕ) (line : List ℕ) : Type 0 where
  pub text : List ℕ
  pub bytes : List ℕ
  pub are_read : AreRead files (inputs (Check file certificate jobs)) (text ∷ bytes ∷ [])
  pub shown : check.IsShown text bytes line

-- so for each run of `check` that ends with status 0, and the line that it prints
abbrev pub CheckedLaw : Type 0
CheckedLaw =
    (files after : Option Files) (before now : ℕ) (words : List (List ℕ)) (old new : Option (List ℕ)) (file certificate : List ℕ) (jobs : ℕ)
    → command words ≡ Some (Check file certificate jobs) → Prints files after before now words Fine old new
    → (line : List ℕ) × ShowsOf files file certificate jobs line × (new ≡ grown old line)

-- ---- decisions

-- the file has this content, what is printed shows this of it, and the certificate stands where the words ask for it
pub record IsTrueOf (Shows : List ℕ → Bool → Status → List ℕ → Option (List ℕ) → Type 0) (files after : Option Files) (file : List ℕ) (out : Option (List ℕ)) (status : Status) (output : List ℕ) : Type 0 where
  pub content : List ℕ
  pub certificate : Option (List ℕ)
  pub are_read : AreRead files (text file ∷ []) (content ∷ [])
  pub shown : Shows content (is_some out) status output certificate
  pub stored : after ≡ stored_in files (into out certificate)

-- so for each run of `verify` that ends with status 0 or 10, and what it prints
abbrev pub VerifiedLaw : Type 0
VerifiedLaw =
    (files after : Option Files) (before now : ℕ) (words : List (List ℕ)) (status : Status) (old new : Option (List ℕ))
    (file : List ℕ) (unwind : ℕ) (domain : DomainName) (out : Option (List ℕ))
    → command words ≡ Some (Decide Safety file unwind domain out) → Prints files after before now words status old new → (status ≡ Fine) ⊎ (status ≡ Unsafe)
    → (output : List ℕ) × IsTrueOf IsShown files after file out status output × (new ≡ grown old output)

-- and for each run of `termination` that ends with status 0
abbrev pub TerminatedLaw : Type 0
TerminatedLaw =
    (files after : Option Files) (before now : ℕ) (words : List (List ℕ)) (old new : Option (List ℕ))
    (file : List ℕ) (unwind : ℕ) (domain : DomainName) (out : Option (List ℕ))
    → command words ≡ Some (Decide Termination file unwind domain out) → Prints files after before now words Fine old new
    → (output : List ℕ) × IsTrueOf IsEnded files after file out Fine output × (new ≡ grown old output)
