-- What is written to a file before anything is printed.
use Rattle.std.specs.Prelude.{◌≡◌, ℕ, List, Option, Some, None, is_some, option_map, Result, Ok, Err, IfOk}
use Rattle.l2_outside.specs.Outside.{Files, with_file, KeepsOthers}
use Rattle.l2_words.specs.declared.request.DomainName.{DomainName}
use Rattle.l2_status.specs.declared.status.Status.{Status}
use Rattle.l2_kiki.specs.declared.decision.Mode.{Mode}
use Rattle.l2_verify_answer.specs.Verifies.{DecidesText}
use Rattle.l2_status.specs.declared.status.Answer.{Answer}
use Rattle.l2_answer.specs.declared.told.Stored as rust
use Rattle.l2_answer.specs.declared.told.Told.{Told}

-- a file by its name, and its content
pub record Stored : Type 0 where
  pub name : List ℕ
  pub bytes : List ℕ

abbrev pub file_of : rust.Stored → Stored
file_of s = record { name = s.name.now; bytes = s.bytes.items }

abbrev pub stored_of : Option rust.Stored → Option Stored
stored_of s = option_map file_of s

-- the certificate is stored under the name that the words give, where they give one
abbrev pub into : Option (List ℕ) → Option (List ℕ) → Option Stored
into None certificate = None
into (Some name) None = None
into (Some name) (Some bytes) = Some (record { name = name; bytes = bytes })

-- told files stay told, and have what is stored
abbrev pub stored_in : Option Files → Option Stored → Option Files
stored_in files None = files
stored_in files (Some s) = with_file files s.name s.bytes

-- something was to be stored, and every other name is as it was
abbrev pub IsUnstored : Option Files → Option Files → Option Stored → Type 0
IsUnstored old new None = ⊥
IsUnstored old new (Some s) = KeepsOthers old new s.name

-- what a text comes to, where its certificate is to be stored under this name
pub record Decides (mode : Mode) (text : List ℕ) (unwind : ℕ) (domain : DomainName) (out : Option (List ℕ)) (status : Status) (output : List ℕ) (stored : Option Stored) : Type 0 where
  pub certificate : Option (List ℕ)
  pub decides : DecidesText mode text unwind domain (is_some out) status output certificate
  pub stored_is : stored ≡ into out certificate

-- an answer is told, and nothing is stored
abbrev pub IsAlone : {E : Type 0} → Result Answer E → Result Told E → Type 0
IsAlone (Ok a) told = IfOk told (λ t. (t.answer ≡ a) × (t.stored ≡ None))
IsAlone (Err e) told = IfOk told (λ t. ⊥)
