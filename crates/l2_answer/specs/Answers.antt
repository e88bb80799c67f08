-- What words and files are answered, and what a run stores and prints.
use Rattle.std.specs.Prelude.{◌≡◌, ◌≢◌, ℕ, List, [], ◌∷◌, codes, Option, Some, None}
use Rattle.l2_outside.specs.Outside.{Files, Rose, grown, GrewByPrefix}
use Rattle.l2_inputs.specs.Inputs.{AreRead, HasFault, IsTooLong}
use Rattle.l2_inputs.specs.declared.input.InputError.{InputError}
use Rattle.l2_inputs.specs.declared.input.InputError.TheVariants as error
use Rattle.l2_kiki.specs.declared.decision.Mode.{Mode}
use Rattle.l2_words.specs.declared.request.DomainName.{DomainName}
use Rattle.l2_request.specs.Requests.{Request, Decide, Replay, Show, Check, Generate, command, inputs, text}
use Rattle.l2_status.specs.declared.status.Status.{Status}
use Rattle.l2_status.specs.declared.status.Status.TheVariants.{Usage, ReadFault, WriteFault, NoMemory, TooLong}
use Rattle.l2_answer.specs.declared.told.Told.{Told}
use Rattle.l2_answer.specs.Replays.{Replays}
use Rattle.l2_answer.specs.Shows.{Shows}
use Rattle.l2_answer.specs.Generates.{Generates}
use Rattle.l2_answer.specs.Stores.{Stored, stored_of, stored_in, IsUnstored, Decides}
use Rattle.l2_check_answer.specs.Checks.{Checks}

-- what a request comes to where these are the contents of its files, but for a text that is decided
abbrev pub Judges : Request → List (List ℕ) → Status → List ℕ → Type 0
Judges (Decide mode file unwind domain out) contents status line = ⊥
Judges (Replay file values_file) (text ∷ values ∷ []) status line = Replays text values status line
Judges (Replay file values_file) contents status line = ⊥
Judges (Show view file) (text ∷ []) status output = Shows view text status output
Judges (Show view file) contents status output = ⊥
Judges (Check file certificate_file jobs) (text ∷ certificate ∷ []) status line = Checks text certificate status line
Judges (Check file certificate_file jobs) contents status line = ⊥
Judges (Generate seed loops) [] status output = Generates seed loops status output
Judges (Generate seed loops) contents status output = ⊥

-- these files and words are answered with this status and this line, and this is stored, where the count of faults in reads was
-- `before` and is `now`
pub data Answers (files : Option Files) (before now : ℕ) (words : List (List ℕ)) (status : Status) (line : List ℕ) (stored : Option Stored) : Type 0 where
  no_command : command words ≡ None → status ≡ Usage → line ≡ codes "USAGE\n" → stored ≡ None → Answers files before now words status line stored
  unreadable : (r : Request) → command words ≡ Some r → HasFault files (Rose before now) (inputs r) → status ≡ ReadFault → line ≡ codes "READ FAULT\n" →
      stored ≡ None → Answers files before now words status line stored
  over_limit : (r : Request) → command words ≡ Some r → IsTooLong files (inputs r) → status ≡ TooLong → line ≡ codes "TOO LONG\n" → stored ≡ None →
      Answers files before now words status line stored
  judged : (r : Request) (contents : List (List ℕ)) → command words ≡ Some r → AreRead files (inputs r) contents → Judges r contents status line → stored ≡ None →
      Answers files before now words status line stored
  decided : (mode : Mode) (file : List ℕ) (unwind : ℕ) (domain : DomainName) (out : Option (List ℕ)) (content : List ℕ) → command words ≡ Some (Decide mode file unwind domain out) →
      AreRead files (text file ∷ []) (content ∷ []) → Decides mode content unwind domain out status line stored → Answers files before now words status line stored

-- the same of what is told
abbrev pub Tells : Option Files → ℕ → ℕ → List (List ℕ) → Told → Type 0
Tells files before now words t = Answers files before now words t.answer.status t.answer.output.items (stored_of t.stored)

-- what is answered where files are not read
abbrev pub IsUnread : InputError → Status → List ℕ → Type 0
IsUnread error.Fault status line = (status ≡ ReadFault) × (line ≡ codes "READ FAULT\n")
IsUnread error.TooLong status line = (status ≡ TooLong) × (line ≡ codes "TOO LONG\n")
IsUnread error.NoMemory status line = ⊥

-- what a run that ends with this status stores and prints, to files that are so after it, and to a sink that took `old` until then and
-- `new` with it: what is to be stored, and then the whole line of the answer; after a fault of writing the file no line, and after one
-- of writing the line its first bytes; where memory is wanting nothing
pub data Prints (files after : Option Files) (before now : ℕ) (words : List (List ℕ)) (status : Status) (old new : Option (List ℕ)) : Type 0 where
  whole : (line : List ℕ) (stored : Option Stored) → Answers files before now words status line stored → after ≡ stored_in files stored → new ≡ grown old line →
      Prints files after before now words status old new
  cut_off : (meant : Status) (line : List ℕ) (stored : Option Stored) → Answers files before now words meant line stored → status ≡ WriteFault →
      after ≡ stored_in files stored → GrewByPrefix old new line → Prints files after before now words status old new
  unstored : (meant : Status) (line : List ℕ) (stored : Option Stored) → Answers files before now words meant line stored → status ≡ WriteFault →
      IsUnstored files after stored → new ≡ old → Prints files after before now words status old new
  nothing : status ≡ NoMemory → after ≡ files → new ≡ old → Prints files after before now words status old new

-- an answer's status is neither that of a fault of writing nor that of want of memory
abbrev pub StatusLaw : Type 0
StatusLaw =
    (files : Option Files) (before now : ℕ) (words : List (List ℕ)) (status : Status) (line : List ℕ) (stored : Option Stored)
    → Answers files before now words status line stored
    → (status ≢ WriteFault) × (status ≢ NoMemory)
