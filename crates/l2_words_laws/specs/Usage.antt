-- Which words are refused, and why.
use Rattle.std.specs.Prelude.{◌≡◌, ◌≢◌, ◌⊎◌, List, [], Option, Some, None, codes}
use Rattle.clap.specs.Words.{Text, Row, first_of, subcommand_of}
use Rattle.l2_words.specs.Line.{twols_app, faults}
use Rattle.l2_words.specs.Numbers.{number_between}
use Rattle.l2_words.specs.Requests.{view_of, domain_of, command}

-- the operand or option of this name has a value, as which it isn't read
abbrev pub IsBad : {A : Type 0} → (Text → Option A) → Text → List Row → Type 0
IsBad read id rows = (value : Text) × (first_of id rows ≡ Some value) × (read value ≡ None)

abbrev pub Decides : Text → Type 0
Decides name = (name ≡ codes "verify") ⊎ (name ≡ codes "termination")

-- a value of the command of this name is out of form
pub data HasBadValue (name : Text) (rows : List Row) : Type 0 where
  unwind : Decides name → IsBad (number_between 1 64) (codes "unwind") rows → HasBadValue name rows
  domain : Decides name → IsBad domain_of (codes "domain") rows → HasBadValue name rows
  jobs : name ≡ codes "check" → IsBad (number_between 1 64) (codes "jobs") rows → HasBadValue name rows
  what : name ≡ codes "show" → IsBad view_of (codes "what") rows → HasBadValue name rows
  seed : name ≡ codes "generate" → IsBad (number_between 0 4294967295) (codes "n") rows → HasBadValue name rows
  loops : name ≡ codes "generate" → IsBad (number_between 1 64) (codes "loops") rows → HasBadValue name rows

-- why words are refused: `clap` finds a fault in them, or the command that it finds has a value that is out of form
pub data IsRefused (words : List Text) : Type 0 where
  faulty : faults words ≢ [] → IsRefused words
  out_of_form : (name : Text) (rows : List Row) → subcommand_of twols_app words ≡ Some (name, rows) → HasBadValue name rows → IsRefused words

-- words ask for nothing exactly where they are refused
abbrev pub UsageLaw : Type 0
UsageLaw = (words : List Text) → (command words ≡ None → IsRefused words) × (IsRefused words → command words ≡ None)
