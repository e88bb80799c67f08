-- What words and files are answered, and what a run prints and writes.
use Rattle.std.specs.Prelude.{◌≡◌, ℕ, ℤ, List, [], ◌∷◌, codes, Option, Some, None}
use Rattle.l2_outside.specs.Outside.{Files, KeepsOthers, Rose, grown, GrewByPrefix, with_file}
use Rattle.l2_inputs.specs.Inputs.{AreRead, HasFault, IsTooLong}
use Rattle.l2_inputs.specs.declared.input.InputError.{InputError}
use Rattle.l2_inputs.specs.declared.input.InputError.TheVariants as error
use Rattle.l2_dimacs.specs.Profile.{IsFile, IsRefused}
use Rattle.l2_sat.specs.declared.status.SatStatus.{SatStatus}
use Rattle.l2_sat.specs.declared.status.SatStatus.TheVariants.{Usage, ReadFault, WriteFault, NoMemory, FormulaRefused, TooLong}
use Rattle.l2_sat.specs.declared.answer.Answer.{Answer}
use Rattle.l2_sat.specs.declared.answer.Written as rust
use Rattle.l2_sat.specs.Commands.{Command, Solve, Check, command, inputs}
use Rattle.l2_sat.specs.Texts.{numbered}
use Rattle.l2_sat.specs.Formulas.{Checks, Solves, Written}

-- what is answered about a text: what its formula comes to, or why it is none
pub data OfText (text : List ℕ) (ComesTo : ℕ → List (List ℤ) → SatStatus → List ℕ → Option Written → Type 0) (status : SatStatus) (output : List ℕ) (written : Option Written) : Type 0 where
  taken : (v : ℕ) (formula : List (List ℤ)) → IsFile text v formula → ComesTo v formula status output written → OfText text ComesTo status output written
  refused : (line : ℕ) → IsRefused text line → status ≡ FormulaRefused → output ≡ numbered (codes "DIMACS ") line → written ≡ None →
      OfText text ComesTo status output written

-- what a command comes to where these are the contents of its files
abbrev pub Judges : Command → List (List ℕ) → SatStatus → List ℕ → Option Written → Type 0
Judges (Solve file proof) (text ∷ []) status output written = OfText text (Solves proof) status output written
Judges (Solve file proof) contents status output written = ⊥
Judges (Check file proof) (text ∷ bytes ∷ []) status output written = OfText text (Checks bytes) status output written
Judges (Check file proof) contents status output written = ⊥

-- these files and words are answered with this status, this output and this file to be written, where the count of faults in
-- reads was `before` and is `now`
pub data Answers (files : Option Files) (before now : ℕ) (words : List (List ℕ)) (status : SatStatus) (output : List ℕ) (written : Option Written) : Type 0 where
  no_command : command words ≡ None → status ≡ Usage → output ≡ codes "USAGE\n" → written ≡ None → Answers files before now words status output written
  unreadable : (c : Command) → command words ≡ Some c → HasFault files (Rose before now) (inputs c) → status ≡ ReadFault → output ≡ codes "READ FAULT\n" → written ≡ None →
      Answers files before now words status output written
  over_limit : (c : Command) → command words ≡ Some c → IsTooLong files (inputs c) → status ≡ TooLong → output ≡ codes "TOO LONG\n" → written ≡ None →
      Answers files before now words status output written
  judged : (c : Command) (contents : List (List ℕ)) → command words ≡ Some c → AreRead files (inputs c) contents → Judges c contents status output written →
      Answers files before now words status output written

-- what is answered where files are not read
abbrev pub IsUnread : InputError → SatStatus → List ℕ → Option Written → Type 0
IsUnread error.Fault status output written = (status ≡ ReadFault) × (output ≡ codes "READ FAULT\n") × (written ≡ None)
IsUnread error.TooLong status output written = (status ≡ TooLong) × (output ≡ codes "TOO LONG\n") × (written ≡ None)
IsUnread error.NoMemory status output written = ⊥

-- told files with this file written, if any
abbrev pub with_written : Option Files → Option Written → Option Files
with_written files None = files
with_written files (Some w) = with_file files w.name w.bytes

-- What a run that ends with this status prints and writes, where shelf and sink tell `files` and `old` before and `left` and `new`
-- after it: the file, and then the whole answer; after a fault of writing the file nothing further, and after one of writing the
-- answer its first bytes; where memory is wanting nothing.
pub data Runs (files left : Option Files) (before now : ℕ) (WriteRose SinkRose : Type 0) (words : List (List ℕ)) (status : SatStatus) (old new : Option (List ℕ)) : Type 0 where
  whole : (output : List ℕ) (written : Option Written) → Answers files before now words status output written → left ≡ with_written files written → new ≡ grown old output →
      Runs files left before now WriteRose SinkRose words status old new
  unwritten : (meant : SatStatus) (output : List ℕ) (w : Written) → Answers files before now words meant output (Some w) → status ≡ WriteFault → WriteRose →
      KeepsOthers files left w.name → new ≡ old → Runs files left before now WriteRose SinkRose words status old new
  cut_off : (meant : SatStatus) (output : List ℕ) (written : Option Written) → Answers files before now words meant output written → status ≡ WriteFault → SinkRose →
      left ≡ with_written files written → GrewByPrefix old new output → Runs files left before now WriteRose SinkRose words status old new
  nothing : status ≡ NoMemory → left ≡ files → new ≡ old → Runs files left before now WriteRose SinkRose words status old new

-- ---- answers as they are kept

abbrev pub file_of : Option rust.Written → Option Written
file_of None = None
file_of (Some w) = Some (record { name = w.name.now; bytes = w.bytes.items })

-- an answer is kept that comes to this
abbrev pub IsAnswer : (SatStatus → List ℕ → Option Written → Type 0) → Answer → Type 0
IsAnswer ComesTo a = ComesTo a.status a.output.items (file_of a.written)
