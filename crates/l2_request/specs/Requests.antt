-- What words ask for, of the commands that are built, and the files that this reads.
use Rattle.std.specs.Prelude.{ℕ, ◌≤◌, Bool, true, false, ⊤, Option, None, Some, List, [], ◌∷◌, option_and_then}
use Rattle.l2_limits.specs.Limits.{text_limit, file_limit}
use Rattle.l2_inputs.specs.Inputs.{Input}
use Rattle.l2_kiki.specs.declared.decision.Mode.{Mode}
use Rattle.l2_kiki.specs.declared.decision.Mode.TheVariants.{Safety, Termination}
use Rattle.l2_words.specs.declared.request.View.{View}
use Rattle.l2_words.specs.declared.request.DomainName.{DomainName}
use Rattle.l2_words.specs.Requests as words
use Rattle.l2_request.specs.declared.request.Request as rust
use Rattle.l2_request.specs.declared.request.Request.TheVariants as variant

pub data Request : Type 0 where
  Decide : (mode : Mode) (file : List ℕ) (unwind : ℕ) (domain : DomainName) (certificate : Option (List ℕ)) → Request
  Replay : (file values : List ℕ) → Request
  Show : (view : View) (file : List ℕ) → Request
  Check : (file certificate : List ℕ) (jobs : ℕ) → Request
  Generate : (seed loops : ℕ) → Request

abbrev pub asked : rust.Request → Request
asked (variant.Decide mode file unwind domain certificate) = Decide mode file.now unwind domain (words.text_of certificate)
asked (variant.Replay file values) = Replay file.now values.now
asked (variant.Show view file) = Show view file.now
asked (variant.Check file certificate jobs) = Check file.now certificate.now jobs
asked (variant.Generate seed loops) = Generate seed loops

-- how a text is decided, where overflow is no check
abbrev pub plainly : Mode → Bool → words.Deciding → Option Request
plainly mode false d = Some (Decide mode d.file d.unwind d.domain d.certificate)
plainly mode true d = None

-- the same request, where its command is built; checks of overflow aren't
abbrev pub built : words.Request → Option Request
built (words.Replay file values false) = Some (Replay file values)
built (words.Replay file values true) = None
built (words.Show view file false) = Some (Show view file)
built (words.Show view file true) = None
built (words.Verify d) = plainly Safety d.overflow d
built (words.Termination d) = plainly Termination d.overflow d
built (words.Check file certificate jobs) = Some (Check file certificate jobs)
built (words.Generate seed loops) = Some (Generate seed loops)

abbrev pub command : List (List ℕ) → Option Request
command line = option_and_then built (words.command line)

-- a text is decided with at least one copy of a loop's turn, and at most 64
abbrev pub IsWithin : Request → Type 0
IsWithin (Decide mode file unwind domain certificate) = (1 ≤ unwind) × (unwind ≤ 64)
IsWithin (Replay file values) = ⊤
IsWithin (Show view file) = ⊤
IsWithin (Check file certificate jobs) = ⊤
IsWithin (Generate seed loops) = ⊤

-- ---- the files that a request reads

abbrev pub text : List ℕ → Input
text name = record { name = name; limit = text_limit }

abbrev pub values_file : List ℕ → Input
values_file name = record { name = name; limit = file_limit }

abbrev pub certificate_file : List ℕ → Input
certificate_file name = record { name = name; limit = file_limit }

-- in the order in which they are read
abbrev pub inputs : Request → List Input
inputs (Decide mode file unwind domain certificate) = text file ∷ []
inputs (Replay file values) = text file ∷ values_file values ∷ []
inputs (Show view file) = text file ∷ []
inputs (Check file certificate jobs) = text file ∷ certificate_file certificate ∷ []
inputs (Generate seed loops) = []
