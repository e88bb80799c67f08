-- What words ask for, and the files that this reads.
use Rattle.std.specs.Prelude.{ℕ, Option, None, Some, List, [], ◌∷◌, codes, map, string_bytes, String, if◌then◌else◌}
use Rattle.std.specs.Str.{bytes_eq}
use Rattle.std.specs.declared.alloc.Global.{Global}
use Rattle.l2_limits.specs.Limits.{file_limit}
use Rattle.l2_inputs.specs.Inputs.{Input}
use Rattle.l2_sat.specs.declared.commands.Command as rust
use Rattle.l2_sat.specs.declared.commands.Command.TheVariants as variant

-- `solve FILE PROOF`, `check FILE PROOF`
pub data Command : Type 0 where
  Solve : (file proof : List ℕ) → Command
  Check : (file proof : List ℕ) → Command

abbrev pub asked : rust.Command → Command
asked (variant.Solve file proof) = Solve file.now proof.now
asked (variant.Check file proof) = Check file.now proof.now

-- the words, as bytes
abbrev pub texts : List (String Global) → List (List ℕ)
texts words = map string_bytes words

abbrev pub command_of : List ℕ → List ℕ → List ℕ → Option Command
command_of name file proof =
    if bytes_eq name (codes "solve") then Some (Solve file proof)
    else if bytes_eq name (codes "check") then Some (Check file proof)
    else None

abbrev pub command : List (List ℕ) → Option Command
command [] = None
command (name ∷ []) = None
command (name ∷ file ∷ []) = None
command (name ∷ file ∷ proof ∷ []) = command_of name file proof
command (name ∷ file ∷ proof ∷ other ∷ words) = None

abbrev pub input : List ℕ → Input
input name = record { name = name; limit = file_limit }

-- in the order in which they are read
abbrev pub inputs : Command → List Input
inputs (Solve file proof) = input file ∷ []
inputs (Check file proof) = input file ∷ input proof ∷ []
