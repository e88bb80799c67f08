-- Files that are read in their order, each within its limit.
use Rattle.std.specs.Prelude.{ℕ, ◌+◌, ◌<◌, ◌≤◌, ◌⊎◌, List, [], ◌∷◌, length, ⊤, Option}
use Rattle.l2_outside.specs.Outside.{Files, HandsOver, Lacks}
use Rattle.l2_inputs.specs.declared.input.Input as rust

-- a file that is to be read, by its name, and how many bytes it may have
pub record Input : Type 0 where
  pub name : List ℕ
  pub limit : ℕ

abbrev pub input_of : rust.Input → Input
input_of i = record { name = i.name.now; limit = i.limit }

-- the read of a file hands over these bytes; one byte more than the limit is asked for, so that a longer file shows
abbrev pub Gives : Option Files → Input → List ℕ → Type 0
Gives files i bytes = HandsOver files i.name (i.limit + 1) bytes

-- the read of a file hands over its content, within its limit
abbrev pub IsRead : Option Files → Input → List ℕ → Type 0
IsRead files i bytes = Gives files i bytes × (length bytes ≤ i.limit)

-- the reads of these files hand over these contents
abbrev pub AreRead : Option Files → List Input → List (List ℕ) → Type 0
AreRead files [] [] = ⊤
AreRead files [] (bytes ∷ contents) = ⊥
AreRead files (i ∷ inputs) [] = ⊥
AreRead files (i ∷ inputs) (bytes ∷ contents) = IsRead files i bytes × AreRead files inputs contents

-- one of these files is so, and those before it are read
abbrev pub StopsAt : Option Files → (Input → Type 0) → List Input → Type 0
StopsAt files IsSo [] = ⊥
StopsAt files IsSo (i ∷ inputs) = IsSo i ⊎ (((bytes : List ℕ) × IsRead files i bytes) × StopsAt files IsSo inputs)

-- the first file that isn't read is too long
abbrev pub IsTooLong : Option Files → List Input → Type 0
IsTooLong files inputs = StopsAt files (λ i. (bytes : List ℕ) × Gives files i bytes × (i.limit < length bytes)) inputs

-- the first file that isn't read has a fault: the count of faults rose, or told files lack its name
abbrev pub HasFault : Option Files → Type 0 → List Input → Type 0
HasFault files Rises inputs = StopsAt files (λ i. Rises ⊎ Lacks files i.name) inputs
