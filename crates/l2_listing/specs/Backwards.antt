-- How far a flat list was made, from its last instruction to its first.
use Rattle.std.specs.Prelude.{ℕ, List}
use Rattle.l2_listing.specs.declared.flattening.Instruction as rust
use Rattle.l2_listing.specs.Flat.{Instruction, Step, Head, Close}

-- an instruction, as definitions speak of it
abbrev pub instruction_of : rust.Instruction → Instruction
instruction_of (rust.TheVariants.Step a to) = Step a.now to
instruction_of (rust.TheVariants.Head l) = Head l
instruction_of (rust.TheVariants.Close l) = Close l

-- the number of the first instruction that was made, the ends of the blocks round it, innermost first, and what was made
pub record Backwards : Type 0 where
  pub at : ℕ
  pub ends : List ℕ
  pub later : List Instruction
