-- A program's code, and the sets of pointers that are the least ones closed over it.
use Rattle.std.specs.Prelude.{◌≡◌, ◌<◌, ◌≤◌, [], Option, Some, None, option_map}
use Rattle.l2_program.specs.declared.program.Program.{Program}
use Rattle.l2_program.specs.Programs.{ProgramTree, program_tree}
use Rattle.l2_meaning.specs.Lawful.{IsLawful}
use Rattle.l2_code.specs.declared.code.Code.{Code}
use Rattle.l2_code.specs.declared.sets.Sets.{Sets}
use Rattle.l2_code.specs.Trees.{CodeTree, code_of}
use Rattle.l2_code.specs.Sizes.{instructions}
use Rattle.l2_code.specs.Sets.{Family, family, AreSetsOf, IsClosed, IsResolved, IsInside}
use Rattle.l2_code.specs.WellFormed.{IsWellFormed}
use Rattle.l2_lower.specs.Output.{most_instructions}
use Rattle.l2_lower.specs.Code.{code}

-- the sets with which a code is resolved, the least that are closed over it
pub record AreLeastSets (c : CodeTree) (s : Sets) : Type 0 where
  pub of_code : AreSetsOf c s
  pub resolved : IsResolved c (family s)
  pub least : (f : Family) → IsClosed c f → IsInside (family s) f

-- the code of a program, which isn't too large, with its sets
pub record IsCodeOf (p : ProgramTree) (c : CodeTree) (s : Sets) : Type 0 where
  pub is_code : c ≡ code p
  pub few : instructions (code p).body ≤ most_instructions
  pub well_formed : IsWellFormed c
  pub sets : AreLeastSets c s

abbrev pub IsEmpty : Sets → Type 0
IsEmpty s = (s.sets ≡ []) × (s.objects ≡ []) × (s.temps ≡ [])

-- a program's code and its sets, or nothing where the code is too large
abbrev pub BelongTo : ProgramTree → Option CodeTree → Sets → Type 0
BelongTo p None s = (most_instructions < instructions (code p).body) × IsEmpty s
BelongTo p (Some c) s = IsCodeOf p c s

-- a program with its code and its sets, as they are kept
pub record Kept : Type 0 where
  pub program : Program
  pub code : Option Code
  pub sets : Sets

-- they belong together, and the program is lawful
pub record IsLoaded (k : Kept) : Type 0 where
  pub lawful : IsLawful (program_tree k.program)
  pub belong : BelongTo (program_tree k.program) (option_map code_of k.code) k.sets
