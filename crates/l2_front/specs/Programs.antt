-- The program of a text, or why it has none.
use Rattle.std.specs.Prelude.{◌≡◌, ℕ, List, Option, Some, None}
use Rattle.l2_syntax.specs.declared.refusal.Refusal.{Refusal}
use Rattle.l2_syntax.specs.declared.refusal.Rule.TheVariants.{NotBuilt}
use Rattle.l2_program.specs.Programs.{ProgramTree}
use Rattle.l2_tree.specs.Trees.{UnitTree}
use Rattle.l2_parse_unit.specs.Reading.{SpellsText, IsTextRefused}
use Rattle.l2_small.specs.SmallForm.{small_of, and_then}
use Rattle.l2_small_check.specs.Elaboration.{program_of}

-- the program of a unit, where the unit is of the small form
abbrev pub small_program : UnitTree → Option ProgramTree
small_program u = and_then (small_of u) program_of

-- the text spells a unit, which is a program
pub record IsProgram (text : List ℕ) (p : ProgramTree) : Type 0 where
  pub unit : UnitTree
  pub spelt : SpellsText text unit
  pub program : small_program unit ≡ Some p

-- the text is no program of the small form
abbrev pub IsNoProgram : List ℕ → Type 0
IsNoProgram text = (p : ProgramTree) → ¬ IsProgram text p

-- a text that the program can't take yet is refused at its start
abbrev pub not_built_yet : Refusal
not_built_yet = record { place = record { offset = 0; line = 1; col = 1 }; rule = NotBuilt }

-- why a text is refused: reading stops, or the unit that it spells isn't of the small form
pub data IsRefusalOf (text : List ℕ) : Refusal → Type 0 where
  unread : (f : Refusal) → IsTextRefused text f → IsRefusalOf text f
  not_built : (u : UnitTree) → SpellsText text u → small_program u ≡ None → IsRefusalOf text not_built_yet
