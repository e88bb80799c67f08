-- The store: the cells of each object, and whether it is live.
use Rattle.std.specs.Prelude.{ℕ, pos, Bool, false, List, [], Option, Some, None, slice_index_or, slice_set}
use Rattle.l2_runs.specs.declared.cells.CellValue.{CellValue}
use Rattle.l2_runs.specs.declared.cells.CellValue.TheVariants.{Number}
use Rattle.l2_runs.specs.Numbers.{at_number, set_number}

pub record Object : Type 0 where
  pub cells : List CellValue
  pub live : Bool

-- the objects, by their numbers
abbrev pub Store : Type 0
Store = List Object

-- a cell: its object's number, and its offset in that object
pub record Address : Type 0 where
  pub object : ℕ
  pub offset : ℕ

abbrev pub or_nothing : Option Object → Object
or_nothing None = record { cells = []; live = false }
or_nothing (Some o) = o

abbrev pub object_at : Store → ℕ → Object
object_at store n = or_nothing (at_number store n)

abbrev pub cell_at : Store → Address → CellValue
cell_at store a = slice_index_or (object_at store a.object).cells a.offset (Number (pos 0))

abbrev pub with_cell : Store → Address → CellValue → Store
with_cell store a v = set_number store a.object (record (object_at store a.object) { cells = slice_set (object_at store a.object).cells a.offset v })

abbrev pub with_live : Store → ℕ → Bool → Store
with_live store n live = set_number store n (record (object_at store n) { live = live })
