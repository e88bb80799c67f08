-- How many cells of a type stand in the objects of each set: counted once a type, and kept.
use Rattle.std.specs.Prelude.{◌≡◌, ℕ, ◌+◌, List, [], ◌∷◌, map, Option, Some, None}
use Rattle.l2_runs.specs.declared.cells.CellType.{CellType}
use Rattle.l2_runs.specs.declared.member.Member.{Member}
use Rattle.l2_runs.specs.declared.member.Member.TheVariants.{Null, Invalid, Object}
use Rattle.l2_runs.specs.Numbers.{at_number}
use Rattle.l2_runs.specs.Members.{has}
use Rattle.l2_code.specs.declared.code.CodeObject.{CodeObject}
use Rattle.l2_code.specs.declared.sets.PointsTo.{PointsTo}
use Rattle.l2_code.specs.declared.sets.Sets.{Sets}
use Rattle.l2_code.specs.declared.code.Code.{Code}
use Rattle.l2_code.specs.Sets.{AllRise}
use Rattle.l2_code.specs.Sizes.{cells_of_type, cells_in}
use Rattle.l2_size.specs.declared.tables.Table.{Table}
use Rattle.l2_size.specs.Capped.{capped}

-- what is weighed: a code with its sets, for so many copies of each turn, where a loop has so many rows
pub record Load : Type 0 where
  pub code : Code
  pub sets : Sets
  pub copies : ℕ
  pub rows : List ℕ

abbrev pub or_zero : Option ℕ → ℕ
or_zero None = 0
or_zero (Some n) = n

-- what the objects among these members count, where each object counts so much
abbrev pub count_of : List ℕ → Member → ℕ
count_of counts Null = 0
count_of counts Invalid = 0
count_of counts (Object o) = or_zero (at_number counts o)

abbrev pub count_among : List ℕ → List Member → ℕ
count_among counts [] = 0
count_among counts (m ∷ ms) = count_of counts m + count_among counts ms

-- the cells of a type in an object
abbrev pub object_count : CellType → CodeObject → ℕ
object_count ty o = cells_of_type ty o.cells

-- the cells of a type in the objects of a set
abbrev pub set_count : List CodeObject → CellType → PointsTo → ℕ
set_count objects ty s = capped (cells_in (has s.members) ty 1 objects)

-- a table has them for each set
pub record IsTable (objects : List CodeObject) (sets : List PointsTo) (t : Table) : Type 0 where
  pub counts : t.counts.items ≡ map (set_count objects t.ty) sets

abbrev pub AreTables : List CodeObject → List PointsTo → List Table → Type 0
AreTables objects sets [] = Unit {0}
AreTables objects sets (t ∷ ts) = IsTable objects sets t × AreTables objects sets ts

-- the sets are in order, and the tables are right
pub record AreRight (objects : List CodeObject) (sets : List PointsTo) (made : List Table) : Type 0 where
  pub rise : AllRise sets
  pub tables : AreTables objects sets made
