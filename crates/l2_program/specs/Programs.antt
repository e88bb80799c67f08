-- A program as definitions speak of it: its lists, with each function's body as a tree without addresses.
use Rattle.std.specs.Prelude.{ℕ, ℤ, List, map}
use Rattle.l2_syntax.specs.declared.place.Place.{Place}
use Rattle.l2_syntax.specs.declared.token.Name.{Name}
use Rattle.l2_runs.specs.declared.cells.CellType.{CellType}
use Rattle.l2_program.specs.declared.program.ObjectInfo.{ObjectInfo}
use Rattle.l2_program.specs.declared.program.FunctionInfo.{FunctionInfo}
use Rattle.l2_program.specs.declared.program.LoopInfo.{LoopInfo}
use Rattle.l2_program.specs.declared.program.CheckInfo.{CheckInfo}
use Rattle.l2_program.specs.declared.program.StaticValue.{StaticValue}
use Rattle.l2_program.specs.declared.program.Program as rust
use Rattle.l2_program.specs.Checked.{CheckedTree, checked_tree}

pub record FunctionTree : Type 0 where
  pub name : ℕ
  pub place : Place
  pub parameters : List ℕ
  pub result : List CellType
  pub body : CheckedTree

pub record ProgramTree : Type 0 where
  pub objects : List ObjectInfo
  pub functions : List FunctionTree
  pub loops : List LoopInfo
  pub checks : List CheckInfo
  pub names : List Name
  pub static_values : List StaticValue
  pub thresholds : List ℤ

abbrev pub function_tree : FunctionInfo → FunctionTree
function_tree f = record { name = f.name; place = f.place; parameters = f.parameters; result = f.result; body = checked_tree f.body }

abbrev pub program_tree : rust.Program → ProgramTree
program_tree p = record {
  objects = p.objects;
  functions = map function_tree p.functions;
  loops = p.loops;
  checks = p.checks;
  names = p.names;
  static_values = p.static_values;
  thresholds = p.thresholds;
}
