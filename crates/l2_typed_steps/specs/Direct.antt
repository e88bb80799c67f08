-- Code whose reads and writes at constant addresses are of the cells' types, and that tests no left shift for overflow.
use Rattle.std.specs.Prelude.{◌≡◌, false, Some, slice_get}
use Rattle.l2_runs.specs.declared.cells.CellType.{CellType}
use Rattle.l2_runs.specs.declared.cells.CellValue.TheVariants.{At}
use Rattle.l2_runs.specs.Fits.{Layout}
use Rattle.l2_code.specs.declared.action.Operand.{Operand}
use Rattle.l2_code.specs.declared.action.Operand.TheVariants.{Constant}
use Rattle.l2_code.specs.declared.action.Test.TheVariants as test
use Rattle.l2_code.specs.declared.action.Computation.{Computation}
use Rattle.l2_code.specs.declared.action.Computation.TheVariants.{Passes}
use Rattle.l2_code.specs.declared.action.Action.{Action}
use Rattle.l2_code.specs.declared.action.Action.TheVariants as action
use Rattle.l2_code.specs.Trees.{Node, Do, Block, Loop, Nodes, none, more}
use Rattle.l2_code.specs.WellFormed.{is_left_shift}

-- a constant address is that of a cell of this type
abbrev pub IsCellOf : Layout → CellType → Operand → Type 0
IsCellOf cells ty (Constant (At o f)) = slice_get (cells o) f ≡ Some ty
IsCellOf cells ty a = Unit {0}

abbrev pub IsDirectComputation : Computation → Type 0
IsDirectComputation (Passes (test.Overflow op ty a b)) = is_left_shift op ≡ false
IsDirectComputation c = Unit {0}

abbrev pub IsDirectAction : Layout → Action → Type 0
IsDirectAction cells (action.Compute n c) = IsDirectComputation c
IsDirectAction cells (action.Read n ty a) = IsCellOf cells ty a
IsDirectAction cells (action.Write ty a x) = IsCellOf cells ty a
IsDirectAction cells a = Unit {0}

abbrev mutual
  pub IsDirectNode : Layout → Node → Type 0
  IsDirectNode cells (Do a) = IsDirectAction cells a
  IsDirectNode cells (Block all) = AreDirect cells all
  IsDirectNode cells (Loop l all) = AreDirect cells all

  pub AreDirect : Layout → Nodes → Type 0
  AreDirect cells none = Unit {0}
  AreDirect cells (more x rest) = IsDirectNode cells x × AreDirect cells rest
