-- Which operands hold a value of a type.
use Rattle.std.specs.Prelude.{List, [], ◌∷◌}
use Rattle.l2_bits.specs.declared.types.Ty.{Ty}
use Rattle.l2_bits.specs.Values.{IsValue}
use Rattle.l2_runs.specs.declared.cells.CellType.{CellType}
use Rattle.l2_runs.specs.declared.cells.CellValue.TheVariants.{Number, Null, Invalid, At}
use Rattle.l2_runs.specs.Fits.{Layout, CellFits}
use Rattle.l2_code.specs.declared.action.Operand.{Operand}
use Rattle.l2_code.specs.declared.action.Operand.TheVariants.{Constant, Temp}

-- a temporary, or a number of the type
abbrev pub IsOperandOf : Ty → Operand → Type 0
IsOperandOf ty (Constant (Number z)) = IsValue ty z
IsOperandOf ty (Constant Null) = ⊥
IsOperandOf ty (Constant Invalid) = ⊥
IsOperandOf ty (Constant (At o f)) = ⊥
IsOperandOf ty (Temp n) = Unit {0}

-- a temporary, or a constant that fits; none stands for `void`
abbrev pub OperandFits : Layout → List CellType → Operand → Type 0
OperandFits cells [] a = Unit {0}
OperandFits cells (ty ∷ rest) (Constant v) = CellFits cells ty v
OperandFits cells (ty ∷ rest) (Temp n) = Unit {0}
