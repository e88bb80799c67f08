-- What the circuits of numbers and of pointers do, together.
use Rattle.l2_operator_laws.specs.Law.{ValuesTell, ConstantsTell, ResizedShow}
use Rattle.l2_number_circuits.specs.Law.{NumbersShow, ConvertedShow, DivisionsAre, ShiftsAre, IndexesAre, OverflowsAre, NumbersAreMade, NumbersHaveLengths, ConvertedHaveLengths}
use Rattle.l2_pointer_circuits.specs.Law.{HalvesShow, PointersShow, PointerChoicesShow, PicksAre, MovesShow, OperatorsShow, NullIs, InvalidIs, LiveIs, CellsAre, MovesAre, SameIs, AmongIs, PointersAreMade, AmongIsMade, ConstantsAreThere}

pub record Circuits : Type 0 where
  pub values_tell : ValuesTell
  pub constants_tell : ConstantsTell
  pub resized_show : ResizedShow
  pub numbers_show : NumbersShow
  pub converted_show : ConvertedShow
  pub divisions_are : DivisionsAre
  pub shifts_are : ShiftsAre
  pub indexes_are : IndexesAre
  pub overflows_are : OverflowsAre
  pub numbers_are_made : NumbersAreMade
  pub numbers_have_lengths : NumbersHaveLengths
  pub converted_have_lengths : ConvertedHaveLengths
  pub halves_show : HalvesShow
  pub pointers_show : PointersShow
  pub pointer_choices_show : PointerChoicesShow
  pub picks_are : PicksAre
  pub moves_show : MovesShow
  pub operators_show : OperatorsShow
  pub null_is : NullIs
  pub invalid_is : InvalidIs
  pub live_is : LiveIs
  pub cells_are : CellsAre
  pub moves_are : MovesAre
  pub same_is : SameIs
  pub among_is : AmongIs
  pub pointers_are_made : PointersAreMade
  pub among_is_made : AmongIsMade
  pub constants_are_there : ConstantsAreThere
