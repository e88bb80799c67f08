-- The thresholds of texts.
use Rattle.std.specs.Prelude.{ℕ, ◌<◌, ℤ, pos, ◌<ℤ◌, List, length, slice_index_or, Contains, All}
use Rattle.l2_program.specs.Programs.{ProgramTree}
use Rattle.l2_constant_laws.specs.Laws.{AreBytes, IsBound}
use Rattle.l2_front.specs.Programs.{IsProgram}

-- bounds that rise, with 0 among them
pub record AreBounds (bounds : List ℤ) : Type 0 where
  pub rise : (i j : ℕ) → i < j → j < length bounds → slice_index_or bounds i (pos 0) <ℤ slice_index_or bounds j (pos 0)
  pub zero : Contains bounds (pos 0)
  pub few : All IsBound bounds

abbrev pub ThresholdsOfAText : Type 0
ThresholdsOfAText = (text : List ℕ) (p : ProgramTree) → AreBytes text → IsProgram text p → AreBounds p.thresholds
