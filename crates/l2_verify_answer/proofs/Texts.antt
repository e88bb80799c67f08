-- The program of a text: it is lawful, and its thresholds rise.
use Rattle.std.proofs.Common.{◌≡◌, ℕ, ◌<◌, pos, ◌<ℤ◌, List, [], length, Option, Some, None, ap, subst}
use Rattle.std.specs.Prelude.{slice_index_or, Contains, option_map}
use Rattle.l2_syntax.specs.declared.token.Token.{Token}
use Rattle.l2_program.specs.Programs.{ProgramTree}
use Rattle.l2_meaning.specs.Lawful.{IsLawful}
use Rattle.l2_meaning.specs.Thresholds.{thresholds_of}
use Rattle.l2_small.specs.SmallTrees.{SmallUnitTree}
use Rattle.l2_small.specs.SmallForm.{small_of, and_then}
use Rattle.l2_meaning.specs.Changes.{with_loop_sets}
use Rattle.l2_program.specs.Checked.{CheckedTree}
use Rattle.l2_small_check.specs.Elaboration.{program_of, program_with, items, nothing_found, Elaborated}
use Rattle.l2_front.specs.Programs.{IsProgram}
use Rattle.l2_verify_answer.specs.Bounds.{AreThresholds}

abbrev pub ProgramsAreLawful : Type 0
ProgramsAreLawful = (u : SmallUnitTree) (p : ProgramTree) → program_of u ≡ Some p → IsLawful p

-- the small unit of a program
pub record IsOfUnit (p : ProgramTree) : Type 0 where
  pub unit : SmallUnitTree
  pub program : program_of unit ≡ Some p

of_unit : (text : List ℕ) (p : ProgramTree) → IsProgram text p → IsOfUnit p
of_unit text p is = go (small_of is.unit) is.program where
  go : (o : Option SmallUnitTree) → and_then o program_of ≡ Some p → IsOfUnit p
  go None e = cc
  go (Some u) e = record { unit = u; program = e }

pub lawful_program : ProgramsAreLawful → (text : List ℕ) (p : ProgramTree) → IsProgram text p → IsLawful p
lawful_program lawful text p is = let u = of_unit text p is in lawful u.unit p u.program

abbrev pub ThresholdsRise : Type 0
ThresholdsRise = (tokens : List Token) (i j : ℕ) → i < j → j < length (thresholds_of tokens) → slice_index_or (thresholds_of tokens) i (pos 0) <ℤ slice_index_or (thresholds_of tokens) j (pos 0)

unit_thresholds : (u : SmallUnitTree) (p : ProgramTree) → program_of u ≡ Some p → thresholds_of u.constants ≡ p.thresholds
unit_thresholds u p = go (items [] nothing_found u.items)
  where
    inner : (a b : ProgramTree) → Some a ≡ Some b → a ≡ b
    inner a b e = cc

    go : (o : Option (Elaborated (List CheckedTree))) → option_map with_loop_sets (option_map (program_with u) o) ≡ Some p → thresholds_of u.constants ≡ p.thresholds
    go None e = cc
    go (Some r) e = ap (λ (x : ProgramTree). x.thresholds) (inner (with_loop_sets (program_with u r)) p e)

pub thresholds_known : ThresholdsRise → ((tokens : List Token) → Contains (thresholds_of tokens) (pos 0)) → (text : List ℕ) (p : ProgramTree) → IsProgram text p → AreThresholds p.thresholds
thresholds_known rise zero text p is =
    let u = of_unit text p is in
    subst AreThresholds (unit_thresholds u.unit p u.program) (record { rise = rise u.unit.constants; zero = zero u.unit.constants })
