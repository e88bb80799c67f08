-- The thresholds of the program of a text.
use Rattle.std.proofs.Common.{◌≡◌, List, [], ◌∷◌, Bool, true, false, cond, Option, None, Some, ap, sym, subst}
use Rattle.std.specs.Prelude.{option_map}
use Rattle.l2_syntax.specs.declared.token.Token.{Token}
use Rattle.l2_program.specs.Programs.{ProgramTree}
use Rattle.l2_meaning.specs.Changes.{with_loop_sets}
use Rattle.l2_meaning.specs.Thresholds.{thresholds_of}
use Rattle.l2_tree.specs.Trees.{UnitTree}
use Rattle.l2_lex.specs.Lexing.{tokens_of}
use Rattle.l2_parse_unit.specs.Reading.{is_constant, constants_of}
use Rattle.l2_small.specs.SmallTrees.{SmallUnitTree}
use Rattle.l2_small.specs.SmallForm.{and_then, MainTree, unit_with, small_externals}
use Rattle.l2_small_check.specs.Elaboration.{Elaborated, items, nothing_found, program_with, program_of}
use Rattle.l2_program.specs.Checked.{CheckedTree}
use Rattle.l2_constant_laws.specs.Laws.{AreSmall}
use Rattle.l2_constant_laws.proofs.Small.{constants_law}
use Rattle.l2_constant_laws.proofs.Near.{thresholds_law}
use Rattle.l2_thresholds.proofs.Order.{rise, has_zero}
use Rattle.l2_front.specs.Programs.{small_program}
use Rattle.l2_text_laws.specs.Laws.{AreBounds, ThresholdsOfAText}

constants_small : (tokens : List Token) → AreSmall tokens → AreSmall (constants_of tokens)
constants_small [] h = tt
constants_small (t ∷ tokens) (a, r) = go (is_constant t.kind) (constants_small tokens r) where
  go : (b : Bool) → AreSmall (constants_of tokens) → AreSmall (cond b (t ∷ constants_of tokens) (constants_of tokens))
  go true k = (a, k)
  go false k = k

-- a program has the thresholds of its unit's constants
checked_thresholds : (s : SmallUnitTree) (p : ProgramTree) → program_of s ≡ Some p → p.thresholds ≡ thresholds_of s.constants
checked_thresholds s p e = go (items [] nothing_found s.items) e where
  go : (x : Option (Elaborated (List CheckedTree))) → option_map with_loop_sets (option_map (program_with s) x) ≡ Some p → p.thresholds ≡ thresholds_of s.constants
  go None e = cc
  go (Some r) e = let q : with_loop_sets (program_with s r) ≡ p = cc in ap (λ (x : ProgramTree). x.thresholds) (sym q)

unit_thresholds : (u : UnitTree) (p : ProgramTree) → small_program u ≡ Some p → p.thresholds ≡ thresholds_of u.constants
unit_thresholds u p e = go (small_externals u.names u.externals) e where
  go : (x : Option MainTree) → and_then (option_map (unit_with u.names u.constants) x) program_of ≡ Some p → p.thresholds ≡ thresholds_of u.constants
  go None e = cc
  go (Some m) e = checked_thresholds (unit_with u.names u.constants m) p e

bounds_of : (constants : List Token) → AreSmall constants → AreBounds (thresholds_of constants)
bounds_of constants h = record { rise = rise constants; zero = has_zero constants; few = thresholds_law constants h }

pub text_thresholds : ThresholdsOfAText
text_thresholds text p bytes h =
    let constants = constants_small (tokens_of text).list (constants_law text bytes) in
    let small = subst AreSmall (sym h.spelt.constants) constants in
    subst AreBounds (sym (unit_thresholds h.unit p h.program)) (bounds_of h.unit.constants small)
