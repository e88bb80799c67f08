-- What is built of specifiers and behind them.
use Rattle.std.specs.Prelude.{ℕ, Option, Some, None, List}
use Rattle.l2_syntax.specs.declared.place.Place.{Place}
use Rattle.l2_syntax.specs.declared.token.TokenKind.{TokenKind}
use Rattle.l2_syntax.specs.declared.token.TokenKind.TheVariants as kind
use Rattle.l2_tree.specs.declared.expression.Specifier.{Specifier}
use Rattle.l2_tree.specs.Trees.{SpecifierTree, SpecifierTrees, ParameterTree}
use Rattle.l2_tree.specs.Units.{specifier_tree, parameter_tree}
use Rattle.l2_tree.specs.Build.{Part, add_specifier, ended, specifiers}
use Rattle.l2_build.specs.declared.specifiers.OneSpecifier.{OneSpecifier}
use Rattle.l2_build.specs.declared.types.TypeName.{TypeName}
use Rattle.l2_build.specs.Parts.{parts_of}

-- with one more specifier the others follow
abbrev pub goes_on_with : Option SpecifierTrees → OneSpecifier → Option (SpecifierTrees × List Part)
goes_on_with xs r = specifiers (Some (add_specifier xs (specifier_tree r.value.value))) (parts_of r.rest.now)

-- with one more specifier the others follow, and without one they end
abbrev pub goes_on_or : Option SpecifierTrees → Option OneSpecifier → List Part → Option (SpecifierTrees × List Part)
goes_on_or xs None ps = ended xs ps
goes_on_or xs (Some r) ps = goes_on_with xs r

abbrev pub type_name_tree : TypeName → Place × ParameterTree
type_name_tree t = (t.place, parameter_tree t.named.value)

abbrev pub perhaps_specifier : Option Specifier → Option SpecifierTree
perhaps_specifier None = None
perhaps_specifier (Some x) = Some (specifier_tree x)

-- the number of a name
abbrev pub word_number : TokenKind → Option ℕ
word_number (kind.Word n) = Some n
word_number k = None
