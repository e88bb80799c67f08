-- Where the type begins that specifiers name, and what code says of it.
use Rattle.std.specs.Prelude.{◌≡◌, Option, None, Some}
use Rattle.l2_syntax.specs.declared.place.Place.{Place}
use Rattle.l2_grammar.specs.declared.states.Sort.{Sort}
use Rattle.l2_grammar.specs.Trees.{Fits}
use Rattle.l2_tree.specs.Trees.{SpecifierTree, SpecifierTrees, first_specifier, and_specifier, DeclaredTrees, Declaration}
use Rattle.l2_tree.specs.Build.{some_or}
use Rattle.l2_tree.specs.Spelling.{run_declaration}
use Rattle.l2_tree.specs.Units.{specifier_tree}
use Rattle.l2_tree_laws.specs.Places.{specifier_place}
use Rattle.l2_tree_laws.specs.Specifiers as laws
use Rattle.l2_tree_laws.specs.Specifiers.{Base, storage_word}
use Rattle.l2_tree_names.specs.declared.specifiers.BaseType.{BaseType}
use Rattle.l2_tree_names.specs.declared.specifiers.BaseType.TheVariants as ty

-- a specifier's place, unless it is a word of storage
abbrev pub own_place : SpecifierTree → Option Place
own_place x = some_or (storage_word x) (λ w. None) (Some (specifier_place x))

-- the place of a type's first token: the first specifier that is no word of storage
abbrev pub base_place : SpecifierTrees → Option Place
base_place (first_specifier x) = own_place x
base_place (and_specifier xs x) = some_or (base_place xs) (λ p. Some p) (own_place x)

-- what a type of code is for
abbrev pub base_tree : BaseType → Base
base_tree ty.Void = laws.void
base_tree (ty.Number s) = laws.number s
base_tree (ty.Named n p) = laws.type_name n p
base_tree (ty.Tagged x) = laws.tagged (specifier_tree x.now)

-- the specifiers of a declaration that may stand somewhere have such a place
abbrev pub BasePlaceLaw : Type 0
BasePlaceLaw = (s : Sort) (xs : SpecifierTrees) (ds : DeclaredTrees) → Fits (run_declaration s (Declaration xs ds)) → base_place xs ≡ None → ⊥
