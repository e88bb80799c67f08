-- Declarators, as the lists that code goes over.
use Rattle.std.proofs.Common.{◌≡◌, List, [], ◌∷◌, Option, refl, ap, ◌∙◌}
use Rattle.l2_syntax.specs.declared.place.Place.{Place}
use Rattle.l2_tree.specs.declared.operators.SpecifierWord.{SpecifierWord}
use Rattle.l2_tree.specs.declared.expression.Declarator.{Declarator}
use Rattle.l2_tree.specs.declared.expression.Declared as declared_code
use Rattle.l2_tree.specs.declared.expression.Declared.{Declared}
use Rattle.l2_tree.specs.declared.expression.Initialiser.{Initialiser}
use Rattle.l2_tree.specs.Trees.{DeclaredTrees, and_declarator}
use Rattle.l2_tree.specs.Units.{declarator_tree, declared_tree, declarators_onto}
use Rattle.l2_tree.proofs.Declarations.{declared_tree-Plain, declared_tree-Initialised}
use Rattle.l2_tree_names.specs.Declarators.{name_of, parameters_of}
use Rattle.l2_types.specs.declared.state.Named.{Named}
use Rattle.l2_types_unit.specs.Defined.{with_variable, uninitialised, with_declarator, with_declarators}

pub plain_declarator : (w : Option SpecifierWord) (vs : List Named) (x : Declared) (d : Declarator) → x ≡ declared_code.Plain d →
    with_declarator w vs (declared_tree x) ≡ uninitialised w vs (declarator_tree d)
plain_declarator w vs x d e = ap (λ z. with_declarator w vs (declared_tree z)) e ∙ ap (with_declarator w vs) (declared_tree-Plain d)

pub initialised_declarator : (w : Option SpecifierWord) (vs : List Named) (x : Declared) (d : Declarator) (q : Place) (i : Initialiser) → x ≡ declared_code.Initialised d q i →
    with_declarator w vs (declared_tree x) ≡ with_variable vs (name_of (declarator_tree d)) (parameters_of (declarator_tree d))
initialised_declarator w vs x d q i e = ap (λ z. with_declarator w vs (declared_tree z)) e ∙ ap (with_declarator w vs) (declared_tree-Initialised d q i)

pub ruleset one_declarator = (plain_declarator, initialised_declarator)

-- these declarators more
abbrev pub declarators_from : Option SpecifierWord → List Named → List Declared → List Named
declarators_from w vs [] = vs
declarators_from w vs (d ∷ rest) = declarators_from w (with_declarator w vs (declared_tree d)) rest

pub declarators_are : (w : Option SpecifierWord) (vs : List Named) (ds : DeclaredTrees) (all : List Declared) →
    with_declarators w vs (declarators_onto ds all) ≡ declarators_from w (with_declarators w vs ds) all
declarators_are w vs ds [] = refl
declarators_are w vs ds (d ∷ rest) = declarators_are w vs (and_declarator ds (declared_tree d)) rest

pub ruleset declarator_rows = (declarators_are)
