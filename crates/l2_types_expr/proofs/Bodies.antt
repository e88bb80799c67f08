-- Enumerators and specifiers, as the lists that code goes over.
use Rattle.std.proofs.Common.{◌≡◌, ℤ, List, [], ◌∷◌, Option, refl, ap, ◌∙◌}
use Rattle.std.specs.Prelude.{Bool}
use Rattle.l2_syntax.specs.declared.place.Place.{Place}
use Rattle.l2_tree.specs.declared.expression.Tag.{Tag}
use Rattle.l2_tree.specs.declared.expression.Specifier as specifier
use Rattle.l2_tree.specs.declared.expression.Specifier.{Specifier}
use Rattle.l2_tree.specs.declared.expression.Enumerator.{Enumerator}
use Rattle.l2_tree.specs.declared.expression.Enumerators.{Enumerators}
use Rattle.l2_tree.specs.Trees.{EnumeratorTrees, and_enumerator, SpecifierTrees, and_specifier}
use Rattle.l2_tree.specs.Units.{specifier_tree, specifiers_onto, enumerator_tree, enumerators_onto, enumerators_tree}
use Rattle.l2_tree.proofs.Declarations.{specifier_tree-EnumBody}
use Rattle.l2_types.specs.States.{State, Seen, next, state_of}
use Rattle.l2_types_expr.specs.Enumerators.{with_enum_tag}
use Rattle.l2_types_expr.specs.Expressions.{enumerated, enum_body, enumerators, enumerator}

-- these enumerators more
abbrev pub enumerators_from : List Enumerator → Seen (Option ℤ) → Seen (Option ℤ)
enumerators_from [] r = r
enumerators_from (e ∷ rest) r = enumerators_from rest (next r (λ v t. enumerator (enumerator_tree e) v t))

pub enumerators_onto_is : (es : EnumeratorTrees) (all : List Enumerator) (s : State) → enumerators (enumerators_onto es all) s ≡ enumerators_from all (enumerators es s)
enumerators_onto_is es [] s = refl
enumerators_onto_is es (e ∷ rest) s = enumerators_onto_is (and_enumerator es (enumerator_tree e)) rest s

-- these specifiers more
abbrev pub enumerated_from : List Specifier → State → State
enumerated_from [] s = s
enumerated_from (x ∷ rest) s = enumerated_from rest (enum_body (specifier_tree x) s)

pub enumerated_onto_is : (xs : SpecifierTrees) (all : List Specifier) (s : State) → enumerated (specifiers_onto xs all) s ≡ enumerated_from all (enumerated xs s)
enumerated_onto_is xs [] s = refl
enumerated_onto_is xs (x ∷ rest) s = enumerated_onto_is (and_specifier xs (specifier_tree x)) rest s

pub body_is : (x : Specifier) (p : Place) (t : Option Tag) (q : Place) (es : Enumerators) (b : Bool) (s : State) → x ≡ specifier.EnumBody p t q es b →
    enum_body (specifier_tree x) s ≡ state_of (enumerators (enumerators_tree es) (with_enum_tag t s))
body_is x p t q es b s h = ap (λ z. enum_body (specifier_tree z) s) h ∙ ap (λ z. enum_body z s) (specifier_tree-EnumBody p t q es b)

pub ruleset bodies = (enumerators_onto_is, enumerated_onto_is, body_is)
