-- Declarators, as the lists that code goes over.
use Rattle.std.proofs.Common.{◌≡◌, List, [], ◌∷◌, ◌++◌, Bool, true, false, Option, refl, ap, ◌∙◌}
use Rattle.std.specs.Prelude.{map}
use Rattle.l2_syntax.specs.declared.place.Place.{Place}
use Rattle.l2_tree.specs.declared.operators.SpecifierWord.{SpecifierWord}
use Rattle.l2_tree.specs.declared.expression.Declarator.{Declarator}
use Rattle.l2_tree.specs.declared.expression.Declared as declared_code
use Rattle.l2_tree.specs.declared.expression.Declared.{Declared}
use Rattle.l2_tree.specs.declared.expression.Initialiser.{Initialiser}
use Rattle.l2_tree.specs.Trees.{DeclaredTrees, and_declarator}
use Rattle.l2_tree.specs.Units.{declarator_tree, declared_tree, declarators_onto, initialiser_tree}
use Rattle.l2_tree.proofs.Declarations.{declared_tree-Plain, declared_tree-Initialised}
use Rattle.l2_tree_names.specs.Declarators.{name_of}
use Rattle.l2_types.specs.States.{State, Seen, saw, next}
use Rattle.l2_types_expr.specs.declared.type_names.BaseName.{BaseName}
use Rattle.l2_types_declarations.specs.declared.types.Item.{Item}
use Rattle.l2_types_declarations.specs.Initialisers.{ItemTree, item_tree, begins, without}
use Rattle.l2_types_declarations.specs.Declarations.{also, target_for, declarator, declarators, type_declared, type_declarator, type_declarators}

pub plain_declarator : (w : Option SpecifierWord) (b : BaseName) (c : Bool) (p : Place) (x : Declared) (d : Declarator) (s : State) → x ≡ declared_code.Plain d →
    declarator w b c p (declared_tree x) s ≡ next (target_for w false b c p (declarator_tree d) (name_of (declarator_tree d)) s) (λ t u. saw (without t) u)
plain_declarator w b c p x d s e = ap (λ z. declarator w b c p (declared_tree z) s) e ∙ ap (λ z. declarator w b c p z s) (declared_tree-Plain d)

pub initialised_declarator : (w : Option SpecifierWord) (b : BaseName) (c : Bool) (p : Place) (x : Declared) (d : Declarator) (q : Place) (i : Initialiser) (s : State) → x ≡ declared_code.Initialised d q i →
    declarator w b c p (declared_tree x) s ≡ next (target_for w true b c p (declarator_tree d) (name_of (declarator_tree d)) s) (λ t u. begins t (initialiser_tree i) u)
initialised_declarator w b c p x d q i s e = ap (λ z. declarator w b c p (declared_tree z) s) e ∙ ap (λ z. declarator w b c p z s) (declared_tree-Initialised d q i)

pub plain_type_declarator : (b : BaseName) (c : Bool) (p : Place) (x : Declared) (d : Declarator) (s : State) → x ≡ declared_code.Plain d →
    type_declarator b c p (declared_tree x) s ≡ type_declared b c p (declarator_tree d) (name_of (declarator_tree d)) s
plain_type_declarator b c p x d s e = ap (λ z. type_declarator b c p (declared_tree z) s) e ∙ ap (λ z. type_declarator b c p z s) (declared_tree-Plain d)

pub initialised_type_declarator : (b : BaseName) (c : Bool) (p : Place) (x : Declared) (d : Declarator) (q : Place) (i : Initialiser) (s : State) → x ≡ declared_code.Initialised d q i →
    type_declarator b c p (declared_tree x) s ≡ type_declared b c p (declarator_tree d) (name_of (declarator_tree d)) s
initialised_type_declarator b c p x d q i s e = ap (λ z. type_declarator b c p (declared_tree z) s) e ∙ ap (λ z. type_declarator b c p z s) (declared_tree-Initialised d q i)

pub ruleset one_declarator = (plain_declarator, initialised_declarator, plain_type_declarator, initialised_type_declarator)

pub items-end : (xs : List Item) (x : Item) → map item_tree (xs ++ x ∷ []) ≡ map item_tree xs ++ item_tree x ∷ []
items-end [] x = refl
items-end (y ∷ xs) x = ap (λ r. item_tree y ∷ r) (items-end xs x)

pub ruleset item_rows = (items-end)

-- these declarators more
abbrev pub declarators_from : Option SpecifierWord → BaseName → Bool → Place → List Declared → Seen (List ItemTree) → Seen (List ItemTree)
declarators_from w b c p [] r = r
declarators_from w b c p (d ∷ rest) r = declarators_from w b c p rest (next r (λ xs t. next (declarator w b c p (declared_tree d) t) (λ o u. saw (also xs o) u)))

pub declarators_are : (w : Option SpecifierWord) (b : BaseName) (c : Bool) (p : Place) (ds : DeclaredTrees) (all : List Declared) (s : State) →
    declarators w b c p (declarators_onto ds all) s ≡ declarators_from w b c p all (declarators w b c p ds s)
declarators_are w b c p ds [] s = refl
declarators_are w b c p ds (d ∷ rest) s = declarators_are w b c p (and_declarator ds (declared_tree d)) rest s

pub ruleset declarator_rows = (declarators_are)

abbrev pub type_declarators_from : BaseName → Bool → Place → List Declared → State → State
type_declarators_from b c p [] s = s
type_declarators_from b c p (d ∷ rest) s = type_declarators_from b c p rest (type_declarator b c p (declared_tree d) s)

pub type_declarators_are : (b : BaseName) (c : Bool) (p : Place) (ds : DeclaredTrees) (all : List Declared) (s : State) →
    type_declarators b c p (declarators_onto ds all) s ≡ type_declarators_from b c p all (type_declarators b c p ds s)
type_declarators_are b c p ds [] s = refl
type_declarators_are b c p ds (d ∷ rest) s = type_declarators_are b c p (and_declarator ds (declared_tree d)) rest s

pub ruleset type_rows = (type_declarators_are)
