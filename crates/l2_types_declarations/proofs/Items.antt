-- Items of initialisers, as the lists that code goes over.
use Rattle.std.proofs.Common.{◌≡◌, List, [], ◌∷◌, refl, ap, ◌∙◌}
use Rattle.std.specs.Prelude.{Bool}
use Rattle.l2_syntax.specs.declared.place.Place.{Place}
use Rattle.l2_tree.specs.declared.expression.Initialiser as initialiser
use Rattle.l2_tree.specs.declared.expression.Initialisers.{Initialisers}
use Rattle.l2_tree.proofs.Declarations.{initialiser_tree-Braced}
use Rattle.l2_tree.specs.declared.expression.Initialiser.{Initialiser}
use Rattle.l2_tree.specs.Trees.{InitialiserTrees, and_initialiser}
use Rattle.l2_tree.specs.Units.{initialiser_tree, initialisers_onto, initialisers_tree}
use Rattle.l2_types.specs.States.{State}
use Rattle.l2_types_declarations.specs.Initialisers.{first_item, item_of, looked, all_looked, misplaced, items_surplus, surplus}

pub first_item_is : (is : InitialiserTrees) (all : List Initialiser) → first_item (initialisers_onto is all) ≡ first_item is
first_item_is is [] = refl
first_item_is is (i ∷ rest) = first_item_is (and_initialiser is (initialiser_tree i)) rest

-- these items more
abbrev pub looked_from : List Initialiser → State → State
looked_from [] s = s
looked_from (i ∷ rest) s = looked_from rest (looked (initialiser_tree i) s)

pub all_looked_are : (is : InitialiserTrees) (all : List Initialiser) (s : State) → all_looked (initialisers_onto is all) s ≡ looked_from all (all_looked is s)
all_looked_are is [] s = refl
all_looked_are is (i ∷ rest) s = all_looked_are (and_initialiser is (initialiser_tree i)) rest s

abbrev pub surplus_from : List Initialiser → State → State
surplus_from [] s = s
surplus_from (i ∷ rest) s = surplus_from rest (misplaced (initialiser_tree i) s)

pub items_surplus_are : (is : InitialiserTrees) (all : List Initialiser) (s : State) → items_surplus (initialisers_onto is all) s ≡ surplus_from all (items_surplus is s)
items_surplus_are is [] s = refl
items_surplus_are is (i ∷ rest) s = items_surplus_are (and_initialiser is (initialiser_tree i)) rest s

pub ruleset items = (first_item_is, all_looked_are, items_surplus_are)

-- initialisers in braces
pub item_braced : (i : Initialiser) (p : Place) (ns : Initialisers) (b : Bool) → i ≡ initialiser.Braced p ns b → item_of (initialiser_tree i) ≡ first_item (initialisers_tree ns)
item_braced i p ns b h = ap (λ z. item_of (initialiser_tree z)) h ∙ ap item_of (initialiser_tree-Braced p ns b)

pub looked_braced : (i : Initialiser) (p : Place) (ns : Initialisers) (b : Bool) (s : State) → i ≡ initialiser.Braced p ns b → looked (initialiser_tree i) s ≡ all_looked (initialisers_tree ns) s
looked_braced i p ns b s h = ap (λ z. looked (initialiser_tree z) s) h ∙ ap (λ z. looked z s) (initialiser_tree-Braced p ns b)

pub surplus_braced : (i : Initialiser) (p : Place) (ns : Initialisers) (b : Bool) (s : State) → i ≡ initialiser.Braced p ns b → surplus (initialiser_tree i) s ≡ items_surplus (initialisers_tree ns) s
surplus_braced i p ns b s h = ap (λ z. surplus (initialiser_tree z) s) h ∙ ap (λ z. surplus z s) (initialiser_tree-Braced p ns b)

pub ruleset braced = (item_braced, looked_braced, surplus_braced)
