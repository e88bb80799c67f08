-- The one external of a text, and the parts of its declarator.
use Rattle.std.proofs.Common.{◌≡◌, ◌≢◌, ℕ, false, List, [], ◌∷◌, length, get_or, map, None, refl, ap, sym, ◌∙◌, arith}
use Rattle.std.specs.Prelude.{◌&&◌, if◌then◌else◌, Some}
use Rattle.std.specs.declared.vec.Vec.{Vec}
use Rattle.std.specs.declared.alloc.Global.{Global}
use Rattle.l2_syntax.specs.declared.place.Place.{Place}
use Rattle.l2_syntax.specs.declared.token.Name.{Name as NameText}
use Rattle.l2_tree.specs.declared.expression.Specifiers.{Specifiers}
use Rattle.l2_tree.specs.declared.expression.Parameter as parameter
use Rattle.l2_tree.specs.declared.expression.Parameter.{Parameter}
use Rattle.l2_tree.specs.declared.expression.Declarator as declarator
use Rattle.l2_tree.specs.declared.expression.Pointer.{Pointer}
use Rattle.l2_tree.specs.declared.expression.Suffix as suffix
use Rattle.l2_tree.specs.declared.expression.Suffix.{Suffix}
use Rattle.l2_tree.specs.declared.unit.External.{External}
use Rattle.l2_tree.specs.Trees.{ParameterTree, ParameterTrees, no_parameters, and_parameter, DeclaratorTree, Declarator, CoreTree, Absent, Named, Group, SuffixTree, SuffixTrees, no_suffixes, and_suffix}
use Rattle.l2_tree.specs.Units.{specifiers_tree, parameter_tree, parameters_onto, suffix_tree, suffixes_onto, external_tree}
use Rattle.l2_tree.proofs.Declarations.{core_tree-Group, suffix_tree-Parameters, parameter_tree-Plain, parameter_tree-Declared}
use Rattle.l2_small.specs.Words.{is_main}
use Rattle.l2_small.specs.SmallForm.{word_alone, is_void, is_nothing, takes_nothing, main_place, small_external, small_externals}

-- ---- parameters

pub is_nothing-Plain : (x : Parameter) (xs : Specifiers) → x ≡ parameter.Plain xs →
    is_nothing (and_parameter no_parameters (parameter_tree x)) ≡ is_void (word_alone (specifiers_tree xs))
is_nothing-Plain x xs h = ap (λ z. is_nothing (and_parameter no_parameters (parameter_tree z))) h ∙ ap (λ z. is_nothing (and_parameter no_parameters z)) (parameter_tree-Plain xs)

pub is_nothing-Declared : (x : Parameter) (xs : Specifiers) (d : declarator.Declarator) → x ≡ parameter.Declared xs d → is_nothing (and_parameter no_parameters (parameter_tree x)) ≡ false
is_nothing-Declared x xs d h = ap (λ z. is_nothing (and_parameter no_parameters (parameter_tree z))) h ∙ ap (λ z. is_nothing (and_parameter no_parameters z)) (parameter_tree-Declared xs d)

parameter_later : (ps : ParameterTrees) (a b : ParameterTree) (all : List Parameter) → is_nothing (parameters_onto (and_parameter (and_parameter ps a) b) all) ≡ false
parameter_later ps a b [] = refl
parameter_later ps a b (x ∷ all) = parameter_later (and_parameter ps a) b (parameter_tree x) all

pub is_nothing-one : (all : List Parameter) (x : Parameter) → length all ≡ 1 → x ≡ get_or all 0 x → is_nothing (parameters_onto no_parameters all) ≡ is_nothing (and_parameter no_parameters (parameter_tree x))
is_nothing-one [] x h e = absurd (omega arith)
is_nothing-one (y ∷ []) x h e = ap (λ z. is_nothing (and_parameter no_parameters (parameter_tree z))) (sym e)
is_nothing-one (y ∷ z ∷ more) x h e = absurd (omega arith)

pub is_nothing-other : (all : List Parameter) → length all ≢ 1 → is_nothing (parameters_onto no_parameters all) ≡ false
is_nothing-other [] h = refl
is_nothing-other (y ∷ []) h = absurd (h refl)
is_nothing-other (y ∷ z ∷ more) h = parameter_later no_parameters (parameter_tree y) (parameter_tree z) more

pub ruleset parameters = (is_nothing-Plain, is_nothing-Declared, is_nothing-one, is_nothing-other)

-- ---- what stands behind a name

pub takes_nothing-Parameters : (x : Suffix) (p : Place) (ps : Vec Parameter Global) → x ≡ suffix.Parameters p ps → takes_nothing (and_suffix no_suffixes (suffix_tree x)) ≡ is_nothing (parameters_onto no_parameters ps.items)
takes_nothing-Parameters x p ps h = ap (λ z. takes_nothing (and_suffix no_suffixes (suffix_tree z))) h ∙ ap (λ z. takes_nothing (and_suffix no_suffixes z)) (suffix_tree-Parameters p ps)

suffix_later : (xs : SuffixTrees) (a b : SuffixTree) (all : List Suffix) → takes_nothing (suffixes_onto (and_suffix (and_suffix xs a) b) all) ≡ false
suffix_later xs a b [] = refl
suffix_later xs a b (x ∷ all) = suffix_later (and_suffix xs a) b (suffix_tree x) all

pub takes_nothing-one : (all : List Suffix) (x : Suffix) → length all ≡ 1 → x ≡ get_or all 0 x → takes_nothing (suffixes_onto no_suffixes all) ≡ takes_nothing (and_suffix no_suffixes (suffix_tree x))
takes_nothing-one [] x h e = absurd (omega arith)
takes_nothing-one (y ∷ []) x h e = ap (λ z. takes_nothing (and_suffix no_suffixes (suffix_tree z))) (sym e)
takes_nothing-one (y ∷ z ∷ more) x h e = absurd (omega arith)

pub takes_nothing-other : (all : List Suffix) → length all ≢ 1 → takes_nothing (suffixes_onto no_suffixes all) ≡ false
takes_nothing-other [] h = refl
takes_nothing-other (y ∷ []) h = absurd (h refl)
takes_nothing-other (y ∷ z ∷ more) h = suffix_later no_suffixes (suffix_tree y) (suffix_tree z) more

pub ruleset suffixes = (takes_nothing-Parameters, takes_nothing-one, takes_nothing-other)

-- ---- declarators

pub main_place-pointed : (names : List NameText) (ps : List Pointer) (c : CoreTree) (xs : SuffixTrees) → length ps ≢ 0 → main_place names (Declarator ps c xs) ≡ None
main_place-pointed names [] c xs h = absurd (h refl)
main_place-pointed names (p ∷ ps) c xs h = refl

pub main_place-named : (names : List NameText) (ps : List Pointer) (n : ℕ) (p : Place) (xs : SuffixTrees) → length ps ≡ 0 →
    main_place names (Declarator ps (Named n p) xs) ≡ (if is_main names n && takes_nothing xs then Some p else None)
main_place-named names [] n p xs h = refl
main_place-named names (q ∷ ps) n p xs h = absurd (omega arith)

pub main_place-absent : (names : List NameText) (ps : List Pointer) (xs : SuffixTrees) → main_place names (Declarator ps Absent xs) ≡ None
main_place-absent names [] xs = refl
main_place-absent names (p ∷ ps) xs = refl

pub main_place-group : (names : List NameText) (ps : List Pointer) (p : Place) (d : DeclaratorTree) (xs : SuffixTrees) → main_place names (Declarator ps (Group p d) xs) ≡ None
main_place-group names [] p d xs = refl
main_place-group names (q ∷ ps) p d xs = refl

pub ruleset mains = (main_place-pointed, main_place-named, main_place-absent, main_place-group, core_tree-Group)

-- ---- externals

pub small_externals-one : (names : List NameText) (all : List External) (x : External) → length all ≡ 1 → x ≡ get_or all 0 x → small_externals names (map external_tree all) ≡ small_external names (external_tree x)
small_externals-one names [] x h e = absurd (omega arith)
small_externals-one names (y ∷ []) x h e = ap (λ z. small_external names (external_tree z)) (sym e)
small_externals-one names (y ∷ z ∷ more) x h e = absurd (omega arith)

pub small_externals-other : (names : List NameText) (all : List External) → length all ≢ 1 → small_externals names (map external_tree all) ≡ None
small_externals-other names [] h = refl
small_externals-other names (y ∷ []) h = absurd (h refl)
small_externals-other names (y ∷ z ∷ more) h = refl

pub ruleset externals = (small_externals-one, small_externals-other)
