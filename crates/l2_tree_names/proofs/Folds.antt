-- What is found among specifiers, by going over them.
use Rattle.std.proofs.Common.{◌≡◌, List, [], ◌∷◌, Option, Some, refl}
use Rattle.l2_tree.specs.declared.operators.SpecifierWord.{SpecifierWord}
use Rattle.l2_tree.specs.declared.expression.Specifier.{Specifier}
use Rattle.l2_tree.specs.Trees.{SpecifierTrees, and_specifier}
use Rattle.l2_tree.specs.Build.{some_or}
use Rattle.l2_tree.specs.Units.{specifier_tree, specifiers_onto}
use Rattle.l2_syntax.specs.declared.place.Place.{Place}
use Rattle.l2_tree_laws.specs.Specifiers.{Base, storage_word, storage_of, other, other_of}
use Rattle.l2_tree_names.specs.declared.specifiers.NumberWords.{NumberWords}
use Rattle.l2_tree_names.specs.Specifiers.{own_place, base_place}
use Rattle.l2_tree_names.specs.Numbers.{add_specifier, words_of}

-- the word of storage behind one that was found
abbrev pub storage_behind : Option SpecifierWord → List Specifier → Option SpecifierWord
storage_behind o [] = o
storage_behind o (x ∷ xs) = storage_behind (some_or (storage_word (specifier_tree x)) (λ w. Some w) o) xs

pub storage_fold : (front : SpecifierTrees) (xs : List Specifier) → storage_of (specifiers_onto front xs) ≡ storage_behind (storage_of front) xs
storage_fold front [] = refl
storage_fold front (x ∷ xs) = storage_fold (and_specifier front (specifier_tree x)) xs

-- the place of a type behind one that was found
abbrev pub place_behind : Option Place → List Specifier → Option Place
place_behind o [] = o
place_behind o (x ∷ xs) = place_behind (some_or o (λ p. Some p) (own_place (specifier_tree x))) xs

pub place_fold : (front : SpecifierTrees) (xs : List Specifier) → base_place (specifiers_onto front xs) ≡ place_behind (base_place front) xs
place_fold front [] = refl
place_fold front (x ∷ xs) = place_fold (and_specifier front (specifier_tree x)) xs

-- the type behind one that was found
abbrev pub other_behind : Option Base → List Specifier → Option Base
other_behind o [] = o
other_behind o (x ∷ xs) = other_behind (some_or (other (specifier_tree x)) (λ b. Some b) o) xs

pub other_fold : (front : SpecifierTrees) (xs : List Specifier) → other_of (specifiers_onto front xs) ≡ other_behind (other_of front) xs
other_fold front [] = refl
other_fold front (x ∷ xs) = other_fold (and_specifier front (specifier_tree x)) xs

abbrev pub words_behind : NumberWords → List Specifier → NumberWords
words_behind t [] = t
words_behind t (x ∷ xs) = words_behind (add_specifier (specifier_tree x) t) xs

pub words_fold : (front : SpecifierTrees) (xs : List Specifier) → words_of (specifiers_onto front xs) ≡ words_behind (words_of front) xs
words_fold front [] = refl
words_fold front (x ∷ xs) = words_fold (and_specifier front (specifier_tree x)) xs

pub ruleset folds = (storage_fold, place_fold, other_fold, words_fold)
