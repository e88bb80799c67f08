-- `const` among specifiers, by going over them.
use Rattle.std.proofs.Common.{◌≡◌, List, [], ◌∷◌, Bool, refl}
use Rattle.std.specs.Prelude.{◌||◌}
use Rattle.l2_tree.specs.declared.expression.Specifier.{Specifier}
use Rattle.l2_tree.specs.Trees.{SpecifierTrees, and_specifier}
use Rattle.l2_tree.specs.Units.{specifier_tree, specifiers_onto}
use Rattle.l2_types_declarations.specs.Forms.{const_word, has_const}

abbrev pub const_behind : Bool → List Specifier → Bool
const_behind b [] = b
const_behind b (x ∷ xs) = const_behind (b || const_word (specifier_tree x)) xs

pub const_fold : (front : SpecifierTrees) (xs : List Specifier) → has_const (specifiers_onto front xs) ≡ const_behind (has_const front) xs
const_fold front [] = refl
const_fold front (x ∷ xs) = const_fold (and_specifier front (specifier_tree x)) xs

pub ruleset folds = (const_fold)
