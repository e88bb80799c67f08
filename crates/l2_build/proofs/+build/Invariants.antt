use Rattle.std.proofs.Common.{◌≡◌, ℕ, ◌+◌, ◌*◌, ◌≤◌, ◌<◌, Bool, Option, Some, None, [], ◌∷◌}
use Rattle.l2_tree.specs.Build.{tail, arguments, members, enumerators, behind_enumerator, specifiers, suffixes, behind_parameter, behind_item, declarators}
use Rattle.l2_tree.specs.Trees.{SpecifierTrees, DeclarationTrees, EnumeratorTrees, SuffixTrees, no_exprs, no_declarations, first_enumerator, first_specifier, no_parameters, no_suffixes, first_initialiser, no_declarators}
use Rattle.l2_tree.specs.Units.{expr_tree, exprs_onto, declarations_onto, enumerator_tree, enumerators_onto, specifier_tree, specifiers_onto, parameters_onto, parameter_tree, suffixes_onto, initialiser_tree, initialisers_onto, declarators_onto}
use Rattle.l2_build.specs.Parts.{parts_of, size_of}
use Rattle.l2_build.proofs.+build.Given as goal

abbrev pub decreases-expressions::with_unary : goal.decreases-expressions::with_unary
decreases-expressions::with_unary l = 16 * size_of l.parts.now

abbrev pub decreases-expressions::with_update : goal.decreases-expressions::with_update
decreases-expressions::with_update l = 16 * size_of l.parts.now

abbrev pub decreases-expressions::with_size : goal.decreases-expressions::with_size
decreases-expressions::with_size l = 16 * size_of l.parts.now

abbrev pub decreases-expressions::with_cast : goal.decreases-expressions::with_cast
decreases-expressions::with_cast l = 16 * (size_of l.type_name.now + size_of l.parts.now)

abbrev pub decreases-expressions::with_parenthesis : goal.decreases-expressions::with_parenthesis
decreases-expressions::with_parenthesis l = 16 * size_of l.parts.now

abbrev pub decreases-expressions::opened : goal.decreases-expressions::opened
decreases-expressions::opened l = 16 * size_of l.parts.now + 1

abbrev pub decreases-expressions::expr_of : goal.decreases-expressions::expr_of
decreases-expressions::expr_of l = 16 * size_of l.parts.now + 3

abbrev pub decreases-operands::with_binary : goal.decreases-operands::with_binary
decreases-operands::with_binary l = 16 * size_of l.parts.now

abbrev pub decreases-operands::with_assignment : goal.decreases-operands::with_assignment
decreases-operands::with_assignment l = 16 * size_of l.parts.now

abbrev pub decreases-operands::with_comma : goal.decreases-operands::with_comma
decreases-operands::with_comma l = 16 * size_of l.parts.now

abbrev pub decreases-operands::with_index : goal.decreases-operands::with_index
decreases-operands::with_index l = 16 * size_of l.parts.now

abbrev pub decreases-operands::with_choice : goal.decreases-operands::with_choice
decreases-operands::with_choice l = 16 * size_of l.parts.now

abbrev pub decreases-operands::behind_argument : goal.decreases-operands::behind_argument
decreases-operands::behind_argument l = 16 * size_of l.parts.now

abbrev pub decreases-operands::with_call : goal.decreases-operands::with_call
decreases-operands::with_call l = 16 * size_of l.parts.now

abbrev pub decreases-operands::continued : goal.decreases-operands::continued
decreases-operands::continued l = 16 * size_of l.parts.now + 1

abbrev pub decreases-operands::tail : goal.decreases-operands::tail
decreases-operands::tail l = 16 * size_of l.parts.now + 2

abbrev pub decreases-specifiers::members : goal.decreases-specifiers::members
decreases-specifiers::members l = 16 * size_of l.parts.now

abbrev pub decreases-specifiers::struct_body : goal.decreases-specifiers::struct_body
decreases-specifiers::struct_body l = 16 * size_of l.parts.now

abbrev pub decreases-specifiers::struct_tag : goal.decreases-specifiers::struct_tag
decreases-specifiers::struct_tag l = 16 * size_of l.parts.now + 1

abbrev pub decreases-specifiers::enumerator : goal.decreases-specifiers::enumerator
decreases-specifiers::enumerator l = 16 * size_of l.parts.now + 1

abbrev pub decreases-specifiers::enumerators : goal.decreases-specifiers::enumerators
decreases-specifiers::enumerators l = 16 * size_of l.parts.now + 2

abbrev pub decreases-specifiers::enum_body : goal.decreases-specifiers::enum_body
decreases-specifiers::enum_body l = 16 * size_of l.parts.now + 3

abbrev pub decreases-specifiers::enum_tag : goal.decreases-specifiers::enum_tag
decreases-specifiers::enum_tag l = 16 * size_of l.parts.now + 4

abbrev pub decreases-specifiers::struct_of : goal.decreases-specifiers::struct_of
decreases-specifiers::struct_of l = 16 * size_of l.parts.now + 4

abbrev pub decreases-specifiers::enum_of : goal.decreases-specifiers::enum_of
decreases-specifiers::enum_of l = 16 * size_of l.parts.now + 5

abbrev pub decreases-specifiers::specifier : goal.decreases-specifiers::specifier
decreases-specifiers::specifier l = 16 * size_of l.parts.now + 6

abbrev pub decreases-specifiers::specifiers_of : goal.decreases-specifiers::specifiers_of
decreases-specifiers::specifiers_of l = 16 * size_of l.parts.now + 7

abbrev pub decreases-declarators::group : goal.decreases-declarators::group
decreases-declarators::group l = 16 * (size_of l.inner.now + size_of l.parts.now)

abbrev pub decreases-declarators::core_of : goal.decreases-declarators::core_of
decreases-declarators::core_of l = 16 * size_of l.parts.now + 1

abbrev pub decreases-declarators::array : goal.decreases-declarators::array
decreases-declarators::array l = 16 * size_of l.parts.now

abbrev pub decreases-declarators::behind_parameter : goal.decreases-declarators::behind_parameter
decreases-declarators::behind_parameter l = 16 * size_of l.parts.now

abbrev pub decreases-declarators::parameters : goal.decreases-declarators::parameters
decreases-declarators::parameters l = 16 * size_of l.parts.now

abbrev pub decreases-declarators::suffix : goal.decreases-declarators::suffix
decreases-declarators::suffix l = 16 * size_of l.parts.now + 1

abbrev pub decreases-declarators::suffixes_of : goal.decreases-declarators::suffixes_of
decreases-declarators::suffixes_of l = 16 * size_of l.parts.now + 2

abbrev pub decreases-declarators::declarator_of : goal.decreases-declarators::declarator_of
decreases-declarators::declarator_of l = 16 * size_of l.parts.now + 3

abbrev pub decreases-types::parameter_of : goal.decreases-types::parameter_of
decreases-types::parameter_of l = 16 * size_of l.parts.now + 8

abbrev pub decreases-types::type_name_of : goal.decreases-types::type_name_of
decreases-types::type_name_of l = 16 * size_of l.parts.now

abbrev pub decreases-initialisers::behind_item : goal.decreases-initialisers::behind_item
decreases-initialisers::behind_item l = 16 * size_of l.parts.now

abbrev pub decreases-initialisers::initialiser_of : goal.decreases-initialisers::initialiser_of
decreases-initialisers::initialiser_of l = 16 * size_of l.parts.now + 4

abbrev pub decreases-declarations::one_declared : goal.decreases-declarations::one_declared
decreases-declarations::one_declared l = 16 * size_of l.parts.now

abbrev pub decreases-declarations::declarators : goal.decreases-declarations::declarators
decreases-declarations::declarators l = 16 * size_of l.parts.now + 1

abbrev pub decreases-declarations::declared : goal.decreases-declarations::declared
decreases-declarations::declared l = 16 * size_of l.parts.now + 3

abbrev pub decreases-declarations::declaration_of : goal.decreases-declarations::declaration_of
decreases-declarations::declaration_of l = 16 * size_of l.parts.now + 8

abbrev pub invariant-operands::behind_argument-loop-mark : goal.invariant-operands::behind_argument-loop-mark
invariant-operands::behind_argument-loop-mark l = record {
  so_far : arguments (expr_tree l.function.value) l.place (exprs_onto no_exprs l.all.items) (parts_of l.left) ≡ arguments (expr_tree l.fn.function.value) l.fn.place (exprs_onto no_exprs l.fn.arguments.items) (parts_of l.fn.parts);
  less : size_of l.left ≤ size_of l.fn.parts;
}

abbrev pub decreases-operands::behind_argument-loop-mark : goal.decreases-operands::behind_argument-loop-mark
decreases-operands::behind_argument-loop-mark l = size_of l.left

abbrev pub invariant-operands::tail-loop-operand : goal.invariant-operands::tail-loop-operand
invariant-operands::tail-loop-operand l = record {
  so_far : tail (expr_tree l.operand.value) (parts_of l.left) ≡ tail (expr_tree l.fn.value.value) (parts_of l.fn.parts);
  less : size_of l.left ≤ size_of l.fn.parts;
}

abbrev pub decreases-operands::tail-loop-operand : goal.decreases-operands::tail-loop-operand
decreases-operands::tail-loop-operand l = size_of l.left

abbrev pub invariant-specifiers::members-loop-inner : goal.invariant-specifiers::members-loop-inner
invariant-specifiers::members-loop-inner l = record {
  so_far : (f : DeclarationTrees → SpecifierTrees) → members f (declarations_onto no_declarations l.all.items) (parts_of l.left) ≡ members f no_declarations (parts_of l.fn.parts);
  less : size_of l.left ≤ size_of l.fn.parts;
}

abbrev pub decreases-specifiers::members-loop-inner : goal.decreases-specifiers::members-loop-inner
decreases-specifiers::members-loop-inner l = size_of l.left

abbrev pub invariant-specifiers::enumerators-loop-mark : goal.invariant-specifiers::enumerators-loop-mark
invariant-specifiers::enumerators-loop-mark l = record {
  so_far : (f : EnumeratorTrees → Bool → SpecifierTrees) → behind_enumerator f (enumerators_onto (first_enumerator (enumerator_tree l.first.value)) l.others.items) (parts_of l.left) ≡ enumerators f None (parts_of l.fn.parts);
  less : size_of l.left ≤ size_of l.fn.parts;
}

abbrev pub decreases-specifiers::enumerators-loop-mark : goal.decreases-specifiers::enumerators-loop-mark
decreases-specifiers::enumerators-loop-mark l = size_of l.left

abbrev pub invariant-specifiers::specifiers_of-loop-others : goal.invariant-specifiers::specifiers_of-loop-others
invariant-specifiers::specifiers_of-loop-others l = record {
  so_far : specifiers (Some (specifiers_onto (first_specifier (specifier_tree l.first.value)) l.others.items)) (parts_of l.left) ≡ specifiers None (parts_of l.fn.parts);
  less : size_of l.left ≤ size_of l.fn.parts;
}

abbrev pub decreases-specifiers::specifiers_of-loop-others : goal.decreases-specifiers::specifiers_of-loop-others
decreases-specifiers::specifiers_of-loop-others l = size_of l.left

abbrev pub invariant-declarators::behind_parameter-loop-mark : goal.invariant-declarators::behind_parameter-loop-mark
invariant-declarators::behind_parameter-loop-mark l = record {
  so_far : (xs : SuffixTrees) → behind_parameter xs l.place (parameters_onto no_parameters l.all.items) (parts_of l.left) ≡ behind_parameter xs l.fn.place (parameters_onto no_parameters (l.fn.first.value ∷ [])) (parts_of l.fn.parts);
  less : size_of l.left ≤ size_of l.fn.parts;
}

abbrev pub decreases-declarators::behind_parameter-loop-mark : goal.decreases-declarators::behind_parameter-loop-mark
decreases-declarators::behind_parameter-loop-mark l = size_of l.left

abbrev pub invariant-declarators::suffixes_of-loop-bracket : goal.invariant-declarators::suffixes_of-loop-bracket
invariant-declarators::suffixes_of-loop-bracket l = record {
  so_far : suffixes (suffixes_onto no_suffixes l.all.items) (parts_of l.left) ≡ suffixes no_suffixes (parts_of l.fn.parts);
  less : size_of l.left ≤ size_of l.fn.parts;
}

abbrev pub decreases-declarators::suffixes_of-loop-bracket : goal.decreases-declarators::suffixes_of-loop-bracket
decreases-declarators::suffixes_of-loop-bracket l = size_of l.left

abbrev pub invariant-initialisers::behind_item-loop-mark : goal.invariant-initialisers::behind_item-loop-mark
invariant-initialisers::behind_item-loop-mark l = record {
  so_far : behind_item l.place (initialisers_onto (first_initialiser (initialiser_tree l.first.value)) l.others.items) (parts_of l.left) ≡ behind_item l.fn.place (first_initialiser (initialiser_tree l.fn.first.value)) (parts_of l.fn.parts);
  less : size_of l.left ≤ size_of l.fn.parts;
}

abbrev pub decreases-initialisers::behind_item-loop-mark : goal.decreases-initialisers::behind_item-loop-mark
decreases-initialisers::behind_item-loop-mark l = size_of l.left

abbrev pub invariant-declarations::declarators-loop-all : goal.invariant-declarations::declarators-loop-all
invariant-declarations::declarators-loop-all l = record {
  so_far : (xs : SpecifierTrees) → declarators xs (declarators_onto no_declarators l.all.items) (parts_of l.left) ≡ declarators xs no_declarators (parts_of l.fn.parts);
  less : size_of l.left ≤ size_of l.fn.parts;
}

abbrev pub decreases-declarations::declarators-loop-all : goal.decreases-declarations::declarators-loop-all
decreases-declarations::declarators-loop-all l = size_of l.left

abbrev pub decreases-operands::indexed : goal.decreases-operands::indexed
decreases-operands::indexed l = 16 * (size_of l.inner.now + size_of l.parts.now)

abbrev pub decreases-operands::chosen : goal.decreases-operands::chosen
decreases-operands::chosen l = 16 * (size_of l.inner.now + size_of l.parts.now)

abbrev pub decreases-declarators::array_of : goal.decreases-declarators::array_of
decreases-declarators::array_of l = 16 * (size_of l.inner.now + size_of l.parts.now)

abbrev pub decreases-declarators::next_parameter : goal.decreases-declarators::next_parameter
decreases-declarators::next_parameter l = 16 * size_of l.parts.now

abbrev pub decreases-specifiers::valued : goal.decreases-specifiers::valued
decreases-specifiers::valued l = 16 * size_of l.parts.now

abbrev pub decreases-declarations::with_initialiser : goal.decreases-declarations::with_initialiser
decreases-declarations::with_initialiser l = 16 * size_of l.parts.now

abbrev pub decreases-declarations::declarator_list : goal.decreases-declarations::declarator_list
decreases-declarations::declarator_list l = 16 * size_of l.parts.now + 2
