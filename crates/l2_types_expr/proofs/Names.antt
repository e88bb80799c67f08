-- The name of a type, by its specifiers.
use Rattle.std.proofs.Common.{◌≡◌, ap, sym, ◌∙◌}
use Rattle.l2_tree.specs.declared.expression.Parameter as parameter
use Rattle.l2_tree.specs.declared.expression.Parameter.{Parameter}
use Rattle.l2_tree.specs.declared.expression.Specifiers.{Specifiers}
use Rattle.l2_tree.specs.declared.expression.Declarator.{Declarator}
use Rattle.l2_tree.specs.Trees.{SpecifierTrees}
use Rattle.l2_tree.specs.Units.{specifiers_tree, parameter_tree}
use Rattle.l2_tree.proofs.Declarations.{parameter_tree-Plain, parameter_tree-Declared}
use Rattle.l2_tree_laws.specs.Specifiers.{Base, base_of}
use Rattle.l2_types.specs.States.{State, saw, next}
use Rattle.l2_types_expr.specs.TypeNames.{based, plain_type, function_of}
use Rattle.l2_types_expr.specs.Expressions.{type_name, specified}

pub plain_name : (t : Parameter) (xs : Specifiers) (s : State) → t ≡ parameter.Plain xs → type_name (parameter_tree t) s ≡ next (specified (specifiers_tree xs) s) (λ b u. saw (plain_type b) u)
plain_name t xs s e = ap (λ z. type_name (parameter_tree z) s) e ∙ ap (λ z. type_name z s) (parameter_tree-Plain xs)

pub declared_name : (t : Parameter) (xs : Specifiers) (d : Declarator) (s : State) → t ≡ parameter.Declared xs d → type_name (parameter_tree t) s ≡ next (specified (specifiers_tree xs) s) (λ b u. saw (function_of b) u)
declared_name t xs d s e = ap (λ z. type_name (parameter_tree z) s) e ∙ ap (λ z. type_name z s) (parameter_tree-Declared xs d)

-- what code found of a type
pub by_base : (b : Base) (xs : SpecifierTrees) (c : Base) (s : State) → b ≡ base_of xs → b ≡ c → based (base_of xs) s ≡ based c s
by_base b xs c s e f = ap (λ z. based z s) (sym e ∙ f)

pub ruleset bases = (by_base)

pub ruleset names = (plain_name, declared_name)
