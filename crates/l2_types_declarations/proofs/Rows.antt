-- Parameters, declarators and initialisers, as the lists that code goes over.
use Rattle.std.proofs.Common.{◌≡◌, ◌+◌, List, [], ◌∷◌, length, Bool, refl, ap, ◌∙◌, arith}
use Rattle.std.specs.Prelude.{◌==◌}
use Rattle.l2_tree.specs.declared.expression.Parameter as parameter_code
use Rattle.l2_tree.specs.declared.expression.Parameter.{Parameter}
use Rattle.l2_tree.specs.declared.expression.Specifiers.{Specifiers}
use Rattle.l2_tree.specs.declared.expression.Declarator.{Declarator}
use Rattle.l2_tree.specs.declared.expression.Declared.{Declared}
use Rattle.l2_tree.specs.Trees.{ParameterTrees, no_parameters, and_parameter}
use Rattle.l2_tree.specs.Units.{specifiers_tree, declarator_tree, parameter_tree, parameters_onto}
use Rattle.l2_tree.proofs.Declarations.{parameter_tree-Plain, parameter_tree-Declared}
use Rattle.l2_tree_names.specs.Declarators.{name_of}
use Rattle.l2_types.specs.declared.types.CType.{CType}
use Rattle.l2_types.specs.States.{State, Seen, saw, next}
use Rattle.l2_types_expr.specs.Expressions.{specified}
use Rattle.l2_types_declarations.specs.Forms.{has_const, type_start, is_bare}
use Rattle.l2_types_declarations.specs.Parameters as parameter_specs
use Rattle.l2_types_declarations.specs.Parameters.{unnamed, named, parameter, parameters, count, all_parameters}

pub plain_parameter : (makes alone : Bool) (x : Parameter) (xs : Specifiers) (s : State) → x ≡ parameter_code.Plain xs →
    parameter makes alone (parameter_tree x) s ≡ next (specified (specifiers_tree xs) s) (λ b t. unnamed alone b (type_start (specifiers_tree xs)) t)
plain_parameter makes alone x xs s e = ap (λ z. parameter makes alone (parameter_tree z) s) e ∙ ap (λ z. parameter makes alone z s) (parameter_tree-Plain xs)

pub declared_parameter : (makes alone : Bool) (x : Parameter) (xs : Specifiers) (d : Declarator) (s : State) → x ≡ parameter_code.Declared xs d →
    parameter makes alone (parameter_tree x) s ≡ next (specified (specifiers_tree xs) s) (λ b t. named makes (name_of (declarator_tree d)) b (has_const (specifiers_tree xs)) (is_bare (declarator_tree d)) (type_start (specifiers_tree xs)) t)
declared_parameter makes alone x xs d s e = ap (λ z. parameter makes alone (parameter_tree z) s) e ∙ ap (λ z. parameter makes alone z s) (parameter_tree-Declared xs d)

pub ruleset one_parameter = (plain_parameter, declared_parameter)

-- these parameters more
abbrev pub parameters_from : Bool → Bool → List Parameter → Seen (List CType) → Seen (List CType)
parameters_from makes alone [] r = r
parameters_from makes alone (x ∷ rest) r =
    parameters_from makes alone rest (next r (λ ts t. next (parameter makes alone (parameter_tree x) t) (λ o u. saw (parameter_specs.also ts o) u)))

parameters_are : (makes alone : Bool) (ps : ParameterTrees) (all : List Parameter) (s : State) → parameters makes alone (parameters_onto ps all) s ≡ parameters_from makes alone all (parameters makes alone ps s)
parameters_are makes alone ps [] s = refl
parameters_are makes alone ps (x ∷ rest) s = parameters_are makes alone (and_parameter ps (parameter_tree x)) rest s

counted : (ps : ParameterTrees) (all : List Parameter) → count (parameters_onto ps all) ≡ count ps + length all
counted ps [] = omega arith
counted ps (x ∷ rest) = let c = counted (and_parameter ps (parameter_tree x)) rest in omega arith

pub all_parameters_are : (makes : Bool) (all : List Parameter) (s : State) →
    all_parameters makes (parameters_onto no_parameters all) s ≡ parameters_from makes (length all == 1) all (saw [] s)
all_parameters_are makes all s =
    let c : count (parameters_onto no_parameters all) ≡ length all = let d = counted no_parameters all in omega arith in
    ap (λ k. parameters makes (k == 1) (parameters_onto no_parameters all) s) c ∙ parameters_are makes (length all == 1) no_parameters all s

pub ruleset parameter_rows = (all_parameters_are)
