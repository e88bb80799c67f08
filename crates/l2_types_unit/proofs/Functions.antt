-- Lists of functions that code makes.
use Rattle.std.proofs.Common.{◌≡◌, List, [], ◌∷◌, ◌++◌, refl, ap}
use Rattle.std.specs.Prelude.{map}
use Rattle.l2_types_unit.specs.declared.external.TypedFunction.{TypedFunction}
use Rattle.l2_types_unit.specs.Typed.{function_tree}

pub functions-end : (fs : List TypedFunction) (f : TypedFunction) → map function_tree (fs ++ f ∷ []) ≡ map function_tree fs ++ function_tree f ∷ []
functions-end [] f = refl
functions-end (g ∷ fs) f = ap (λ r. function_tree g ∷ r) (functions-end fs f)

pub ruleset functions = (functions-end)
