-- A list of externals grows at its end.
use Rattle.std.proofs.Common.{◌≡◌, List, [], ◌∷◌, ◌++◌, map, refl, ap}
use Rattle.l2_tree.specs.declared.unit.External.{External}
use Rattle.l2_tree.specs.Units.{external_tree}

pub externals_more : (xs : List External) (x : External) → map external_tree (xs ++ (x ∷ [])) ≡ map external_tree xs ++ (external_tree x ∷ [])
externals_more [] x = refl
externals_more (y ∷ xs) x = ap (λ z. external_tree y ∷ z) (externals_more xs x)

pub ruleset grown = (externals_more)
