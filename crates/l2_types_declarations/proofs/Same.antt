-- Types one by one beside others.
use Rattle.std.proofs.Common.{◌≡◌, ℕ, ◌≤◌, List, [], ◌∷◌, length, drop, true, refl, ap, ◌∙◌}
use Rattle.std.proofs.lemmas.List.{drop_all}
use Rattle.l2_types.specs.declared.types.CType.{CType}
use Rattle.l2_types_declarations.specs.Names.{all_same}

beside_none : (ts : List CType) → all_same ts [] ≡ true
beside_none [] = refl
beside_none (t ∷ ts) = refl

-- beside none all are the same
pub none_left : (ts us : List CType) (j : ℕ) → length us ≤ j → all_same ts (drop j us) ≡ true
none_left ts us j h = ap (all_same ts) (drop_all j us h) ∙ beside_none ts
