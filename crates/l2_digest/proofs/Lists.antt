-- A list behind another goes on with the first one's digest.
use Rattle.std.specs.Prelude.{◌≡◌, ℕ, ℤ, List, [], ◌∷◌, ◌++◌, refl}
use Rattle.l2_digest.specs.Digests.{after_clause, after_list}

pub after_both : (d : ℕ) (xs ys : List (List ℤ)) → after_list (after_list d xs) ys ≡ after_list d (xs ++ ys)
after_both d [] ys = refl
after_both d (x ∷ xs) ys = after_both (after_clause d x) xs ys
