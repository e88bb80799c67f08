-- Sorted numbers.
use Rattle.std.proofs.Common.{◌≡◌, ℤ, ◌<ℤ◌, List, subst, refl}
use Rattle.std.specs.Prelude.{IsPermutation, IsSorted}
use Rattle.std.specs.List.{dedup}
use Rattle.std.specs.Ordering.{int_cmp, int_eq, MatchOrdering}
use Rattle.std.specs.Cmp.{int_cmp_total, int_eq_equiv, int_ranks, signed_Decides}
use Rattle.std.specs.declared.cmp.Ordering.TheVariants.{Equal}
use Rattle.l2_meaning.specs.Rising.{in_order}
use Rattle.l2_meaning.proofs.Orders.{sorted_is}

pub equal_integers : (x y : ℤ) → int_cmp x y ≡ Equal → x ≡ y
equal_integers x y e = subst (λ r. MatchOrdering r (x <ℤ y) (x ≡ y) (y <ℤ x)) e (int_ranks x y)

pub sorted_numbers : (xs ys : List ℤ) → IsPermutation xs ys → IsSorted int_cmp ys → dedup int_eq ys ≡ in_order int_cmp xs
sorted_numbers xs ys moved sorted = sorted_is int_cmp int_cmp_total equal_integers int_eq int_eq_equiv (λ x y. refl) (λ x y e. (signed_Decides x y).0 e) xs ys moved sorted
