-- Sorted numbers.
use Rattle.std.proofs.Common.{◌≡◌, ℕ, List}
use Rattle.std.specs.Prelude.{IsPermutation, IsSorted, ◌==◌}
use Rattle.std.specs.List.{dedup}
use Rattle.std.specs.Ordering.{nat_cmp}
use Rattle.std.specs.Cmp.{nat_cmp_total, nat_eq_equiv, unsigned_ties, unsigned_Decides}
use Rattle.l2_meaning.specs.Rising.{rising}
use Rattle.l2_meaning.proofs.Orders.{sorted_is, equal_numbers}

pub sorted_numbers : (xs ys : List ℕ) → IsPermutation xs ys → IsSorted nat_cmp ys → dedup (λ x y. x == y) ys ≡ rising xs
sorted_numbers xs ys moved sorted = sorted_is nat_cmp nat_cmp_total equal_numbers (λ x y. x == y) nat_eq_equiv unsigned_ties (λ x y h. (unsigned_Decides x y).0 h) xs ys moved sorted
