-- Numbers near constants are bounds.
use Rattle.std.proofs.Common.{◌≡◌, ℕ, zero, suc, ℤ, pos, negsuc, ◌≤ℤ◌, Bool, true, false, if◌then◌else◌, List, [], ◌∷◌, ◌++◌, take, ◌<ℤ◌, subst, arith}
use Rattle.std.proofs.lemmas.Int.{ints}
use Rattle.std.specs.Prelude.{flat_map}
use Rattle.std.specs.List.{AllByRecursion, cons_option}
use Rattle.std.specs.Cmp.{int_cmp_total, int_ranks}
use Rattle.std.specs.Ordering.{int_cmp, MatchOrdering}
use Rattle.std.specs.declared.cmp.Ordering.TheVariants.{Equal}
use Rattle.std.proofs.lemmas.List.Elements.{All-from_recursion}
use Rattle.l2_syntax.specs.declared.token.Token.{Token}
use Rattle.l2_syntax.specs.declared.token.TokenKind.{TokenKind}
use Rattle.l2_syntax.specs.declared.token.TokenKind.TheVariants as token
use Rattle.l2_meaning.specs.Rising.{in_order}
use Rattle.l2_meaning.specs.Thresholds.{number_in, values_of, is_among, firsts, near, thresholds_of}
use Rattle.l2_meaning.proofs.Orders.{all_with}
use Rattle.l2_constant_laws.specs.Laws.{IsSmall, HasSmall, AreSmall, IsBound, ThresholdsLaw}

equal_integers : (x y : ℤ) → int_cmp x y ≡ Equal → x ≡ y
equal_integers x y e = subst (λ r. MatchOrdering r (x <ℤ y) (x ≡ y) (y <ℤ x)) e (int_ranks x y)

value_small : (k : TokenKind) (zs : List ℤ) → HasSmall k → AllByRecursion IsSmall zs → AllByRecursion IsSmall (cons_option (number_in k) zs)
value_small (token.Number z y) zs h r = (h, r)
value_small (token.Word n) zs h r = r
value_small (token.TypeName n) zs h r = r
value_small token.Text zs h r = r
value_small (token.Mark m) zs h r = r
value_small token.End zs h r = r

values_small : (tokens : List Token) → AreSmall tokens → AllByRecursion IsSmall (values_of tokens)
values_small [] h = tt
values_small (t ∷ tokens) (a, r) = value_small t.kind (values_of tokens) a (values_small tokens r)

firsts_small : (before zs : List ℤ) → AllByRecursion IsSmall zs → AllByRecursion IsSmall (firsts before zs)
firsts_small before [] h = tt
firsts_small before (z ∷ zs) (a, r) = go (is_among before z) (firsts_small before zs r) (firsts_small (before ++ z ∷ []) zs r) where
  go : (b : Bool) → AllByRecursion IsSmall (firsts before zs) → AllByRecursion IsSmall (firsts (before ++ z ∷ []) zs) → AllByRecursion IsSmall (if b then firsts before zs else z ∷ firsts (before ++ z ∷ []) zs)
  go true p q = p
  go false p q = (a, q)

taken_small : (n : ℕ) (zs : List ℤ) → AllByRecursion IsSmall zs → AllByRecursion IsSmall (take n zs)
taken_small zero zs h = tt
taken_small (suc n) [] h = tt
taken_small (suc n) (z ∷ zs) (a, r) = (a, taken_small n zs r)

as_integer : (z : ℤ) → IsSmall z → (negsuc 9223372036854775807 ≤ℤ z) × (z ≤ℤ pos 18446744073709551615)
as_integer (pos n) h = (omega (arith, ints), omega (arith, ints))
as_integer (negsuc n) h = (omega (arith, ints), omega (arith, ints))

near_bounds : (c : ℤ) (zs : List ℤ) → IsSmall c → AllByRecursion IsBound zs → AllByRecursion IsBound (near c ++ zs)
near_bounds c zs h r =
    let (low, high) = as_integer c h in (
      (omega (arith, ints), omega (arith, ints)),
      (
        (omega (arith, ints), omega (arith, ints)),
        ((omega (arith, ints), omega (arith, ints)), ((omega (arith, ints), omega (arith, ints)), ((omega (arith, ints), omega (arith, ints)), ((omega (arith, ints), omega (arith, ints)), r)))),
      ),
    )

all_bounds : (cs zs : List ℤ) → AllByRecursion IsSmall cs → AllByRecursion IsBound zs → AllByRecursion IsBound (flat_map near cs ++ zs)
all_bounds [] zs h r = r
all_bounds (c ∷ cs) zs (a, h) r = near_bounds c (flat_map near cs ++ zs) a (all_bounds cs zs h r)

ordered_bounds : (zs : List ℤ) → AllByRecursion IsBound zs → AllByRecursion IsBound (in_order int_cmp zs)
ordered_bounds [] h = tt
ordered_bounds (z ∷ zs) (a, r) = all_with int_cmp int_cmp_total equal_integers IsBound z (in_order int_cmp zs) a (ordered_bounds zs r)

pub thresholds_law : ThresholdsLaw
thresholds_law tokens h =
    All-from_recursion IsBound (thresholds_of tokens)
    (ordered_bounds _ (all_bounds (take 256 (firsts [] (values_of tokens))) (negsuc 0 ∷ pos 0 ∷ pos 1 ∷ []) (taken_small 256 (firsts [] (values_of tokens)) (firsts_small [] (values_of tokens) (values_small tokens h)))
    ((omega (arith, ints), omega (arith, ints)), ((omega (arith, ints), omega (arith, ints)), ((omega (arith, ints), omega (arith, ints)), tt)))))
