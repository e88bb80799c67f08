-- The bounds that rows of an invariant may take: the numbers near the constants of the text.
use Rattle.std.specs.Prelude.{ℤ, pos, negsuc, neg_ℤ, ◌+ℤ◌, ◌-ℤ◌, Bool, false, ◌||◌, if◌then◌else◌, List, [], ◌∷◌, ◌++◌, take, Option, Some, None, filter_map, flat_map}
use Rattle.std.specs.Ordering.{int_cmp, int_eq}
use Rattle.l2_syntax.specs.declared.token.Token.{Token}
use Rattle.l2_syntax.specs.declared.token.TokenKind.{TokenKind}
use Rattle.l2_syntax.specs.declared.token.TokenKind.TheVariants.{Number}
use Rattle.l2_meaning.specs.Rising.{in_order}

abbrev pub number_in : TokenKind → Option ℤ
number_in (Number z y) = Some z
number_in k = None

-- the values of the constants among these tokens
abbrev pub values_of : List Token → List ℤ
values_of tokens = filter_map (λ (t : Token). number_in t.kind) tokens

abbrev pub is_among : List ℤ → ℤ → Bool
is_among [] z = false
is_among (x ∷ xs) z = int_eq x z || is_among xs z

-- each number where it stands first, unless it stood before
abbrev pub firsts : List ℤ → List ℤ → List ℤ
firsts before [] = []
firsts before (z ∷ zs) = if is_among before z then firsts before zs else z ∷ firsts (before ++ z ∷ []) zs

-- a constant, its negation, and the numbers beside them
abbrev pub near : ℤ → List ℤ
near c = (c -ℤ pos 1) ∷ c ∷ (c +ℤ pos 1) ∷ (neg_ℤ c -ℤ pos 1) ∷ neg_ℤ c ∷ (neg_ℤ c +ℤ pos 1) ∷ []

-- those near the first 256 constants, and those near 0, in rising order
abbrev pub thresholds_of : List Token → List ℤ
thresholds_of tokens = in_order int_cmp (flat_map near (take 256 (firsts [] (values_of tokens))) ++ negsuc 0 ∷ pos 0 ∷ pos 1 ∷ [])
