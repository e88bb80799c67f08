-- How the words of a text are spelt. They are numbers into the list of its names.
use Rattle.std.specs.Prelude.{ℕ, Bool, false, not, List, [], ◌∷◌, codes, Option, Some, None, slice_get}
use Rattle.std.specs.List.{list_any}
use Rattle.std.specs.Str.{bytes_eq}
use Rattle.l2_syntax.specs.declared.token.Name.{Name}

-- the names that a verifier knows
abbrev pub built_in : List (List ℕ)
built_in =
    codes "assert" ∷ codes "reach_error" ∷ codes "abort" ∷ codes "exit" ∷ codes "__assert_fail" ∷ codes "__VERIFIER_error" ∷ codes "__VERIFIER_assume" ∷ codes "__VERIFIER_nondet_bool"
    ∷ codes "__VERIFIER_nondet_char" ∷ codes "__VERIFIER_nondet_uchar" ∷ codes "__VERIFIER_nondet_short" ∷ codes "__VERIFIER_nondet_ushort" ∷ codes "__VERIFIER_nondet_int"
    ∷ codes "__VERIFIER_nondet_uint" ∷ codes "__VERIFIER_nondet_unsigned" ∷ codes "__VERIFIER_nondet_long" ∷ codes "__VERIFIER_nondet_ulong" ∷ codes "__VERIFIER_nondet_longlong"
    ∷ codes "__VERIFIER_nondet_ulonglong" ∷ []

unfoldable pub is_built_in : List ℕ → Bool
is_built_in w = list_any (λ x. bytes_eq x w) built_in

-- whether a name is spelt so; a number without a name is spelt in no way
abbrev pub name_is : Option Name → List ℕ → Bool
name_is None w = false
name_is (Some name) w = bytes_eq name.bytes w

abbrev pub is_spelt : List Name → ℕ → List ℕ → Bool
is_spelt names n w = name_is (slice_get names n) w

unfoldable pub is_main : List Name → ℕ → Bool
is_main names n = is_spelt names n (codes "main")

unfoldable pub is_assert : List Name → ℕ → Bool
is_assert names n = is_spelt names n (codes "assert")

unfoldable pub is_nondet_int : List Name → ℕ → Bool
is_nondet_int names n = is_spelt names n (codes "__VERIFIER_nondet_int")

-- whether a variable may have this name
abbrev pub is_free : Option Name → Bool
is_free None = false
is_free (Some name) = not (is_built_in name.bytes)

unfoldable pub is_variable : List Name → ℕ → Bool
is_variable names n = is_free (slice_get names n)
