-- Values past every type.
use Rattle.std.proofs.Common.{◌≡◌, ◌≤◌, ◌<◌, ◌+◌, ◌*◌, ◌^◌, ℕ, false, cond, Option, None, Some, List, [], ◌∷◌, fold, length, drop, get_or, refl, sym, ◌==◌, ap, ◌∙◌, arith}
use Rattle.std.proofs.Math.Dec.{leb}
use Rattle.std.proofs.lemmas.List.{drop_more}
use Rattle.l2_syntax.specs.declared.token.Scalar.{Scalar}
use Rattle.l2_syntax.specs.declared.token.Scalar.TheVariants as scalar
use Rattle.l2_directives.specs.declared.constant.Suffix.{Suffix}
use Rattle.l2_directives.specs.Constants.{digit_value, greatest, first_that_holds, candidates, constant_of_type, typed}

abbrev pub next_value : ℕ → ℕ → ℕ → ℕ
next_value base v d = v * base + digit_value d

times_grows : (v base : ℕ) → 1 ≤ base → v ≤ v * base
times_grows v base h = grind arith

pub value_grows : (base : ℕ) → 1 ≤ base → (v : ℕ) (digits : List ℕ) → v ≤ fold (λ x d. x * base + digit_value d) v digits
value_grows base h v [] = omega arith
value_grows base h v (d ∷ digits) =
    let a = times_grows v base h in
    let b = value_grows base h (v * base + digit_value d) digits in
    omega arith

pub past : (a b : ℕ) → (a < b → ⊥) → b ≤ a
past a b h = omega (arith, h)

-- a value that has passed 2 ^ 64 stays past it
pub overflowed : (base b v w total : ℕ) (digits : List ℕ) (i : ℕ) → 1 ≤ base → i < length digits → b ≡ base → fold (λ x d. x * base + digit_value d) v (drop i digits) ≡ total → 2 ^ 64 ≤ v * b + w → w ≤ digit_value (get_or digits i 0) → 2 ^ 64 ≤ total
overflowed base b v w total digits i h l e f g k =
    let step = λ (x d : ℕ). x * base + digit_value d in
    let m : fold step v (drop i digits) ≡ fold step (v * base + digit_value (get_or digits i 0)) (drop (i + 1) digits) = ap (λ (x : List ℕ). fold step v x) (drop_more digits i 0 l) in
    let n = value_grows base h (v * base + digit_value (get_or digits i 0)) (drop (i + 1) digits) in
    let p : v * b ≡ v * base = ap (λ (x : ℕ). v * x) e in
    omega (arith, m, n, p, f, g, k)

too_great : (v : ℕ) → 2 ^ 64 ≤ v → (t : Scalar) → leb v (greatest t) ≡ false
too_great v h scalar.Bool = grind arith
too_great v h scalar.Char = grind arith
too_great v h scalar.UChar = grind arith
too_great v h scalar.Short = grind arith
too_great v h scalar.UShort = grind arith
too_great v h scalar.Int = grind arith
too_great v h scalar.UInt = grind arith
too_great v h scalar.Long = grind arith
too_great v h scalar.ULong = grind arith
too_great v h scalar.LongLong = grind arith
too_great v h scalar.ULongLong = grind arith

pub none_holds : (v : ℕ) → 2 ^ 64 ≤ v → (types : List Scalar) → first_that_holds v types ≡ None
none_holds v h [] = refl
none_holds v h (t ∷ types) = ap (λ b. cond b (Some t) (first_that_holds v types)) (too_great v h t) ∙ none_holds v h types

pub none_typed : (base v : ℕ) → 2 ^ 64 ≤ v → (s : Option Suffix) → None ≡ typed base v s
none_typed base v h None = refl
none_typed base v h (Some s) = sym (ap (λ o. constant_of_type v o) (none_holds v h (candidates (base == 10) s)))
