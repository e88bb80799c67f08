-- The choices of a model are such as a values file can spell.
use Rattle.std.proofs.Common.{◌≡◌, ℕ, ◌-◌, ◌^◌, ◌≤ℤ◌, Bool, true, false, if◌then◌else◌, ℤ, pos, negsuc, neg_ℤ, List, [], ◌∷◌, refl, subst, arith}
use Rattle.std.specs.List.{All}
use Rattle.std.proofs.lemmas.Int.{ints}
use Rattle.std.proofs.lemmas.List.Elements.{All-nil, All-cons}
use Rattle.l2_bits.specs.declared.types.Ty.{Ty}
use Rattle.l2_bits.specs.Values.{IsValue}
use Rattle.l2_bits.proofs.Bounds.{value_small, signed_small}
use Rattle.l2_bits.proofs.Wraps.{wrap_value}
use Rattle.l2_gates.specs.Models.{value}
use Rattle.l2_circuit_laws.specs.Values.{values, number}
use Rattle.l2_short_goals.specs.Taken.{Choice, made_choices, shown}
use Rattle.l2_witness.specs.ValuesFile.{IsChoice}

of_type : (ty : Ty) (z : ℤ) → IsValue ty z → IsChoice z
of_type ty (pos a) h =
    let b = value_small ty (pos a) h in
    let e : 2 ^ 64 ≡ 18446744073709551616 = refl in
    (omega (arith, ints), omega (arith, ints))
of_type ty (negsuc a) h = go ty.signed refl
  where
    go : (s : Bool) → ty.signed ≡ s → IsChoice (negsuc a)
    go true e =
        let b = signed_small ty (negsuc a) e h in
        let p : 2 ^ 63 ≡ 9223372036854775808 = refl in
        (omega (arith, ints), omega (arith, ints))
    go false e =
        let low : pos 0 ≤ℤ negsuc a = subst (λ s. (if s then neg_ℤ (pos (2 ^ (ty.width - 1))) else pos 0) ≤ℤ negsuc a) e h.from in
        absurd (omega (arith, ints))

pub are_choices : (v : ℕ → Bool) (xs : List Choice) → All IsChoice (made_choices v xs)
are_choices v [] = All-nil IsChoice
are_choices v (x ∷ xs) = go (value v x.path) (are_choices v xs)
  where
    go : (b : Bool) → All IsChoice (made_choices v xs) → All IsChoice (if b then shown v x ∷ made_choices v xs else made_choices v xs)
    go true h = All-cons IsChoice (shown v x) (made_choices v xs) (of_type x.ty (shown v x) (wrap_value x.ty (pos (number (values v x.word))))) h
    go false h = h
