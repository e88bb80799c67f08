-- Words as numbers.
use Rattle.std.proofs.Common.{arith, ◌≡◌, ap, sym, ◌∙◌, ℕ, ◌+◌, ◌*◌, ◌<◌, Bool, List, ◌∷◌, length, drop, get_or, ℤ}
use Rattle.std.proofs.lemmas.List.{drop_more}
use Rattle.l2_gates.specs.Gates.{literal_of, literals_of}
use Rattle.l2_gates.specs.Models.{value}
use Rattle.l2_circuit_laws.specs.Values.{values, number, bit_number}

-- one bit more in front
pub one_bit : (v : ℕ → Bool) (bits : List ℤ) (x : ℤ) (i total twice more : ℕ) → i < length bits → x ≡ get_or bits i x → total ≡ number (values v (literals_of (drop (i + 1) bits)))
    → twice ≡ total * 2 → more ≡ twice + bit_number (value v (literal_of x)) → more ≡ number (values v (literals_of (drop i bits)))
one_bit v bits x i total twice more h is t w m =
    let left = drop_more bits i x h ∙ (λ j. sym is j ∷ drop (i + 1) bits) in
    let rest = number (values v (literals_of (drop (i + 1) bits))) in
    let here : more ≡ bit_number (value v (literal_of x)) + 2 * rest = omega (arith, t, w, m) in
    here ∙ ap (λ bs. number (values v (literals_of bs))) (sym left)
