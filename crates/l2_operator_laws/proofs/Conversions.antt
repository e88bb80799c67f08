-- Conversions of words that show numbers.
use Rattle.std.proofs.Common.{◌≡◌, ℕ, ◌+◌, ◌-◌, ◌*◌, ◌^◌, ◌==◌, Bool, true, false, not, ℤ, pos, refl, sym, ap, ◌∙◌, List, arith}
use Rattle.std.specs.Prelude.{if◌then◌else◌}
use Rattle.std.specs.Ordering.{int_eq}
use Rattle.std.proofs.lemmas.Int.{ints}
use Rattle.std.proofs.lemmas.Bool.{eqb-true}
use Rattle.std.proofs.lemmas.Nat.{pow_pos}
use Rattle.l2_bits.specs.Values.{residue, wrap}
use Rattle.l2_bits.specs.Operators.{convert}
use Rattle.l2_gates.specs.Gates.{Lit, Made}
use Rattle.l2_gates.specs.Models.{Ok}
use Rattle.l2_gates.proofs.Values.{negated_value}
use Rattle.l2_circuits.specs.Words.{known_word, extended, eq, zeros, to_bool}
use Rattle.l2_circuit_laws.specs.Values.{bit_number}
use Rattle.l2_circuit_laws.specs.Shows.{Gains, Fits}
use Rattle.l2_circuit_laws.proofs.Signed.{equal_shows}
use Rattle.l2_circuit_laws.proofs.Choices.{wraps_show}
use Rattle.l2_operator_laws.specs.Words.{Tells}
use Rattle.l2_operator_laws.specs.Law.{ConversionsShow}
use Rattle.l2_operator_laws.proofs.Cut.{resized_show}
use Rattle.l2_operator_laws.proofs.Signs.{zeros_show}

pub zero_fits : (signed : Bool) (n : ℕ) → Fits signed n (pos 0)
zero_fits true n = let p = pow_pos (n - 1) in record { from = omega (arith, ints); to = omega (arith, ints) }
zero_fits false n = let p = pow_pos n in record { from = omega (arith, ints); to = omega (arith, ints) }

-- whether a number isn't 0, as one bit
one_bit : (w : ℕ) (z : Bool) → w ≡ 1 → bit_number (not z) + 2 * 0 ≡ residue (2 ^ w) (if z then pos 0 else pos 1)
one_bit w z e = go z ∙ ap (λ k. residue (2 ^ k) (if z then pos 0 else pos 1)) (sym e)
  where
    go : (z : Bool) → bit_number (not z) + 2 * 0 ≡ residue (2 ^ 1) (if z then pos 0 else pos 1)
    go true = refl
    go false = refl

bool_shows : (v : ℕ → Bool) → v 0 ≡ true → (w : ℕ) (signed : Bool) (n : ℕ) (a : List Lit) (x : ℤ) (m : Made) → w ≡ 1 → Tells v signed n a x → Ok v (to_bool a m).made
    → Gains v m w (to_bool a m).bits (if int_eq x (pos 0) then pos 0 else pos 1)
bool_shows v truth w signed n a x m e s ok =
    let g = equal_shows v truth signed n a (zeros a) x (pos 0) m s.some s.fits (zero_fits signed n) s.shows (zeros_show v truth n a (let q = s.shows in q.size)) ok in
    let l = (eq a (zeros a) m).bit in
    record {
      before = g.before;
      shows = record { size = sym e; number = ap (λ t. bit_number t + 2 * 0) (negated_value v l ∙ ap not g.is) ∙ one_bit w (int_eq x (pos 0)) e };
    }

pub conversions_show : ConversionsShow
unfolding convert
conversions_show v truth to signed n a x m s ok = go (to.width == 1) refl ok
  where
    go : (t : Bool) → (to.width == 1) ≡ t → Ok v (if t then to_bool a m else known_word (extended to.width signed a) m).made
        → Gains v m to.width (if t then to_bool a m else known_word (extended to.width signed a) m).bits (if t then (if int_eq x (pos 0) then pos 0 else pos 1) else wrap to x)
    go true e ok = bool_shows v truth to.width signed n a x m (eqb-true to.width 1 e) s ok
    go false e ok = record { before = ok; shows = wraps_show v to (extended to.width signed a) x (resized_show v truth signed n to.width a x s) }
