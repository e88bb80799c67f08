-- Goals of two runs, one behind the other.
use Rattle.std.proofs.Common.{ℕ, ◌<◌, ◌≤◌, arith}
use native.Mathlib.Decide.{dec_lt}
use Rattle.l2_derivations.specs.Goals.{AllHold, Goals, Holds, IsFirst}

pub both_hold : (g : Goals) (from middle to : ℕ) → AllHold g from middle → AllHold g middle to → AllHold g from to
both_hold g from middle to front back = λ i low high. go i low high (dec_lt i middle)
  where
    go : (i : ℕ) → from ≤ i → i < to → Dec (i < middle) → Holds g i
    go i low high (yes before) = front i low before
    go i low high (no behind) = back i (omega (arith, behind)) high

pub behind_front : (g : Goals) (from middle to n : ℕ) (Fails : ℕ → Type 0) → from ≤ middle → AllHold g from middle → IsFirst g middle to n Fails → IsFirst g from to n Fails
behind_front g from middle to n Fails order front (i, is, low, high, held, fails) = (i, is, omega (arith, low, order), high, both_hold g from middle i front held, fails)
