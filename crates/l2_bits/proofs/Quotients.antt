-- Quotients that truncate towards zero, and those that round down.
use Rattle.std.proofs.Common.{◌≡◌, ◌≢◌, ℕ, zero, suc, ◌<◌, ℤ, pos, negsuc, ◌+ℤ◌, ◌-ℤ◌, ◌*ℤ◌, ◌≤ℤ◌, ◌<ℤ◌, unsigned_abs, int_div, int_rem, arith, refl, subst}
use Rattle.std.proofs.lemmas.Int.{ints, rem_below}
use Rattle.std.proofs.lemmas.Nat.{div-add-mod'}
use Rattle.std.proofs.Math.Nat.{mod-le, mod-lt}
use Rattle.l2_bits.specs.Operators.{quotient, remainder, floor_div}
use Rattle.l2_bits.proofs.Bounds.{remainder-is}

pub remainder_parts : (a b : ℤ) → (b *ℤ quotient a b) +ℤ remainder a b ≡ a
remainder_parts a b = whole (b *ℤ int_div a b) a
  where
    whole : (p a : ℤ) → p +ℤ (a -ℤ p) ≡ a
    whole p a = omega (arith, ints)

nonzero : (b : ℤ) → b ≢ pos 0 → 0 < unsigned_abs b
nonzero (pos zero) h = absurd (h refl)
nonzero (pos (suc n)) h = omega arith
nonzero (negsuc n) h = omega arith

pub remainder_smaller : (a b : ℤ) → b ≢ pos 0 → unsigned_abs (remainder a b) < unsigned_abs b
remainder_smaller a b h = subst (λ r. unsigned_abs r < unsigned_abs b) (remainder-is a b) (rem_below a b (nonzero b h))

rem_above : (a b : ℤ) → pos 0 ≤ℤ a → pos 0 ≤ℤ int_rem a b
rem_above (pos a) b h = omega (arith, ints)
rem_above (negsuc a) b h = absurd (omega (arith, ints))

rem_under : (a b : ℤ) → a ≤ℤ pos 0 → int_rem a b ≤ℤ pos 0
rem_under (pos zero) b h = let l = mod-le 0 (unsigned_abs b) in omega (arith, ints)
rem_under (pos (suc a)) b h = absurd (omega (arith, ints))
rem_under (negsuc a) b h = omega (arith, ints)

pub remainder_above : (a b : ℤ) → pos 0 ≤ℤ a → pos 0 ≤ℤ remainder a b
remainder_above a b h = subst (λ r. pos 0 ≤ℤ r) (remainder-is a b) (rem_above a b h)

pub remainder_below : (a b : ℤ) → a ≤ℤ pos 0 → remainder a b ≤ℤ pos 0
remainder_below a b h = subst (λ r. r ≤ℤ pos 0) (remainder-is a b) (rem_under a b h)

pub floor_at_most : (a : ℤ) (n : ℕ) → 0 < n → (floor_div a n *ℤ pos n) ≤ℤ a
floor_at_most (pos a) n h = omega (arith, ints, div-add-mod' a n)
floor_at_most (negsuc a) n h = let l = mod-lt a h in omega (arith, ints, div-add-mod' a n)

pub floor_next : (a : ℤ) (n : ℕ) → 0 < n → a <ℤ ((floor_div a n *ℤ pos n) +ℤ pos n)
floor_next (pos a) n h = let l = mod-lt a h in omega (arith, ints, div-add-mod' a n)
floor_next (negsuc a) n h = omega (arith, ints, div-add-mod' a n)
