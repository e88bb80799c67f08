-- Words that have room for the numbers that they show.
use Rattle.std.proofs.Common.{ℕ, ◌-◌, ◌^◌, Bool, true, false, cond, ℤ, pos, neg_ℤ, ◌≤ℤ◌, arith}
use Rattle.std.proofs.lemmas.Int.{ints}
use Rattle.std.proofs.lemmas.Nat.{pow_pos}
use Rattle.l2_bits.proofs.TypeLaws.{width_pos}
use Rattle.l2_circuit_laws.specs.Shows.{Fits}
use Rattle.l2_circuit_laws.proofs.Constants.{constants_show}
use Rattle.l2_operator_laws.specs.Law.{ValuesTell, ConstantsTell}

fits_of : (s : Bool) (w : ℕ) (x : ℤ) → cond s (neg_ℤ (pos (2 ^ (w - 1)))) (pos 0) ≤ℤ x → x ≤ℤ cond s (pos (2 ^ (w - 1) - 1)) (pos (2 ^ w - 1)) → Fits s w x
fits_of true w x f t = record { from = f; to = let p = pow_pos (w - 1) in omega (arith, ints) }
fits_of false w x f t = record { from = f; to = let p = pow_pos w in omega (arith, ints) }

pub values_tell : ValuesTell
values_tell v ty a x s = record { some = width_pos ty; fits = fits_of ty.signed ty.width x s.value.from s.value.to; shows = s.shows }

pub constants_tell : ConstantsTell
constants_tell v truth x from to = record {
  some = omega arith;
  fits = record { from = omega (arith, ints); to = omega (arith, ints) };
  shows = constants_show v truth 66 x;
}
