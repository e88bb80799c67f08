-- The product of residues wraps to the exact product.
use Rattle.std.proofs.Common.{◌≡◌, ℕ, ◌*◌, ◌%◌, ◌<◌, ℤ, pos, ◌*ℤ◌, subst}
use Rattle.std.proofs.lemmas.Nat.{pow_pos}
use lib.IntN.{*ℤ_comm}
use Rattle.l2_bits.specs.declared.types.Ty.{Ty}
use Rattle.l2_bits.specs.Values.{modulus, residue, wrap}
use Rattle.l2_bits.specs.Operators.{mul}
use Rattle.l2_bits.proofs.Congruences.{Meet, meet_trans, meet_times}
use Rattle.l2_bits.proofs.Wraps.{residue-meet, wrap_same}

meet_product : (n : ℕ) (a b c d : ℤ) → Meet n a c → Meet n b d → Meet n (a *ℤ b) (c *ℤ d)
meet_product n a b c d p q =
    let turned : Meet n (c *ℤ b) (c *ℤ d) = subst (λ x. Meet n x (c *ℤ d)) (*ℤ_comm b c) (subst (λ x. Meet n (b *ℤ c) x) (*ℤ_comm d c) (meet_times n b d c q)) in
    meet_trans n (a *ℤ b) (c *ℤ b) (c *ℤ d) (meet_times n a c b p) turned

pub residues-meet : (n : ℕ) (a b : ℤ) → 0 < n → Meet n (pos ((residue n a * residue n b) % n)) (a *ℤ b)
residues-meet n a b h =
    meet_trans n (pos ((residue n a * residue n b) % n)) (pos (residue n a * residue n b)) (a *ℤ b)
    (residue-meet n (pos (residue n a * residue n b)) h)
    (meet_product n (pos (residue n a)) (pos (residue n b)) a b (residue-meet n a h) (residue-meet n b h))

pub wrap_product : (ty : Ty) (a b : ℤ) → wrap ty (pos ((residue (modulus ty) a * residue (modulus ty) b) % modulus ty)) ≡ mul ty a b
wrap_product ty a b = wrap_same ty (pos ((residue (modulus ty) a * residue (modulus ty) b) % modulus ty)) (a *ℤ b) (residues-meet (modulus ty) a b (pow_pos ty.width))
