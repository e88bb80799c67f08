-- The residues of what the operators give: how words of bits compute them.
use Rattle.std.proofs.Common.{◌≡◌, ℕ, ◌+◌, ◌-◌, ◌*◌, ◌%◌, ◌<◌, ℤ, pos, ◌+ℤ◌, ◌-ℤ◌, ◌*ℤ◌, ◌∙◌, arith}
use Rattle.std.proofs.lemmas.Int.{ints}
use Rattle.std.proofs.lemmas.Nat.{pow_pos}
use Rattle.std.proofs.Math.Nat.{mod-lt}
use Rattle.l2_bits.specs.declared.types.Ty.{Ty}
use Rattle.l2_bits.specs.Values.{modulus, residue, wrap}
use Rattle.l2_bits.specs.Operators.{add, sub, mul}
use Rattle.l2_bits.proofs.Congruences.{Meet, meet_sym, meet_trans, meet_add, meet_sub, near_same}
use Rattle.l2_bits.proofs.Wraps.{residue-lt, residue-meet, wrap-meet, wrap_same}
use Rattle.l2_bits.proofs.Products.{residues-meet}

-- a number below n that is congruent to v is the residue of v
pub residue_only : (n r : ℕ) (v : ℤ) → r < n → Meet n (pos r) v → residue n v ≡ r
residue_only n r v h m =
    let some : 0 < n = omega arith in
    let l = residue-lt n v some in
    let e : pos (residue n v) ≡ pos r = near_same n (pos (residue n v)) (pos r) (meet_trans n (pos (residue n v)) v (pos r) (residue-meet n v some) (meet_sym n (pos r) v m)) (omega (arith, ints)) (omega (arith, ints)) in
    cc

pub residue-same : (n : ℕ) (u v : ℤ) → 0 < n → Meet n u v → residue n u ≡ residue n v
residue-same n u v h m = residue_only n (residue n v) u (residue-lt n v h) (meet_trans n (pos (residue n v)) v u (residue-meet n v h) (meet_sym n u v m))

pub residue-wrap : (ty : Ty) (v : ℤ) → residue (modulus ty) (wrap ty v) ≡ residue (modulus ty) v
residue-wrap ty v = residue-same (modulus ty) (wrap ty v) v (pow_pos ty.width) (wrap-meet ty v)

pub wrap-residue : (ty : Ty) (v : ℤ) → wrap ty (pos (residue (modulus ty) v)) ≡ wrap ty v
wrap-residue ty v = wrap_same ty (pos (residue (modulus ty) v)) v (residue-meet (modulus ty) v (pow_pos ty.width))

pub residue-add : (ty : Ty) (a b : ℤ) → residue (modulus ty) (add ty a b) ≡ (residue (modulus ty) a + residue (modulus ty) b) % modulus ty
residue-add ty a b = let n = modulus ty in let some = pow_pos ty.width in
    residue-wrap ty (a +ℤ b)
    ∙ residue_only n ((residue n a + residue n b) % n) (a +ℤ b) (mod-lt (residue n a + residue n b) some)
    (meet_trans n (pos ((residue n a + residue n b) % n)) (pos (residue n a + residue n b)) (a +ℤ b)
    (residue-meet n (pos (residue n a + residue n b)) some)
    (meet_add n (pos (residue n a)) (pos (residue n b)) a b (residue-meet n a some) (residue-meet n b some)))

pub residue-sub : (ty : Ty) (a b : ℤ) → residue (modulus ty) (sub ty a b) ≡ (residue (modulus ty) a + (modulus ty - residue (modulus ty) b)) % modulus ty
residue-sub ty a b = let n = modulus ty in let some = pow_pos ty.width in
    residue-wrap ty (a -ℤ b)
    ∙ residue_only n ((residue n a + (n - residue n b)) % n) (a -ℤ b) (mod-lt (residue n a + (n - residue n b)) some)
    (meet_trans n (pos ((residue n a + (n - residue n b)) % n)) (pos (residue n a + (n - residue n b))) (a -ℤ b)
    (residue-meet n (pos (residue n a + (n - residue n b))) some)
    (meet_sub n (residue n a) (residue n b) a b (residue-lt n b some) (residue-meet n a some) (residue-meet n b some)))

pub residue-mul : (ty : Ty) (a b : ℤ) → residue (modulus ty) (mul ty a b) ≡ (residue (modulus ty) a * residue (modulus ty) b) % modulus ty
residue-mul ty a b = let n = modulus ty in let some = pow_pos ty.width in
    residue-wrap ty (a *ℤ b)
    ∙ residue_only n ((residue n a * residue n b) % n) (a *ℤ b) (mod-lt (residue n a * residue n b) some) (residues-meet n a b some)
