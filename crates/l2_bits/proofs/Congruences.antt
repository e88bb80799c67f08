-- Congruence modulo n: it is an equivalence that sums and products keep.
use Rattle.std.proofs.Common.{◌≡◌, ℕ, suc, zero, ◌+◌, ◌-◌, ◌*◌, ◌<◌, ◌≤◌, ℤ, pos, negsuc, neg_ℤ, ◌+ℤ◌, ◌-ℤ◌, ◌*ℤ◌, ◌<ℤ◌, ◌⊎◌, refl, ap, sym, arith, inl, inr, ⊎_elim}
use Rattle.std.proofs.lemmas.Int.{ints}
use Rattle.std.proofs.lemmas.Bool.{cases_lt}
use borrow.Author.Differences.{up, down, same_in, same_out, sum_is_lem, product_is}
use Rattle.l2_bits.specs.Values.{IsCongruent}

-- u plus a multiple of n is v plus a multiple of n: congruence with natural factors alone
pub record Meet (n : ℕ) (u v : ℤ) : Type 0 where
  pub up_by : ℕ
  pub down_by : ℕ
  pub same : u +ℤ pos (up_by * n) ≡ v +ℤ pos (down_by * n)

pub meet_of : (n : ℕ) (u v : ℤ) → IsCongruent n u v → Meet n u v
meet_of n u v h = go h.times h.differ
  where
    go : (t : ℤ) → u -ℤ v ≡ t *ℤ pos n → Meet n u v
    go (pos k) e = record { up_by = 0; down_by = k; same = omega (arith, ints) }
    go (negsuc k) e = record { up_by = suc k; down_by = 0; same = omega (arith, ints) }

above : (n : ℕ) (u v : ℤ) (j k d : ℕ) → k ≡ d + j → u +ℤ pos (j * n) ≡ v +ℤ pos (k * n) → u -ℤ v ≡ pos (d * n)
above n u v j k d s e = let times = ap (λ x. x * n) s in omega (arith, ints)

under : (n : ℕ) (u v : ℤ) (j k d : ℕ) → j ≡ d + k → u +ℤ pos (j * n) ≡ v +ℤ pos (k * n) → u -ℤ v ≡ neg_ℤ (pos (d * n))
under n u v j k d s e = let times = ap (λ x. x * n) s in omega (arith, ints)

pub congruent_of : (n : ℕ) (u v : ℤ) → Meet n u v → IsCongruent n u v
congruent_of n u v m = ⊎_elim more less (cases_lt m.up_by m.down_by)
  where
    more : m.up_by < m.down_by → IsCongruent n u v
    more l = record { times = pos (m.down_by - m.up_by); differ = above n u v m.up_by m.down_by (m.down_by - m.up_by) (omega arith) m.same }

    less : m.down_by ≤ m.up_by → IsCongruent n u v
    less l = at (m.up_by - m.down_by) (omega arith)
      where
        at : (d : ℕ) → m.up_by ≡ d + m.down_by → IsCongruent n u v
        at zero s = record { times = pos 0; differ = above n u v m.up_by m.down_by 0 (omega arith) m.same }
        at (suc d) s = record { times = negsuc d; differ = under n u v m.up_by m.down_by (suc d) s m.same }

-- two congruent numbers less than n apart are one
pub near_same : (n : ℕ) (u v : ℤ) → Meet n u v → u <ℤ (v +ℤ pos n) → v <ℤ (u +ℤ pos n) → u ≡ v
near_same n u v m h k = ⊎_elim more less (cases_lt m.up_by m.down_by)
  where
    far : (j k : ℕ) → j < k → j * n + n ≤ k * n
    far j k l = let s : k ≡ suc (k - suc j) + j = omega arith in let times = ap (λ x. x * n) s in omega arith

    more : m.up_by < m.down_by → u ≡ v
    more l = let f = far m.up_by m.down_by l in omega (arith, ints)

    less : m.down_by ≤ m.up_by → u ≡ v
    less l = at (cases_lt m.down_by m.up_by)
      where
        at : (m.down_by < m.up_by) ⊎ (m.up_by ≤ m.down_by) → u ≡ v
        at (inl l') = let f = far m.down_by m.up_by l' in omega (arith, ints)
        at (inr g) = let s : m.up_by ≡ m.down_by = omega arith in let times = ap (λ x. x * n) s in omega (arith, ints)

pub meet_refl : (n : ℕ) (u : ℤ) → Meet n u u
meet_refl n u = record { up_by = 0; down_by = 0; same = refl }

pub meet_sym : (n : ℕ) (u v : ℤ) → Meet n u v → Meet n v u
meet_sym n u v m = record { up_by = m.down_by; down_by = m.up_by; same = sym m.same }

pub meet_trans : (n : ℕ) (u v w : ℤ) → Meet n u v → Meet n v w → Meet n u w
meet_trans n u v w l m = record { up_by = l.up_by + m.up_by; down_by = l.down_by + m.down_by; same = omega (arith, ints) }

-- a common factor
pub meet_times : (n : ℕ) (u v c : ℤ) → Meet n u v → Meet n (u *ℤ c) (v *ℤ c)
meet_times n u v c m =
    let sum : up u + m.up_by * n + down v ≡ up v + m.down_by * n + down u = omega (arith, same_out, sum_is_lem, m.same) in
    let above = ap (λ x. x * up c) sum in
    let below = ap (λ x. x * down c) sum in
    record { up_by = m.up_by * up c + m.down_by * down c; down_by = m.down_by * up c + m.up_by * down c; same = omega (arith, same_in, sum_is_lem, product_is) }

pub meet_add : (n : ℕ) (a b c d : ℤ) → Meet n a c → Meet n b d → Meet n (a +ℤ b) (c +ℤ d)
meet_add n a b c d p q = record { up_by = p.up_by + q.up_by; down_by = p.down_by + q.down_by; same = omega (arith, ints, p.same, q.same) }

-- the difference by the complement of the second residue
pub meet_sub : (n r s : ℕ) (a b : ℤ) → s < n → Meet n (pos r) a → Meet n (pos s) b → Meet n (pos (r + (n - s))) (a -ℤ b)
meet_sub n r s a b h p q = record { up_by = p.up_by + q.down_by; down_by = p.down_by + q.up_by + 1; same = omega (arith, ints, p.same, q.same) }
