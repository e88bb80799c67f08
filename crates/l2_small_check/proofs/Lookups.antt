-- Where places find the entries of names.
use Rattle.std.proofs.Common.{◌≡◌, ◌≢◌, ℕ, zero, suc, ◌<◌, [], ◌∷◌, length, Some, None, refl, arith}
use Rattle.l2_small_check.specs.Elaboration.{Scope, lookup}
use Rattle.l2_small_check.specs.Tables.{entry_at}

pub lookup_none : (entries : Scope) (n : ℕ) → ((i : ℕ) → i < length entries → (entry_at entries i).name ≢ n) → None ≡ lookup entries n
lookup_none [] n h = refl
lookup_none (e ∷ rest) n h =
    let first : e.name ≢ n = h 0 (omega arith) in
    let others = lookup_none rest n (λ i l. h (suc i) (omega arith)) in
    grind arith

pub lookup_some : (entries : Scope) (n k : ℕ) → k < length entries → (entry_at entries k).name ≡ n →
    ((i : ℕ) → i < length entries → (entry_at entries i).name ≡ n → i ≡ k) → Some (entry_at entries k).object ≡ lookup entries n
lookup_some [] n k l e only = absurd (omega arith)
lookup_some (d ∷ rest) n zero l e only = grind arith
lookup_some (d ∷ rest) n (suc k) l e only =
    let first : d.name ≢ n = λ q. absurd (let z = only 0 (omega arith) q in omega arith) in
    let others = lookup_some rest n k (omega arith) e (λ i m q. let z = only (suc i) (omega arith) q in omega arith) in
    grind arith
