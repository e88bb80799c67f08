-- Lists of names that grow at their end.
use Rattle.std.proofs.Common.{◌≡◌, ℕ, zero, suc, ◌≤◌, ◌<◌, refl, ap, List, [], ◌∷◌, ◌++◌, length, arith}
use Rattle.l2_gates.specs.Models.{AllBelow}
use Rattle.l2_gates.proofs.Made.{all_up}
use Rattle.l2_blast.specs.Words.{Named, Env, no_name, name}

pub length_push : {X : Type 0} (xs : List X) (x : X) → length (xs ++ x ∷ []) ≡ suc (length xs)
length_push [] x = refl
length_push (y ∷ xs) x = ap (λ n. suc n) (length_push xs x)

pub name_push : (env : Env) (w : Named) (i : ℕ) → i < length env → name (env ++ w ∷ []) i ≡ name env i
name_push [] w i h = absurd (omega (arith, h))
name_push (x ∷ env) w zero h = refl
name_push (x ∷ env) w (suc i) h = name_push env w i (omega (arith, h))

pub name_last : (env : Env) (w : Named) → name (env ++ w ∷ []) (length env) ≡ w
name_last [] w = refl
name_last (x ∷ env) w = name_last env w

pub name_past : (env : Env) (i : ℕ) → length env ≤ i → name env i ≡ no_name
name_past [] i h = refl
name_past (x ∷ env) zero h = absurd (omega (arith, h))
name_past (x ∷ env) (suc i) h = name_past env i (omega (arith, h))

-- what holds of each name
abbrev pub Each : (Named → Type 0) → Env → Type 0
Each P [] = Unit {0}
Each P (x ∷ env) = P x × Each P env

pub each_push : (P : Named → Type 0) (env : Env) (w : Named) → Each P env → P w → Each P (env ++ w ∷ [])
each_push P [] w h k = (k, tt)
each_push P (x ∷ env) w h k = (h.0, each_push P env w h.1 k)

pub each_at : (P : Named → Type 0) (env : Env) (i : ℕ) → Each P env → P no_name → P (name env i)
each_at P [] i h k = k
each_at P (x ∷ env) zero h k = h.0
each_at P (x ∷ env) (suc i) h k = each_at P env i h.1 k

pub each_in : (P : Named → Type 0) (env : Env) (i : ℕ) → Each P env → i < length env → P (name env i)
each_in P [] i h k = absurd (omega (arith, k))
each_in P (x ∷ env) zero h k = h.0
each_in P (x ∷ env) (suc i) h k = each_in P env i h.1 (omega (arith, k))

pub each_map : (P Q : Named → Type 0) (env : Env) → ((w : Named) → P w → Q w) → Each P env → Each Q env
each_map P Q [] f h = tt
each_map P Q (x ∷ env) f h = (f x h.0, each_map P Q env f h.1)

-- the literals of a name are there
abbrev pub IsThere : ℕ → Named → Type 0
IsThere n w = AllBelow n w.bits

abbrev pub EnvBelow : ℕ → Env → Type 0
EnvBelow n env = Each (IsThere n) env

pub env_up : (n m : ℕ) (env : Env) → n ≤ m → EnvBelow n env → EnvBelow m env
env_up n m env h k = each_map (IsThere n) (IsThere m) env (λ w b. all_up n m w.bits h b) k

pub name_below : (n : ℕ) (env : Env) (i : ℕ) → EnvBelow n env → AllBelow n (name env i).bits
name_below n env i h = each_at (IsThere n) env i h tt
