-- Where the clauses of a circuit are true, those before it are.
use Rattle.std.proofs.Common.{◌≡◌, ℕ, ◌+◌, Bool, true, false, List, [], ◌∷◌}
use Rattle.std.specs.Prelude.{nat_lt, length, if◌then◌else◌}
use Rattle.l2_gates.specs.Gates.{Lit, T, Made}
use Rattle.l2_gates.specs.Models.{Ok}
use Rattle.l2_circuits.specs.declared.columns.Kind.TheVariants.{Add, Choose}
use Rattle.l2_circuits.specs.declared.shifts.Direction.{Direction}
use Rattle.l2_circuits.specs.Words.{known_word, negated_word, choose, sub, zeros}
use Rattle.l2_circuits.specs.Products.{behind, divide_by, turned}
use Rattle.l2_circuits.specs.Shifts.{moved, shift_from}
use Rattle.l2_circuit_laws.proofs.Columns.{columns_add}

module _ (v : ℕ → Bool) (truth : v 0 ≡ true) where
  pub choose_before : (c : Lit) (a b : List Lit) (m : Made) → Ok v (choose c a b m).made → Ok v m
  choose_before c a b m ok = (columns_add v truth Choose a b c m ok).before

  pub sub_before : (a b : List Lit) (m : Made) → Ok v (sub a b m).made → Ok v m
  sub_before a b m ok = (columns_add v truth Add a (negated_word b) T m ok).before

  pub turned_before : (c : Lit) (a : List Lit) (m : Made) → Ok v (turned c a m).made → Ok v m
  turned_before c a m ok = let s = sub (zeros a) a m in sub_before (zeros a) a m (choose_before c s.bits a s.made ok)

  pub divide_before : (a b : List Lit) (m : Made) → Ok v (divide_by a b m).made → Ok v m
  divide_before [] b m ok = ok
  divide_before (x ∷ a) b m ok =
      let d = divide_by a b m in
      let r = behind x d.rest in
      let s = sub r b d.made in
      divide_before a b m (sub_before r b d.made (choose_before s.carry s.bits r s.made ok))

  stage_before : (way : Direction) (k : ℕ) (a : List Lit) (b : Lit) (bs : List Lit) (m : Made) (t : Bool)
      → ((w : List Lit) (n : Made) → Ok v (shift_from way (k + k) w bs n).made → Ok v n)
      → Ok v (if t then (let r = choose b (moved way k a) a m in shift_from way (k + k) r.bits bs r.made) else known_word a m).made → Ok v m
  stage_before way k a b bs m true next ok = let r = choose b (moved way k a) a m in choose_before b (moved way k a) a m (next r.bits r.made ok)
  stage_before way k a b bs m false next ok = ok

  pub shift_before : (way : Direction) (k : ℕ) (a b : List Lit) (m : Made) → Ok v (shift_from way k a b m).made → Ok v m
  shift_before way k a [] m ok = ok
  shift_before way k a (b ∷ bs) m ok = stage_before way k a b bs m (nat_lt k (length a)) (λ w n. shift_before way (k + k) w bs n) ok
