-- Words that show numbers of a type, or numbers for which they have room.
use Rattle.std.specs.Prelude.{ℕ, ◌≤◌, Bool, ℤ, List}
use Rattle.l2_bits.specs.declared.types.Ty.{Ty}
use Rattle.l2_bits.specs.Values.{IsValue}
use Rattle.l2_gates.specs.Gates.{Lit, Made}
use Rattle.l2_gates.specs.Models.{Ok}
use Rattle.l2_circuit_laws.specs.Shows.{Shows, Fits}

-- a word shows a number for which it has room, with a sign or without
pub record Tells (v : ℕ → Bool) (signed : Bool) (n : ℕ) (a : List Lit) (x : ℤ) : Type 0 where
  pub some : 1 ≤ n
  pub fits : Fits signed n x
  pub shows : Shows v n a x

-- a word shows a value of a type
pub record ShowsValue (v : ℕ → Bool) (ty : Ty) (a : List Lit) (x : ℤ) : Type 0 where
  pub value : IsValue ty x
  pub shows : Shows v ty.width a x

-- a word that shows a value of a type where its clauses are true
pub record GainsValue (v : ℕ → Bool) (m : Made) (ty : Ty) (bits : List Lit) (x : ℤ) : Type 0 where
  pub before : Ok v m
  pub word : ShowsValue v ty bits x
