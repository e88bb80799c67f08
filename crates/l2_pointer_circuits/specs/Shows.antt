-- What words of 34 bits show.
use Rattle.std.specs.Prelude.{◌≡◌, ℕ, zero, suc, ◌≤◌, ◌<◌, ◌==◌, ℤ, Bool, true, not, ◌&&◌, ◌||◌, Option, Some, List, [], ◌∷◌, length}
use Rattle.l2_gates.specs.Gates.{Lit, Made}
use Rattle.l2_gates.specs.Models.{value, Ok}
use Rattle.l2_circuit_laws.specs.Values.{values, number}
use Rattle.l2_circuit_laws.specs.Shows.{Shows}
use Rattle.l2_runs.specs.declared.cells.CellValue.{CellValue}
use Rattle.l2_runs.specs.declared.cells.CellValue.TheVariants.{Number, Null, Invalid, At}
use Rattle.l2_runs.specs.declared.member.Member.{Member}
use Rattle.l2_runs.specs.declared.member.Member.TheVariants as member
use Rattle.l2_runs.specs.Members.{has}
use Rattle.l2_runs.specs.Fits.{Layout}
use Rattle.l2_pointer_circuits.specs.Words.{selector, offset}
use Rattle.l2_pointer_circuits.specs.Tests.{Flag}

-- a selector and an offset stand for a value, whatever they are, and each for its own. The offset of Null and Invalid is 0: with
-- another, their selectors stand for places in objects whose numbers no code has.
abbrev pub pointer_at : ℕ → ℕ → CellValue
pointer_at zero zero = Null
pointer_at zero (suc f) = At 131071 (suc f)
pointer_at (suc zero) zero = Invalid
pointer_at (suc zero) (suc f) = At 0 (suc f)
pointer_at (suc (suc n)) f = At (suc n) f

-- a word shows a pointer
pub record ShowsPointer (v : ℕ → Bool) (a : List Lit) (x : CellValue) : Type 0 where
  pub size : length a ≡ 34
  pub is : pointer_at (number (values v (selector a))) (number (values v (offset a))) ≡ x

-- ---- layouts and sets

-- at most 131,070 objects, of at most 65,536 cells
pub record IsSmall (cells : Layout) : Type 0 where
  pub some : (o : ℕ) → 0 < length (cells o) → 1 ≤ o
  pub few : (o : ℕ) → 0 < length (cells o) → o ≤ 131070
  pub short : (o : ℕ) → length (cells o) ≤ 65536

-- the objects among the members have cells
abbrev pub HaveCells : Layout → List Member → Type 0
HaveCells cells set = (o : ℕ) → has set (member.Object o) ≡ true → 0 < length (cells o)

-- ---- live flags

-- no object of these flags to which the pointer leads is dead
abbrev pub is_live : (ℕ → Bool) → List Flag → CellValue → Bool
is_live v [] x = true
is_live v (t ∷ rest) (At o f) = (not (o == t.object) || value v t.live) && is_live v rest (At o f)
is_live v (t ∷ rest) x = true

-- ---- what circuits give where their clauses are true, and those before were true

-- a word that shows a pointer, where there is one
pub record GainsPointer (v : ℕ → Bool) (m : Made) (bits : List Lit) (o : Option CellValue) : Type 0 where
  pub before : Ok v m
  pub size : length bits ≡ 34
  pub shows : (x : CellValue) → o ≡ Some x → ShowsPointer v bits x

-- a word of n bits that shows a number, where there is one
pub record GainsNumber (v : ℕ → Bool) (m : Made) (n : ℕ) (bits : List Lit) (o : Option CellValue) : Type 0 where
  pub before : Ok v m
  pub size : length bits ≡ n
  pub shows : (z : ℤ) → o ≡ Some (Number z) → Shows v n bits z
