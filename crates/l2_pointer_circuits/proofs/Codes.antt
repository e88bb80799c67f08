-- Layouts and sets of codes.
use Rattle.std.proofs.Common.{ℕ, zero, suc, ◌≤◌, ◌<◌, Option, Some, None, List, [], ◌∷◌, length, arith}
use Rattle.std.specs.Prelude.{slice_get}
use Rattle.l2_runs.specs.Numbers.{at_number}
use Rattle.l2_code.specs.declared.code.CodeObject.{CodeObject}
use Rattle.l2_code.specs.Modes.{object_cells}
use Rattle.l2_code.specs.Sets.{HasCell}
use Rattle.l2_code_laws.proofs.Starts.{small_objects}
use Rattle.l2_pointer_circuits.specs.Law.{CodesAreSmall, SetsHaveCells}

there : (objects : List CodeObject) (n : ℕ) → 0 < length (object_cells (slice_get objects n)) → n < length objects
there [] n h = absurd (omega arith)
there (o ∷ objects) zero h = omega arith
there (o ∷ objects) (suc n) h = let l = there objects n h in omega arith

number_some : (objects : List CodeObject) (o : ℕ) → 0 < length (object_cells (at_number objects o)) → 1 ≤ o
number_some objects zero h = absurd (omega arith)
number_some objects (suc n) h = omega arith

number_few : (objects : List CodeObject) (o : ℕ) → 0 < length (object_cells (at_number objects o)) → o ≤ length objects
number_few objects zero h = omega arith
number_few objects (suc n) h = let l = there objects n h in omega arith

pub codes_are_small : CodesAreSmall
codes_are_small c w = record {
  some = number_some c.objects;
  few = λ o h. (let l = number_few c.objects o h in let k = w.few_objects in omega arith);
  short = small_objects c w;
}

has_cells : (o : Option CodeObject) → HasCell o → 0 < length (object_cells o)
has_cells None h = absurd h
has_cells (Some o) h = h

pub sets_have_cells : SetsHaveCells
sets_have_cells c s n over = (λ o e. has_cells (at_number c.objects o) (over.temps n o e), λ o e. has_cells (at_number c.objects o) (over.objects n o e))
