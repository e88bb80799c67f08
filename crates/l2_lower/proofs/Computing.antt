-- Computations in code lead on to temporaries where the operand holds what is computed.
use Rattle.std.proofs.Common.{◌≡◌, ℕ, ◌<◌, ◌≤◌, ℤ, Bool, true, false, not, Option, Some, refl, ap, ◌∙◌, arith}
use Rattle.std.proofs.lemmas.Bool.Decides.{nat_tests}
use Rattle.l2_bits.specs.declared.types.Ty.{Ty}
use Rattle.l2_bits.specs.declared.operators.Op.{Op}
use Rattle.l2_bits.specs.Operators.{convert, overflows}
use Rattle.l2_runs.specs.declared.cells.CellValue.{CellValue}
use Rattle.l2_runs.specs.declared.cells.CellValue.TheVariants.{Number}
use Rattle.l2_runs.specs.Operators.{truth}
use Rattle.l2_runs.specs.Runs.{State, Go, on_go, done}
use Rattle.l2_code.specs.declared.action.Operator.{Operator}
use Rattle.l2_code.specs.declared.action.Operand.{Operand}
use Rattle.l2_code.specs.declared.action.Operand.TheVariants.{Constant, Temp}
use Rattle.l2_code.specs.declared.action.Test.TheVariants as test
use Rattle.l2_code.specs.declared.action.Computation.{Computation}
use Rattle.l2_code.specs.declared.action.Computation.TheVariants.{Numbers, Convert, Passes}
use Rattle.l2_code.specs.declared.action.Action.TheVariants.{Compute}
use Rattle.l2_code.specs.Trees.{none}
use Rattle.l2_code.specs.Values.{Temps, with_temp, operand_value, operate, as_number, on_numbers, converted, is_true, are_numbers, compute}
use Rattle.l2_code.specs.Machine.{Setting, On, or_stuck, follow, nodes}
use Rattle.l2_lower.specs.Emitting.{Emitted, nothing, result, or_zero, computed}

pub with_temp_same : (t : Temps) (n : ℕ) (v : CellValue) → with_temp t n v n ≡ v
with_temp_same t n v = grind (arith, nat_tests)

pub with_temp_other : (t : Temps) (n i : ℕ) (v : CellValue) → i < n → with_temp t n v i ≡ t i
with_temp_other t n i v h = grind (arith, nat_tests)

-- the temporaries below n are as before
abbrev pub Stay : ℕ → Temps → Temps → Type 0
Stay n t u = (i : ℕ) → i < n → u i ≡ t i

-- an operand that reads temporaries below n alone
abbrev pub IsBelow : ℕ → Operand → Type 0
IsBelow n (Constant v) = Unit {0}
IsBelow n (Temp j) = j < n

pub below_more : (n m : ℕ) (a : Operand) → n ≤ m → IsBelow n a → IsBelow m a
below_more n m (Constant v) h p = tt
below_more n m (Temp j) h p = omega arith

pub operand_stays : (n : ℕ) (t u : Temps) (a : Operand) → IsBelow n a → Stay n t u → operand_value u a ≡ operand_value t a
operand_stays n t u (Constant v) p h = refl
operand_stays n t u (Temp j) p h = h j p

pub stay_less : (n m : ℕ) (t u : Temps) → n ≤ m → Stay m t u → Stay n t u
stay_less n m t u h k i l = k i (omega arith)

pub stay_again : (n : ℕ) (t u v : Temps) → Stay n t u → Stay n u v → Stay n t v
stay_again n t u v h k i l = k i l ∙ h i l

-- the items lead on with no effect to temporaries where the operand has this value
pub record Computes (g : Setting) (b : Bool) (n : ℕ) (x : Emitted) (t : Temps) (v : CellValue) : Type 0 where
  pub after : Temps
  pub runs : nodes g b x.nodes t ≡ done (On after)
  pub value : operand_value after x.operand ≡ v
  pub stay : Stay n t after
  pub grows : n ≤ x.next
  pub below : IsBelow x.next x.operand

module _ (g : Setting) (b : Bool) where
  pub nothing_computes : (n : ℕ) (a : Operand) (t : Temps) → IsBelow n a → Computes g b n (nothing n a) t (operand_value t a)
  nothing_computes n a t h = record { after = t; runs = refl; value = refl; stay = λ i l. refl; grows = omega arith; below = h }

  result_computes : (n : ℕ) (c : Computation) (t : Temps) (v : CellValue) → ((s : State) → compute g.types s.store t c ≡ Some v) → Computes g b n (result n (Compute n c)) t v
  result_computes n c t v h = record {
    after = with_temp t n v;
    runs = λ i s. at s i;
    value = with_temp_same t n v;
    stay = λ i l. with_temp_other t n i v l;
    grows = omega arith;
    below = omega arith;
  } where
    at : (s : State) → nodes g b (result n (Compute n c)).nodes t s ≡ Go (On (with_temp t n v)) s
    at s = ap (λ (o : Option CellValue). on_go (on_go (or_stuck o s) (λ w. done (On (with_temp t n w)))) (follow (nodes g b none))) (h s)

  constant_computes : (n : ℕ) (o : Option CellValue) (t : Temps) (v : CellValue) → o ≡ Some v → Computes g b n (nothing n (Constant (or_zero o))) t v
  constant_computes n o t v e = record { after = t; runs = refl; value = ap or_zero e; stay = λ i l. refl; grows = omega arith; below = tt }

  on_numbers_are : (op : Operator) (ty : Ty) (p q : CellValue) (x y z : ℤ) → p ≡ Number x → q ≡ Number y → operate op ty x y ≡ Some z → on_numbers (operate op ty) p q ≡ Some (Number z)
  on_numbers_are op ty p q x y z e f h = (λ i. on_numbers (operate op ty) (e i) (f i)) ∙ ap as_number h

  pub numbers_compute : (n : ℕ) (op : Operator) (ty : Ty) (c d : Operand) (t : Temps) (x y z : ℤ) → operand_value t c ≡ Number x → operand_value t d ≡ Number y → operate op ty x y ≡ Some z → Computes g b n (computed n (Numbers op ty c d)) t (Number z)
  numbers_compute n op ty (Constant p) (Constant q) t x y z e f h = constant_computes n _ t (Number z) (on_numbers_are op ty p q x y z e f h)
  numbers_compute n op ty (Constant p) (Temp j) t x y z e f h = result_computes n _ t (Number z) (λ s. on_numbers_are op ty _ _ x y z e f h)
  numbers_compute n op ty (Temp i) d t x y z e f h = result_computes n _ t (Number z) (λ s. on_numbers_are op ty _ _ x y z e f h)

  pub convert_computes : (n : ℕ) (ty : Ty) (c : Operand) (t : Temps) (x : ℤ) → operand_value t c ≡ Number x → Computes g b n (computed n (Convert ty c)) t (Number (convert ty x))
  convert_computes n ty (Constant p) t x e = constant_computes n _ t _ (ap (converted ty) e)
  convert_computes n ty (Temp j) t x e = result_computes n _ t _ (λ s. ap (converted ty) e)

  overflow_is : (op : Op) (ty : Ty) (p q : CellValue) (x y : ℤ) → p ≡ Number x → q ≡ Number y → Some (Number (truth (are_numbers (λ x y. not (overflows op ty x y)) p q))) ≡ Some (Number (truth (not (overflows op ty x y))))
  overflow_is op ty p q x y e f = λ i. Some (Number (truth (are_numbers (λ x y. not (overflows op ty x y)) (e i) (f i))))

  pub overflow_computes : (n : ℕ) (op : Op) (ty : Ty) (c d : Operand) (t : Temps) (x y : ℤ) → operand_value t c ≡ Number x → operand_value t d ≡ Number y → Computes g b n (computed n (Passes (test.Overflow op ty c d))) t (Number (truth (not (overflows op ty x y))))
  overflow_computes n op ty (Constant p) (Constant q) t x y e f = constant_computes n _ t _ (overflow_is op ty p q x y e f)
  overflow_computes n op ty (Constant p) (Temp j) t x y e f = result_computes n _ t _ (λ s. overflow_is op ty _ _ x y e f)
  overflow_computes n op ty (Temp i) d t x y e f = result_computes n _ t _ (λ s. overflow_is op ty _ _ x y e f)

pub truth_is : (b : Bool) → is_true (Number (truth b)) ≡ b
truth_is true = refl
truth_is false = refl
