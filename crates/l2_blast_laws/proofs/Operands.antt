-- What the words of operands show.
use Rattle.std.proofs.Common.{◌≡◌, ℕ, ◌^◌, ◌≤◌, ◌<◌, Bool, true, false, not, ℤ, pos, negsuc, neg_ℤ, ◌≤ℤ◌, ◌-◌, refl, sym, ap, ◌∙◌, subst, List, [], ◌∷◌, length, arith}
use Rattle.std.proofs.lemmas.Int.{ints}
use Rattle.std.specs.Prelude.{if◌then◌else◌}
use Rattle.std.proofs.Math.Nat.{mod-eq_of_lt}
use Rattle.l2_bits.specs.declared.types.Ty.{Ty}
use Rattle.l2_bits.specs.Types.{int_type}
use Rattle.l2_bits.specs.Values.{IsValue, wrap, residue}
use Rattle.l2_bits.proofs.Bounds.{value_small, signed_small}
use Rattle.l2_bits.proofs.Wraps.{wrap_value, wrap_of_value}
use Rattle.l2_bits.proofs.Residues.{wrap-residue}
use Rattle.l2_bits.proofs.TypeLaws.{no_sign, width_pos}
use Rattle.l2_runs.specs.declared.cells.CellType.{CellType}
use Rattle.l2_runs.specs.declared.cells.CellType.TheVariants.{Integer, Pointer}
use Rattle.l2_runs.specs.declared.cells.CellValue.{CellValue}
use Rattle.l2_runs.specs.declared.cells.CellValue.TheVariants.{Number, Null, Invalid, At}
use Rattle.l2_runs.specs.Operators.{truth}
use Rattle.l2_runs.specs.Fits.{Layout}
use Rattle.l2_code.specs.declared.action.Operand.{Operand}
use Rattle.l2_code.specs.declared.action.Operand.TheVariants.{Constant, Temp}
use Rattle.l2_code.specs.Values.{is_true, operand_value}
use Rattle.l2_code.specs.WellFormed.{IsConstant, IsWhole}
use Rattle.l2_ssa.specs.Steps.{Names, on, bit, IsBefore}
use Rattle.l2_gates.specs.Gates.{Lit}
use Rattle.l2_gates.specs.Models.{value}
use Rattle.l2_circuits.specs.Words.{literal_if}
use Rattle.l2_circuit_laws.specs.Values.{values, bit_number, number}
use Rattle.l2_circuit_laws.specs.Shows.{Shows}
use Rattle.l2_circuit_laws.proofs.Shown.{power_is, small_at}
use Rattle.l2_circuit_laws.proofs.Constants.{constants_show}
use Rattle.l2_circuit_laws.proofs.Choices.{wraps_show}
use Rattle.l2_operator_laws.specs.Words.{Tells, ShowsValue}
use Rattle.l2_pointer_circuits.specs.Shows.{ShowsPointer, IsSmall}
use Rattle.l2_blast.specs.Sorts.{Sort, Truth, Part, Cell, Sorts, width, HasTruth, IsTruth, IsPart, HasType, IsOf, HasNumber, IsNumber}
use Rattle.l2_blast.specs.Words.{Env, name, first, literal, word, constant_word, has_sign, is_signed, room, wide_word}
use Rattle.l2_blast_laws.specs.Law.{shown}
use Rattle.l2_blast_laws.proofs.Circuits.{Circuits}

-- a number of a type is one of some integer type
pub value_whole : (ty : Ty) (z : ℤ) → IsValue ty z → IsWhole (Number z)
value_whole ty (pos a) h =
    let b = value_small ty (pos a) h in
    let e : 2 ^ 64 ≡ 18446744073709551616 = refl in
    (omega (arith, ints), omega (arith, ints))
value_whole ty (negsuc a) h = go ty.signed refl
  where
    go : (s : Bool) → ty.signed ≡ s → IsWhole (Number (negsuc a))
    go true e =
        let b = signed_small ty (negsuc a) e h in
        let p : 2 ^ 63 ≡ 9223372036854775808 = refl in
        (omega (arith, ints), omega (arith, ints))
    go false e =
        let low : pos 0 ≤ℤ negsuc a = subst (λ s. (if s then neg_ℤ (pos (2 ^ (ty.width - 1))) else pos 0) ≤ℤ negsuc a) e h.from in
        absurd (omega (arith, ints))

-- ---- words of a sort

-- only bit 0 of a truth value may be true
abbrev pub IsTruthWord : (ℕ → Bool) → Sort → List Lit → Type 0
IsTruthWord v (Truth n) bits = (1 ≤ n) × (number (values v bits) ≡ bit_number (value v (first bits)))
IsTruthWord v Part bits = Unit {0}
IsTruthWord v (Cell ty) bits = Unit {0}

-- a word of this sort
pub record Proper (v : ℕ → Bool) (sort : Sort) (bits : List Lit) : Type 0 where
  pub size : length bits ≡ width sort
  pub truth : IsTruthWord v sort bits

-- and it shows this value
pub record ShownBy (v : ℕ → Bool) (sort : Sort) (bits : List Lit) (x : CellValue) : Type 0 where
  pub proper : Proper v sort bits
  pub is : x ≡ shown v sort bits

-- ---- numbers

number_below : (v : ℕ → Bool) (n : ℕ) (bits : List Lit) → length bits ≡ n → number (values v bits) < 2 ^ n
number_below v n bits e = subst (λ k. number (values v bits) < 2 ^ k) e (subst (λ p. number (values v bits) < p) (power_is bits) (small_at v bits))

-- a word shows its own number
pub own_shows : (v : ℕ → Bool) (n : ℕ) (bits : List Lit) → length bits ≡ n → Shows v n bits (pos (number (values v bits)))
own_shows v n bits e = record { size = e; number = sym (mod-eq_of_lt (number_below v n bits e)) }

pub part_below : (v : ℕ → Bool) (bits : List Lit) → length bits ≡ 17 → number (values v bits) < 131072
part_below v bits e = number_below v 17 bits e

-- of a value of a type it shows the value
pub value_shown : (v : ℕ → Bool) (ty : Ty) (bits : List Lit) (z : ℤ) → ShowsValue v ty bits z → Number z ≡ shown v (Cell (Integer ty)) bits
value_shown v ty bits z h = ap Number (sym (ap (λ n. wrap ty (pos n)) h.shows.number ∙ wrap-residue ty z ∙ wrap_of_value ty z h.value))

pub cell_shows : (v : ℕ → Bool) (ty : Ty) (bits : List Lit) → length bits ≡ ty.width → ShowsValue v ty bits (wrap ty (pos (number (values v bits))))
cell_shows v ty bits e = record { value = wrap_value ty (pos (number (values v bits))); shows = wraps_show v ty bits (pos (number (values v bits))) (own_shows v ty.width bits e) }

-- ---- truth values

truth_small : (b : Bool) → bit_number b ≡ residue (2 ^ 32) (truth b)
truth_small true = refl
truth_small false = refl

truth_value : (b : Bool) → IsValue int_type (truth b)
truth_value true = record { from = omega (arith, ints); to = omega (arith, ints) }
truth_value false = record { from = omega (arith, ints); to = omega (arith, ints) }

pub truth_shows : (v : ℕ → Bool) (bits : List Lit) → Proper v (Truth 32) bits → ShowsValue v int_type bits (truth (value v (first bits)))
truth_shows v bits h = record {
  value = truth_value (value v (first bits));
  shows = record { size = h.size; number = h.truth.1 ∙ truth_small (value v (first bits)) };
}

bit_on : (b : Bool) → is_true (bit b) ≡ b
bit_on true = refl
bit_on false = refl

if_value : (v : ℕ → Bool) → v 0 ≡ true → (b : Bool) → value v (literal_if b) ≡ b
if_value v t true = t
if_value v t false = ap not t

one_bit : (v : ℕ → Bool) (bits : List Lit) → length bits ≡ 1 → number (values v bits) ≡ bit_number (value v (first bits))
one_bit v [] e = absurd (omega arith)
one_bit v (l ∷ []) e = omega arith
one_bit v (l ∷ k ∷ rest) e = absurd (omega arith)

one_on : (ty : Ty) → ty.width ≡ 1 → (b : Bool) → is_true (Number (wrap ty (pos (bit_number b)))) ≡ b
one_on ty e b = ap (λ z. is_true (Number z)) (wrap_of_value ty (pos (bit_number b)) (is_value b)) ∙ on_number b
  where
    is_value : (b : Bool) → IsValue ty (pos (bit_number b))
    is_value b = subst (λ t. IsValue t (pos (bit_number b))) (sym (Rattle.l2_bits.proofs.TypeLaws.same_type ty Rattle.l2_bits.specs.Types.bool_type e (no_sign ty e))) (of_bool b)
      where
        of_bool : (b : Bool) → IsValue Rattle.l2_bits.specs.Types.bool_type (pos (bit_number b))
        of_bool true = record { from = omega (arith, ints); to = omega (arith, ints) }
        of_bool false = record { from = omega (arith, ints); to = omega (arith, ints) }

    on_number : (b : Bool) → is_true (Number (pos (bit_number b))) ≡ b
    on_number true = refl
    on_number false = refl

sort_on : (v : ℕ → Bool) (sort : Sort) (bits : List Lit) → HasTruth sort → Proper v sort bits → is_true (shown v sort bits) ≡ value v (first bits)
sort_on v (Truth n) bits h p = bit_on (value v (first bits))
sort_on v Part bits h p = absurd h
sort_on v (Cell (Integer ty)) bits h p = ap (λ n. is_true (Number (wrap ty (pos n)))) (one_bit v bits (p.size ∙ h)) ∙ one_on ty h (value v (first bits))
sort_on v (Cell Pointer) bits h p = absurd h

-- ---- operands

-- a number as a word that has a sign or not, of at least so many bits
pub record Told (v : ℕ → Bool) (least : ℕ) (signed : Bool) (bits : List Lit) (x : CellValue) : Type 0 where
  pub number : ℤ
  pub is : x ≡ Number number
  pub width : ℕ
  pub enough : least ≤ width
  pub whole : IsWhole (Number number)
  pub tells : Tells v signed width bits number

-- a number as a word of so many bits
pub record Wide (v : ℕ → Bool) (n : ℕ) (bits : List Lit) (x : CellValue) : Type 0 where
  pub number : ℤ
  pub is : x ≡ Number number
  pub whole : IsWhole (Number number)
  pub shows : Shows v n bits number

-- a value of a type
pub record OfType (v : ℕ → Bool) (ty : Ty) (bits : List Lit) (x : CellValue) : Type 0 where
  pub number : ℤ
  pub is : x ≡ Number number
  pub shows : ShowsValue v ty bits number

module _ (c : Circuits) (v : ℕ → Bool) (true_one : v 0 ≡ true) (cells : Layout) (small : IsSmall cells) (sorts : Sorts) (env : Env) (t : Names)
    (sorted : (i : ℕ) → i < length env → (name env i).sort ≡ sorts i)
    (at : (i : ℕ) → i < length env → ShownBy v (sorts i) (name env i).bits (t i)) where
  pub literal_is : (a : Operand) → IsBefore (length env) a → IsTruth sorts a → on t a ≡ value v (literal env a)
  literal_is (Constant x) b h = sym (if_value v true_one (is_true x))
  literal_is (Temp i) b h = ap is_true (at i b).is ∙ sort_on v (sorts i) (name env i).bits h (at i b).proper

  part_at : (sort : Sort) (bits : List Lit) (x : CellValue) → sort ≡ Part → ShownBy v sort bits x → (k : ℕ) × (x ≡ Number (pos k)) × (k < 131072) × (Shows v 17 bits (pos k))
  part_at (Truth n) bits x e h = cc
  part_at Part bits x e h = (number (values v bits), h.is, part_below v bits h.proper.size, own_shows v 17 bits h.proper.size)
  part_at (Cell ty) bits x e h = cc

  pub part_is : (a : Operand) → IsBefore (length env) a → IsPart sorts a → (k : ℕ) × (operand_value t a ≡ Number (pos k)) × (k < 131072) × (Shows v 17 (word 17 env a) (pos k))
  part_is (Constant x) b h = absurd h
  part_is (Temp i) b h = part_at (sorts i) (name env i).bits (t i) h (at i b)

  -- ---- values of a type

  typed_at : (ty u : Ty) (bits : List Lit) (x : CellValue) → Integer u ≡ Integer ty → ShownBy v (Cell (Integer u)) bits x → OfType v ty bits x
  typed_at ty u bits x e h = subst (λ (k : CellType). At k) e (record { number = wrap u (pos (number (values v bits))); is = h.is; shows = cell_shows v u bits h.proper.size })
    where
      At : CellType → Type 0
      At (Integer w) = OfType v w bits x
      At Pointer = ⊥

  truth_at : (ty : Ty) (n : ℕ) (bits : List Lit) (x : CellValue) → n ≡ 32 → Integer ty ≡ Integer int_type → ShownBy v (Truth n) bits x → OfType v ty bits x
  truth_at ty n bits x e f h = subst (λ (k : CellType). At k) (sym f) (record { number = truth (value v (first bits)); is = h.is; shows = truth_shows v bits (subst (λ k. Proper v (Truth k) bits) e h.proper) })
    where
      At : CellType → Type 0
      At (Integer w) = OfType v w bits x
      At Pointer = ⊥

  of_type_at : (ty : Ty) (sort : Sort) (bits : List Lit) (x : CellValue) → HasType (Integer ty) sort → ShownBy v sort bits x → OfType v ty bits x
  of_type_at ty (Truth n) bits x h k = truth_at ty n bits x h.0 h.1 k
  of_type_at ty Part bits x h k = absurd h
  of_type_at ty (Cell (Integer u)) bits x h k = typed_at ty u bits x h k
  of_type_at ty (Cell Pointer) bits x h k = cc

  constant_of : (ty : Ty) (x : CellValue) → IsConstant cells (Integer ty) x → OfType v ty (constant_word ty.width x) x
  constant_of ty (Number z) h = record { number = z; is = refl; shows = record { value = h; shows = constants_show v true_one ty.width z } }
  constant_of ty Null h = absurd h
  constant_of ty Invalid h = absurd h
  constant_of ty (At o f) h = absurd h

  pub value_is : (ty : Ty) (a : Operand) → IsBefore (length env) a → IsOf cells sorts (Integer ty) a → OfType v ty (word ty.width env a) (operand_value t a)
  value_is ty (Constant x) b h = constant_of ty x h
  value_is ty (Temp i) b h = of_type_at ty (sorts i) (name env i).bits (t i) h (at i b)

  -- ---- numbers of any type

  number_at : (least : ℕ) (sort : Sort) (bits : List Lit) (x : CellValue) → HasNumber least sort → ShownBy v sort bits x → Told v least (has_sign sort) bits x
  number_at least (Truth n) bits x h k =
      let s = truth_shows v bits (subst (λ i. Proper v (Truth i) bits) h.0 k.proper) in
      record { number = truth (value v (first bits)); is = k.is; width = 32; enough = h.1; whole = value_whole int_type (truth (value v (first bits))) s.value; tells = c.values_tell v int_type bits (truth (value v (first bits))) s }
  number_at least Part bits x h k = absurd h
  number_at least (Cell (Integer ty)) bits x h k =
      let s = cell_shows v ty bits k.proper.size in
      record { number = wrap ty (pos (number (values v bits))); is = k.is; width = ty.width; enough = h; whole = value_whole ty (wrap ty (pos (number (values v bits)))) s.value; tells = c.values_tell v ty bits (wrap ty (pos (number (values v bits)))) s }
  number_at least (Cell Pointer) bits x h k = absurd h

  constant_number : (least : ℕ) (x : CellValue) → least ≤ 66 → IsWhole x → Told v least true (constant_word room x) x
  constant_number least (Number z) e h = record { number = z; is = refl; width = 66; enough = e; whole = h; tells = c.constants_tell v true_one z h.0 h.1 }
  constant_number least Null e h = absurd h
  constant_number least Invalid e h = absurd h
  constant_number least (At o f) e h = absurd h

  pub number_is : (least : ℕ) (a : Operand) → least ≤ 66 → IsBefore (length env) a → IsNumber sorts least a → Told v least (is_signed env a) (word room env a) (operand_value t a)
  number_is least (Constant x) e b h = constant_number least x e h
  number_is least (Temp i) e b h =
      subst (λ s. Told v least (has_sign s) (name env i).bits (t i)) (sym (sorted i b)) (number_at least (sorts i) (name env i).bits (t i) h (at i b))

  pub wide_is : (n : ℕ) (a : Operand) → IsBefore (length env) a → IsNumber sorts 1 a → Wide v n (wide_word n env a) (operand_value t a)
  wide_is n a b h =
      let k = number_is 1 a (omega arith) b h in
      record { number = k.number; is = k.is; whole = k.whole; shows = c.resized_show v true_one (is_signed env a) k.width n (word room env a) k.number k.tells }

  -- ---- pointers

  pointer_at_sort : (sort : Sort) (bits : List Lit) (x : CellValue) → HasType Pointer sort → ShownBy v sort bits x → ShowsPointer v bits x
  pointer_at_sort (Truth n) bits x h k = let e = h.1 in cc
  pointer_at_sort Part bits x h k = absurd h
  pointer_at_sort (Cell (Integer u)) bits x h k = cc
  pointer_at_sort (Cell Pointer) bits x h k = record { size = k.proper.size; is = sym k.is }

  constant_pointer : (x : CellValue) → IsConstant cells Pointer x → ShowsPointer v (constant_word 34 x) x
  constant_pointer (Number z) h = absurd h
  constant_pointer Null h = c.pointers_show v true_one cells small Null h
  constant_pointer Invalid h = c.pointers_show v true_one cells small Invalid h
  constant_pointer (At o f) h = c.pointers_show v true_one cells small (At o f) h

  pub pointer_is : (a : Operand) → IsBefore (length env) a → IsOf cells sorts Pointer a → ShowsPointer v (word 34 env a) (operand_value t a)
  pointer_is (Constant x) b h = constant_pointer x h
  pointer_is (Temp i) b h = pointer_at_sort (sorts i) (name env i).bits (t i) h (at i b)
