-- Operands and what a walk holds, typed by the sorts of names.
use Rattle.std.proofs.Common.{◌≡◌, ℕ, zero, suc, ◌≤◌, ◌≤ℤ◌, ◌^◌, ◌-◌, Bool, true, false, if◌then◌else◌, ℤ, pos, negsuc, neg_ℤ, length, Option, Some, None, refl, ap, subst, arith}
use Rattle.std.proofs.lemmas.Int.{ints}
use Rattle.l2_bits.specs.declared.types.Ty.{Ty}
use Rattle.l2_bits.specs.Widths.{IsType}
use Rattle.l2_bits.specs.Values.{IsValue}
use Rattle.l2_bits.specs.Types.{int_type}
use Rattle.l2_runs.specs.declared.cells.CellType.{CellType}
use Rattle.l2_runs.specs.declared.cells.CellType.TheVariants.{Integer, Pointer}
use Rattle.l2_runs.specs.declared.cells.CellValue.{CellValue}
use Rattle.l2_runs.specs.declared.cells.CellValue.TheVariants.{Number, Null, Invalid, At}
use Rattle.l2_runs.specs.Fits.{Layout, CellFits}
use Rattle.l2_code.specs.declared.action.Operand.{Operand}
use Rattle.l2_code.specs.declared.action.Operand.TheVariants.{Constant, Temp}
use Rattle.l2_code.specs.WellFormed as code
use Rattle.l2_code.specs.WellFormed.{Known, Scope, IsConstant, IsWhole}
use Rattle.l2_bits.proofs.Bounds.{value_small, signed_small}
use Rattle.l2_ssa.specs.Walks.{Walk, now}
use Rattle.l2_blast.specs.Sorts.{Sort, Truth, Part, Cell, Sorts, HasType, HasNumber, IsTruth, IsOf, IsNumber}

-- a number of a type is one of some integer type
whole_of : (ty : Ty) (z : ℤ) → IsValue ty z → IsWhole (Number z)
whole_of ty (pos a) h =
    let b = value_small ty (pos a) h in
    let e : 2 ^ 64 ≡ 18446744073709551616 = refl in
    (omega (arith, ints), omega (arith, ints))
whole_of ty (negsuc a) h = go ty.signed refl
  where
    go : (s : Bool) → ty.signed ≡ s → IsWhole (Number (negsuc a))
    go true e =
        let b = signed_small ty (negsuc a) e h in
        let p : 2 ^ 63 ≡ 9223372036854775808 = refl in
        (omega (arith, ints), omega (arith, ints))
    go false e =
        let low : pos 0 ≤ℤ negsuc a = subst (λ s. (if s then neg_ℤ (pos (2 ^ (ty.width - 1))) else pos 0) ≤ℤ negsuc a) e h.from in
        absurd (omega (arith, ints))

width_least : (w : ℕ) (s : Bool) → IsType w s → 1 ≤ w
width_least zero s h = absurd h
width_least (suc w) s h = omega arith

pub some_width : (ty : Ty) → 1 ≤ ty.width
some_width ty = width_least ty.width ty.signed ty.lawful

-- an operand is of what is known of a temporary
pub record IsKnown (cells : Layout) (sorts : Sorts) (k : Known) (a : Operand) : Type 0 where
  pub of : IsOf cells sorts k.type a
  pub truth : k.is_truth ≡ true → IsTruth sorts a

abbrev pub AreKnown : Layout → Sorts → Scope → (ℕ → Operand) → Type 0
AreKnown cells sorts scope temps = (t : ℕ) (k : Known) → scope t ≡ Some k → IsKnown cells sorts k (temps t)

module _ (cells : Layout) (sorts : Sorts) where
  pub of_now : (scope : Scope) (w : Walk) (ty : CellType) (a : Operand) → AreKnown cells sorts scope w.temps → code.IsOperand cells scope ty a → IsOf cells sorts ty (now w a)
  of_now scope w ty (Constant v) known h = h
  of_now scope w ty (Temp t) known h = go (scope t) refl h
    where
      go : (x : Option Known) → scope t ≡ x → code.IsOfType ty x → IsOf cells sorts ty (w.temps t)
      go None e h = absurd h
      go (Some k) e h = subst (λ u. IsOf cells sorts u (w.temps t)) h (known t k e).of

  pub truth_now : (scope : Scope) (w : Walk) (a : Operand) → AreKnown cells sorts scope w.temps → code.IsTruth scope a → IsTruth sorts (now w a)
  truth_now scope w (Constant v) known h = tt
  truth_now scope w (Temp t) known h = go (scope t) refl h
    where
      go : (x : Option Known) → scope t ≡ x → code.IsKnownTruth x → IsTruth sorts (w.temps t)
      go None e h = absurd h
      go (Some k) e h = (known t k e).truth h

  -- of an integer type of at least so many bits
  sort_number : (least : ℕ) (ty : Ty) (s : Sort) → least ≤ ty.width → HasType (Integer ty) s → HasNumber least s
  sort_number least ty (Truth n) l h =
      let same : ty ≡ int_type = inner h.1 in
      let width : ty.width ≡ 32 = ap (λ t. t.width) same in
      (h.0, omega (arith, l, width))
    where
      inner : Integer ty ≡ Integer int_type → ty ≡ int_type
      inner e = cc
  sort_number least ty Part l h = absurd h
  sort_number least ty (Cell (Integer u)) l h =
      let same : u ≡ ty = inner h in
      let width : u.width ≡ ty.width = ap (λ t. t.width) same in
      omega (arith, l, width)
    where
      inner : Integer u ≡ Integer ty → u ≡ ty
      inner e = cc
  sort_number least ty (Cell Pointer) l h = absurd (apart h)
    where
      apart : Pointer ≡ Integer ty → ⊥
      apart e = cc

  of_number : (least : ℕ) (ty : Ty) (a : Operand) → least ≤ ty.width → IsOf cells sorts (Integer ty) a → IsNumber sorts least a
  of_number least ty (Constant (Number z)) l h = whole_of ty z h
  of_number least ty (Constant Null) l h = absurd h
  of_number least ty (Constant Invalid) l h = absurd h
  of_number least ty (Constant (At o f)) l h = absurd h
  of_number least ty (Temp n) l h = sort_number least ty (sorts n) l h

  known_number : (k : Known) (a : Operand) → IsKnown cells sorts k a → code.IsIntegerType k.type → IsNumber sorts 1 a
  known_number k a h i = go k.type refl i
    where
      go : (ty : CellType) → k.type ≡ ty → code.IsIntegerType ty → IsNumber sorts 1 a
      go (Integer ty) e i = of_number 1 ty a (some_width ty) (subst (λ u. IsOf cells sorts u a) e h.of)
      go Pointer e i = absurd i

  known_promoted : (k : Known) (a : Operand) → IsKnown cells sorts k a → code.IsPromotedType k.type → IsNumber sorts 32 a
  known_promoted k a h i = go k.type refl i
    where
      go : (ty : CellType) → k.type ≡ ty → code.IsPromotedType ty → IsNumber sorts 32 a
      go (Integer ty) e i = of_number 32 ty a i (subst (λ u. IsOf cells sorts u a) e h.of)
      go Pointer e i = absurd i

  pub number_now : (scope : Scope) (w : Walk) (a : Operand) → AreKnown cells sorts scope w.temps → code.IsInteger scope a → IsNumber sorts 1 (now w a)
  number_now scope w (Constant v) known h = h
  number_now scope w (Temp t) known h = go (scope t) refl h
    where
      go : (x : Option Known) → scope t ≡ x → code.IsKnownInteger x → IsNumber sorts 1 (w.temps t)
      go None e h = absurd h
      go (Some k) e h = known_number k (w.temps t) (known t k e) h

  pub promoted_now : (scope : Scope) (w : Walk) (a : Operand) → AreKnown cells sorts scope w.temps → code.IsPromoted scope a → IsNumber sorts 32 (now w a)
  promoted_now scope w (Constant v) known h = h
  promoted_now scope w (Temp t) known h = go (scope t) refl h
    where
      go : (x : Option Known) → scope t ≡ x → code.IsKnownPromoted x → IsNumber sorts 32 (w.temps t)
      go None e h = absurd h
      go (Some k) e h = known_promoted k (w.temps t) (known t k e) h

  pub first_number : (a : Operand) → IsOf cells sorts (Integer int_type) a → IsNumber sorts 1 a
  first_number a h = of_number 1 int_type a (some_width int_type) h

  pub variable_number : (ty : Ty) (a : Operand) → IsOf cells sorts (Integer ty) a → IsNumber sorts 1 a
  variable_number ty a h = of_number 1 ty a (some_width ty) h

  -- what an object starts with
  pub constant_of : (ty : CellType) (v : CellValue) → ((o : ℕ) → length (cells o) ≤ 65536) → CellFits cells ty v → IsConstant cells ty v
  constant_of (Integer ty) (Number z) small h = h
  constant_of (Integer ty) Null small h = absurd h
  constant_of (Integer ty) Invalid small h = absurd h
  constant_of (Integer ty) (At o f) small h = absurd h
  constant_of Pointer (Number z) small h = absurd h
  constant_of Pointer Null small h = tt
  constant_of Pointer Invalid small h = tt
  constant_of Pointer (At o f) small h = let s = small o in (h.0, omega (arith, s, h.1))
