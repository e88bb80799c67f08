-- Stores keep what their cells hold where such values are written.
use Rattle.std.proofs.Common.{◌≡◌, refl, sym, subst, ℕ, zero, suc, ℤ, Bool, true, false, List, [], ◌∷◌, Some}
use Rattle.std.specs.Prelude.{slice_index_or, slice_set, slice_get, ◌==◌, if◌then◌else◌, pos, neg_ℤ, ◌^◌, ◌-◌, ◌≤ℤ◌}
use Rattle.std.proofs.lemmas.Bool.{eqb-true}
use Rattle.l2_bits.specs.declared.types.Ty.{Ty}
use Rattle.l2_bits.specs.Values.{IsValue, least, greatest}
use Rattle.l2_runs.specs.declared.cells.CellType.{CellType}
use Rattle.l2_runs.specs.declared.cells.CellType.TheVariants.{Integer, Pointer}
use Rattle.l2_runs.specs.declared.cells.CellValue.{CellValue}
use Rattle.l2_runs.specs.declared.cells.CellValue.TheVariants.{Number, Null, Invalid, At}
use Rattle.l2_runs.specs.declared.member.Member.{Member}
use Rattle.l2_runs.specs.Numbers.{set_number}
use Rattle.l2_runs.specs.Store.{Object, Store, Address, or_nothing, object_at, cell_at, with_cell, with_live}
use Rattle.l2_runs.specs.Fits.{Layout}
use Rattle.std.proofs.lemmas.Bool.{and_parts}
use Rattle.l2_code.specs.Values.{same_sign, same_type}
use Rattle.l2_code.specs.Sets.{Family}
use Rattle.l2_code.specs.WellFormed.{IsConstant}
use Rattle.l2_code_laws.specs.Holding.{CellHolds, CellsHold, StoreHolds}

same_signs : (a b : Bool) → same_sign a b ≡ true → a ≡ b
same_signs true true e = refl
same_signs true false e = cc
same_signs false true e = cc
same_signs false false e = refl

-- values of a type are those of the same type
same_values : (t u : Ty) (z : ℤ) → t.width ≡ u.width → t.signed ≡ u.signed → IsValue t z → IsValue u z
same_values t u z w g h = record {
  from = subst (λ x. x ≤ℤ z) low h.from;
  to = subst (λ x. z ≤ℤ x) high h.to;
}
  where
    low : least t ≡ least u
    low = λ i. if g i then neg_ℤ (pos (2 ^ (w i - 1))) else pos 0

    high : greatest t ≡ greatest u
    high = λ i. if g i then pos (2 ^ (w i - 1) - 1) else pos (2 ^ (w i) - 1)

pub same_constants : (cells : Layout) (t u : CellType) (v : CellValue) → same_type t u ≡ true → IsConstant cells t v → IsConstant cells u v
same_constants cells (Integer t) (Integer u) (Number z) e h =
    let p = and_parts (t.width == u.width) (same_sign t.signed u.signed) e in same_values t u z (eqb-true t.width u.width p.0) (same_signs t.signed u.signed p.1) h
same_constants cells (Integer t) (Integer u) Null e h = h
same_constants cells (Integer t) (Integer u) Invalid e h = h
same_constants cells (Integer t) (Integer u) (At o f) e h = h
same_constants cells Pointer Pointer v e h = h
same_constants cells (Integer t) Pointer v e h = cc
same_constants cells Pointer (Integer u) v e h = cc

pub constants_back : (cells : Layout) (t u : CellType) (v : CellValue) → same_type t u ≡ true → IsConstant cells u v → IsConstant cells t v
constants_back cells (Integer t) (Integer u) (Number z) e h =
    let p = and_parts (t.width == u.width) (same_sign t.signed u.signed) e in
    same_values u t z (sym (eqb-true t.width u.width p.0)) (sym (same_signs t.signed u.signed p.1)) h
constants_back cells (Integer t) (Integer u) Null e h = h
constants_back cells (Integer t) (Integer u) Invalid e h = h
constants_back cells (Integer t) (Integer u) (At o f) e h = h
constants_back cells Pointer Pointer v e h = h
constants_back cells (Integer t) Pointer v e h = cc
constants_back cells Pointer (Integer u) v e h = cc

-- what holds of the new object, and of the others already, holds of all
after : (P : ℕ → Object → Type 0) (store : Store) (i : ℕ) (o : Object) → P i o → ((j : ℕ) → P j (or_nothing (slice_get store j))) → (j : ℕ) → P j (or_nothing (slice_get (slice_set store i o) j))
after P [] i o h all j = all j
after P (x ∷ xs) zero o h all zero = h
after P (x ∷ xs) zero o h all (suc j) = all (suc j)
after P (x ∷ xs) (suc i) o h all zero = all zero
after P (x ∷ xs) (suc i) o h all (suc j) = after (λ k. P (suc k)) xs i o h (λ k. all (suc k)) j

module _ (cells : Layout) where
  hold_set : (set : Member → Bool) (types : List CellType) (vs : List CellValue) (i : ℕ) (t : CellType) (v : CellValue)
      → slice_get types i ≡ Some t → CellHolds cells set t v → CellsHold cells set types vs → CellsHold cells set types (slice_set vs i v)
  hold_set set [] [] i t v e h k = tt
  hold_set set [] (w ∷ ws) i t v e h k = absurd k
  hold_set set (u ∷ types) [] i t v e h k = absurd k
  hold_set set (u ∷ types) (w ∷ ws) zero t v e h (p, q) = (subst (λ (x : CellType). CellHolds cells set x v) (first e) h, q)
    where
      first : Some u ≡ Some t → t ≡ u
      first e = cc
  hold_set set (u ∷ types) (w ∷ ws) (suc i) t v e h (p, q) = (p, hold_set set types ws i t v e h q)

  hold_get : (set : Member → Bool) (types : List CellType) (vs : List CellValue) (i : ℕ) (t : CellType) (d : CellValue)
      → slice_get types i ≡ Some t → CellsHold cells set types vs → CellHolds cells set t (slice_index_or vs i d)
  hold_get set [] vs i t d e k = cc
  hold_get set (u ∷ types) [] i t d e k = absurd k
  hold_get set (u ∷ types) (w ∷ ws) zero t d e (p, q) = subst (λ (x : CellType). CellHolds cells set x w) (first e) p
    where
      first : Some u ≡ Some t → u ≡ t
      first e = cc
  hold_get set (u ∷ types) (w ∷ ws) (suc i) t d e (p, q) = hold_get set types ws i t d e q

  module _ (f : Family) where
    hold_object : (store : Store) (n : ℕ) (o : Object) → StoreHolds cells f store → CellsHold cells (f.object n) (cells n) o.cells → StoreHolds cells f (set_number store n o)
    hold_object store zero o k h = k
    hold_object store (suc i) o k h = record { objects = at }
      where
        at : (m : ℕ) → CellsHold cells (f.object m) (cells m) (object_at (set_number store (suc i) o) m).cells
        at zero = k.objects zero
        at (suc j) = after (λ n x. CellsHold cells (f.object (suc n)) (cells (suc n)) x.cells) store i o h (λ n. k.objects (suc n)) j

    pub hold_live : (store : Store) (n : ℕ) (live : Bool) → StoreHolds cells f store → StoreHolds cells f (with_live store n live)
    hold_live store n live k = hold_object store n (record (object_at store n) { live = live }) k (k.objects n)

    pub hold_write : (store : Store) (a : Address) (t : CellType) (v : CellValue) → slice_get (cells a.object) a.offset ≡ Some t → CellHolds cells (f.object a.object) t v
        → StoreHolds cells f store → StoreHolds cells f (with_cell store a v)
    hold_write store a t v e h k =
        hold_object store a.object (record (object_at store a.object) { cells = slice_set (object_at store a.object).cells a.offset v }) k
        (hold_set (f.object a.object) (cells a.object) (object_at store a.object).cells a.offset t v e h (k.objects a.object))

    pub hold_read : (store : Store) (a : Address) (t : CellType) → slice_get (cells a.object) a.offset ≡ Some t → StoreHolds cells f store → CellHolds cells (f.object a.object) t (cell_at store a)
    hold_read store a t e k = hold_get (f.object a.object) (cells a.object) (object_at store a.object).cells a.offset t (Number (pos 0)) e (k.objects a.object)
