-- Objects of a walk, typed cell by cell.
use Rattle.std.proofs.Common.{◌≡◌, ℕ, zero, suc, ◌<◌, ◌≤◌, Bool, true, false, if◌then◌else◌, List, [], ◌∷◌, ◌++◌, length, Option, Some, None, refl, sym, ap, ◌∙◌, subst, arith, pos, slice_get, slice_set, slice_index_or}
use Rattle.std.proofs.lemmas.Int.{ints}
use Rattle.l2_bits.specs.Types.{bool_type}
use Rattle.l2_bits.specs.Values.{IsValue}
use Rattle.l2_runs.specs.declared.cells.CellType.{CellType}
use Rattle.l2_runs.specs.declared.cells.CellType.TheVariants.{Integer, Pointer}
use Rattle.l2_runs.specs.declared.cells.CellValue.{CellValue}
use Rattle.l2_runs.specs.declared.member.Member.{Member}
use Rattle.l2_runs.specs.declared.member.Member.TheVariants as member
use Rattle.l2_runs.specs.Numbers.{at_number, set_number}
use Rattle.l2_runs.specs.Fits.{Layout, CellsFit}
use Rattle.l2_meaning.proofs.Numbers.{zero_value}
use Rattle.l2_code.specs.declared.action.Operand.{Operand}
use Rattle.l2_code.specs.declared.action.Operand.TheVariants.{Constant, Temp}
use Rattle.l2_code.specs.declared.code.CodeObject.{CodeObject}
use Rattle.l2_code.specs.Trees.{CodeTree}
use Rattle.l2_code.specs.Values.{same_type}
use Rattle.l2_code.specs.Modes.{types_of, object_cells}
use Rattle.l2_code.specs.WellFormed.{IsObject}
use Rattle.l2_lower.proofs.Converted.{same_types}
use Rattle.l2_ssa.specs.Walks.{Setting, Walk, Slot, Place, F, or_no_slot, slot_at, cell_at, with_cell, with_live, places_in, candidates, zero_of}
use Rattle.l2_ssa.specs.Law.{constants, flag_of, first_slots}
use Rattle.l2_blast.specs.Sorts.{Sort, Truth, Part, Cell, Sorts, HasTruth, HasType, IsTruth, IsOf}
use Rattle.l2_typed_steps.proofs.Operands.{constant_of}

pub one_value : IsValue bool_type (pos 1)
one_value = record { from = omega (arith, ints); to = omega (arith, ints) }

-- a flag is a truth value
pub sort_truth : (x : Sort) → HasType (Integer bool_type) x → HasTruth x
sort_truth (Truth n) h = tt
sort_truth Part h = absurd h
sort_truth (Cell (Integer u)) h = ap (λ t. t.width) (inner h)
  where
    inner : Integer u ≡ Integer bool_type → u ≡ bool_type
    inner e = cc
sort_truth (Cell Pointer) h = absurd (apart h)
  where
    apart : Pointer ≡ Integer bool_type → ⊥
    apart e = cc

pub flag_truth : (layout : Layout) (sorts : Sorts) (a : Operand) → IsOf layout sorts (Integer bool_type) a → IsTruth sorts a
flag_truth layout sorts (Constant v) h = tt
flag_truth layout sorts (Temp n) h = sort_truth (sorts n) h

pub same_is : (t u : CellType) → same_type t u ≡ true → t ≡ u
same_is (Integer t) (Integer u) h = ap Integer (same_types t u h)
same_is (Integer t) Pointer h = absurd (cc h)
same_is Pointer (Integer u) h = absurd (cc h)
same_is Pointer Pointer h = refl

abbrev pub plus : ℕ → ℕ → ℕ
plus o zero = o
plus o (suc i) = plus (suc o) i

plus_suc : (o i : ℕ) → plus (suc o) i ≡ suc (plus o i)
plus_suc o zero = refl
plus_suc o (suc i) = plus_suc (suc o) i

pub plus_zero : (i : ℕ) → plus 0 i ≡ i
plus_zero zero = refl
plus_zero (suc i) = plus_suc 0 i ∙ ap suc (plus_zero i)

pub from_one : (i : ℕ) → plus 1 i ≡ suc i
from_one i = plus_suc 0 i ∙ ap suc (plus_zero i)

pub within : {A : Type 0} (xs : List A) (i : ℕ) (x : A) → slice_get xs i ≡ Some x → i < length xs
within [] i x h = absurd (cc h)
within (y ∷ xs) zero x h = omega arith
within (y ∷ xs) (suc i) x h = let l = within xs i x h in omega (arith, l)

module _ (c : CodeTree) (sorts : Sorts) where
  abbrev pub cells : Layout
  cells = (types_of c).objects

  -- cells of these types
  abbrev pub CellsOk : List CellType → List Operand → Type 0
  CellsOk [] [] = Unit {0}
  CellsOk [] (x ∷ xs) = ⊥
  CellsOk (t ∷ ts) [] = ⊥
  CellsOk (t ∷ ts) (x ∷ xs) = IsOf cells sorts t x × CellsOk ts xs

  pub record SlotOk (ts : List CellType) (x : Slot) : Type 0 where
    pub cells_ok : CellsOk ts x.cells
    pub live : IsOf cells sorts (Integer bool_type) x.live

  -- the objects from a number on
  abbrev pub SlotsOk : ℕ → List Slot → Type 0
  SlotsOk o [] = (i : ℕ) → CellsOk (cells (plus o i)) []
  SlotsOk o (x ∷ xs) = SlotOk (cells o) x × SlotsOk (suc o) xs

  slot_ok : (o : ℕ) (xs : List Slot) (i : ℕ) → SlotsOk o xs → SlotOk (cells (plus o i)) (or_no_slot (slice_get xs i))
  slot_ok o [] i h = record { cells_ok = h i; live = zero_value bool_type }
  slot_ok o (x ∷ xs) zero h = h.0
  slot_ok o (x ∷ xs) (suc i) h = slot_ok (suc o) xs i h.1

  pub slot_at_ok : (xs : List Slot) (o : ℕ) → SlotsOk 1 xs → SlotOk (cells o) (slot_at xs o)
  slot_at_ok xs zero h = record { cells_ok = tt; live = zero_value bool_type }
  slot_at_ok xs (suc i) h = subst (λ n. SlotOk (cells n) (or_no_slot (slice_get xs i))) (from_one i) (slot_ok 1 xs i h)

  get_ok : (ts : List CellType) (xs : List Operand) (f : ℕ) (t : CellType) → CellsOk ts xs → slice_get ts f ≡ Some t → IsOf cells sorts t (slice_index_or xs f F)
  get_ok [] xs f t h e = absurd (cc e)
  get_ok (u ∷ ts) [] f t h e = absurd h
  get_ok (u ∷ ts) (x ∷ xs) zero t h e = subst (λ v. IsOf cells sorts v x) (inner e) h.0
    where
      inner : Some u ≡ Some t → u ≡ t
      inner e = cc
  get_ok (u ∷ ts) (x ∷ xs) (suc f) t h e = get_ok ts xs f t h.1 e

  pub cell_ok : (xs : List Slot) (o f : ℕ) (t : CellType) → SlotsOk 1 xs → slice_get (cells o) f ≡ Some t → IsOf cells sorts t (cell_at xs o f)
  cell_ok xs o f t h e = get_ok (cells o) (slot_at xs o).cells f t (slot_at_ok xs o h).cells_ok e

  set_ok : (ts : List CellType) (xs : List Operand) (f : ℕ) (t : CellType) (a : Operand) → CellsOk ts xs → slice_get ts f ≡ Some t → IsOf cells sorts t a → CellsOk ts (slice_set xs f a)
  set_ok [] [] f t a h e k = tt
  set_ok [] (x ∷ xs) f t a h e k = absurd h
  set_ok (u ∷ ts) [] f t a h e k = absurd h
  set_ok (u ∷ ts) (x ∷ xs) zero t a h e k = (subst (λ v. IsOf cells sorts v a) (inner e) k, h.1)
    where
      inner : Some u ≡ Some t → t ≡ u
      inner e = cc
  set_ok (u ∷ ts) (x ∷ xs) (suc f) t a h e k = (h.0, set_ok ts xs f t a h.1 e k)

  slots_set : (o : ℕ) (xs : List Slot) (i : ℕ) (x : Slot) → SlotsOk o xs → SlotOk (cells (plus o i)) x → SlotsOk o (slice_set xs i x)
  slots_set o [] i x h k = h
  slots_set o (y ∷ xs) zero x h k = (k, h.1)
  slots_set o (y ∷ xs) (suc i) x h k = (h.0, slots_set (suc o) xs i x h.1 k)

  number_set : (xs : List Slot) (o : ℕ) (x : Slot) → SlotsOk 1 xs → SlotOk (cells o) x → SlotsOk 1 (set_number xs o x)
  number_set xs zero x h k = h
  number_set xs (suc i) x h k = slots_set 1 xs i x h (subst (λ n. SlotOk (cells n) x) (sym (from_one i)) k)

  pub with_cell_ok : (w : Walk) (o f : ℕ) (t : CellType) (a : Operand) → SlotsOk 1 w.slots → slice_get (cells o) f ≡ Some t → IsOf cells sorts t a → SlotsOk 1 (with_cell w o f a).slots
  with_cell_ok w o f t a h e k =
      let s = slot_at_ok w.slots o h in
      number_set w.slots o _ h (record { cells_ok = set_ok (cells o) (slot_at w.slots o).cells f t a s.cells_ok e k; live = s.live })

  pub with_live_ok : (w : Walk) (o : ℕ) (a : Operand) → SlotsOk 1 w.slots → IsOf cells sorts (Integer bool_type) a → SlotsOk 1 (with_live w o a).slots
  with_live_ok w o a h k = let s = slot_at_ok w.slots o h in number_set w.slots o _ h (record { cells_ok = s.cells_ok; live = k })

  -- ---- places

  abbrev pub IsPlace : CellType → Place → Type 0
  IsPlace ty p = slice_get (cells p.object) p.offset ≡ Some ty

  abbrev pub ArePlaces : CellType → List Place → Type 0
  ArePlaces ty [] = Unit {0}
  ArePlaces ty (p ∷ ps) = IsPlace ty p × ArePlaces ty ps

  places_app : (ty : CellType) (ps qs : List Place) → ArePlaces ty ps → ArePlaces ty qs → ArePlaces ty (ps ++ qs)
  places_app ty [] qs h k = k
  places_app ty (p ∷ ps) qs h k = (h.0, places_app ty ps qs h.1 k)

  places_in_ok : (ty : CellType) (o f : ℕ) (ts : List CellType) → ((i : ℕ) → slice_get ts i ≡ slice_get (cells o) (plus f i)) → ArePlaces ty (places_in ty o f ts)
  places_in_ok ty o f [] h = tt
  places_in_ok ty o f (t ∷ ts) h = go (same_type ty t) refl (places_in_ok ty o (suc f) ts (λ i. h (suc i)))
    where
      go : (b : Bool) → same_type ty t ≡ b → ArePlaces ty (places_in ty o (suc f) ts)
          → ArePlaces ty (if b then record { object = o; offset = f } ∷ places_in ty o (suc f) ts else places_in ty o (suc f) ts)
      go true e rest = (sym (h 0) ∙ ap Some (sym (same_is ty t e)), rest)
      go false e rest = rest

  object_places : (ty : CellType) (o : ℕ) (b : Bool) → ArePlaces ty (if b then places_in ty o 0 (cells o) else [])
  object_places ty o true = places_in_ok ty o 0 (cells o) (λ i. ap (slice_get (cells o)) (sym (plus_zero i)))
  object_places ty o false = tt

  pub candidates_ok : (g : Setting) → g.types ≡ types_of c → (set : Member → Bool) (ty : CellType) (o more : ℕ) → ArePlaces ty (candidates g set ty o more)
  candidates_ok g e set ty o zero = tt
  candidates_ok g e set ty o (suc more) =
      places_app ty _ _
      (subst (λ (t : Layout). ArePlaces ty (if set (member.Object o) then places_in ty o 0 (t o) else [])) (sym (ap (λ t. t.objects) e)) (object_places ty o (set (member.Object o))))
      (candidates_ok g e set ty (suc o) more)

  pub zero_ok : (ty : CellType) → IsOf cells sorts ty (zero_of ty)
  zero_ok (Integer ty) = zero_value ty
  zero_ok Pointer = tt

  -- ---- the start

  constants_ok : ((o : ℕ) → length (cells o) ≤ 65536) → (ts : List CellType) (vs : List CellValue) → CellsFit cells ts vs → CellsOk ts (constants vs)
  constants_ok small [] [] h = tt
  constants_ok small [] (v ∷ vs) h = absurd h
  constants_ok small (t ∷ ts) [] h = absurd h
  constants_ok small (t ∷ ts) (v ∷ vs) h = (constant_of cells sorts t v small h.0, constants_ok small ts vs h.1)

  flag_ok : (b : Bool) → IsOf cells sorts (Integer bool_type) (flag_of b)
  flag_ok true = one_value
  flag_ok false = zero_value bool_type

  -- the objects from an index on
  starts_ok : ((o : ℕ) → length (cells o) ≤ 65536) → (os : List CodeObject) (o : ℕ) → ((i : ℕ) → object_cells (slice_get os i) ≡ cells (plus o i)) → ((i : ℕ) (x : CodeObject) → slice_get os i ≡ Some x → CellsFit cells x.cells x.start)
      → SlotsOk o (first_slots os)
  starts_ok small [] o same fits = λ i. subst (λ ts. CellsOk ts []) (same i) tt
  starts_ok small (x ∷ os) o same fits = (
    record { cells_ok = subst (λ ts. CellsOk ts (constants x.start)) (same 0) (constants_ok small x.cells x.start (fits 0 x refl)); live = flag_ok _ },
    starts_ok small os (suc o) (λ i. same (suc i)) (λ i. fits (suc i)),
  )

  pub first_ok : ((o : ℕ) → length (cells o) ≤ 65536) → ((n : ℕ) (x : CodeObject) → at_number c.objects n ≡ Some x → IsObject cells x) → SlotsOk 1 (first_slots c.objects)
  first_ok small objects = starts_ok small c.objects 1 (λ i. ap cells (sym (from_one i))) (λ i x e. (objects (suc i) x e).fits)

  pub object_small : ((n : ℕ) (x : CodeObject) → at_number c.objects n ≡ Some x → IsObject cells x) → (o : ℕ) → length (cells o) ≤ 65536
  object_small objects o = go (at_number c.objects o) refl
    where
      go : (x : Option CodeObject) → at_number c.objects o ≡ x → length (object_cells x) ≤ 65536
      go None e = omega arith
      go (Some x) e = (objects o x e).sized.1
