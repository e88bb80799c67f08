-- The first store of a lawful program: pointers are in their sets, and objects that aren't static are dead.
use Rattle.std.proofs.Common.{◌≡◌, ℕ, zero, suc, ◌+◌, Bool, true, false, List, [], ◌∷◌, Option, Some, None, length, take, drop, map, refl, sym, ◌∙◌, subst, if◌then◌else◌, arith}
use Rattle.std.specs.Prelude.{slice_get}
use Rattle.l2_runs.specs.declared.cells.CellType.{CellType}
use Rattle.l2_runs.specs.declared.cells.CellType.TheVariants.{Integer, Pointer}
use Rattle.l2_runs.specs.declared.cells.CellValue.TheVariants as cell
use Rattle.l2_runs.specs.declared.member.Member.{Member}
use Rattle.l2_runs.specs.declared.member.Member.TheVariants as member
use Rattle.l2_runs.specs.Numbers.{at_number}
use Rattle.l2_runs.specs.Store.{or_nothing, object_at}
use Rattle.l2_runs.specs.Fits.{Layout}
use Rattle.l2_runs.specs.Members.{targets, Within}
use Rattle.l2_run_laws.specs.Watches.{CellsIn, InSets}
use Rattle.l2_run_laws.proofs.Pointing.{IsSound}
use Rattle.l2_program.specs.declared.program.ObjectInfo.{ObjectInfo}
use Rattle.l2_program.specs.declared.program.StaticValue.{StaticValue}
use Rattle.l2_program.specs.Programs.{ProgramTree}
use Rattle.l2_meaning.specs.Execution.{first_cell, value_in, static_object, dead_object, first_objects, first_store, known_cells, cells_of}
use Rattle.l2_meaning.specs.Scopes.{is_static_object, statics_of}
use Rattle.l2_meaning.specs.Pointing.{has_pointer, first_member, ValuesAreTakenIn, AreClosed}
use Rattle.l2_meaning.specs.Lawful.{HoldStart, HoldObject, HoldStatics, IsLawful}
use Rattle.l2_meaning.proofs.Starts.{first_fits}

-- the number of the object at an index, where the first one has this number
abbrev up : ℕ → ℕ → ℕ
up zero n = n
up (suc i) n = up i (suc n)

up_is : (i n : ℕ) → up i n ≡ i + n
up_is zero n = omega arith
up_is (suc i) n = let e = up_is i (suc n) in omega (arith, e)

module _ (layout : Layout) (sets : ℕ → Member → Bool) where
  dead_in : (n : ℕ) (types : List CellType) → (has_pointer types ≡ true → sets n member.Invalid ≡ true) → CellsIn (sets n) (map first_cell types)
  dead_in n [] h = tt
  dead_in n (Integer ty ∷ types) h = (λ m t. cc, dead_in n types h)
  dead_in n (Pointer ∷ types) h = (invalid, dead_in n types (λ x. h refl))
    where
      invalid : Within (targets cell.Invalid) (sets n)
      invalid member.Null t = cc
      invalid member.Invalid t = h refl
      invalid (member.Object o) t = cc

  held_in : (n f : ℕ) (types : List CellType) (values : List StaticValue) (Rest : List StaticValue → Type 0) → HoldStart layout n f types values Rest → ValuesAreTakenIn sets values →
      CellsIn (sets n) (map value_in (take (length types) values)) × ValuesAreTakenIn sets (drop (length types) values) × Rest (drop (length types) values)
  held_in n f [] values Rest h k = (tt, k, h)
  held_in n f (t ∷ types) [] Rest h k = absurd h
  held_in n f (t ∷ types) (s ∷ values) Rest h k =
      let r = held_in n (suc f) types values Rest h.4 k.1 in
      ((subst (λ o. Within (targets s.value) (sets o)) h.0 k.0, r.0), r.1, r.2)

  start_in : (n : ℕ) (os : List ObjectInfo) (values : List StaticValue) → HoldStatics layout n os values → ValuesAreTakenIn sets values →
      ((i : ℕ) (o : ObjectInfo) → slice_get os i ≡ Some o → has_pointer o.cells ≡ true → sets (up i n) (first_member o.is_static) ≡ true) →
      (i : ℕ) → CellsIn (sets (up i n)) (or_nothing (slice_get (first_objects values os) i)).cells
  start_in n [] values h k first i = tt
  start_in n (o ∷ os) values h k first i = go o.is_static refl h i (λ vs q r j. start_in (suc n) os vs q r (λ j x e. first (suc j) x e) j)
    where
      go : (b : Bool) → o.is_static ≡ b → HoldObject b layout n o.cells values (HoldStatics layout (suc n) os) → (i : ℕ) →
          ((vs : List StaticValue) → HoldStatics layout (suc n) os vs → ValuesAreTakenIn sets vs → (j : ℕ) → CellsIn (sets (up j (suc n))) (or_nothing (slice_get (first_objects vs os) j)).cells) →
          CellsIn (sets (up i n)) (or_nothing (slice_get (if b then static_object o values ∷ first_objects (drop (length o.cells) values) os else (dead_object o ∷ first_objects values os)) i)).cells
      go true e h zero rest = (held_in n 0 o.cells values (HoldStatics layout (suc n) os) h k).0
      go true e h (suc i) rest = let r = held_in n 0 o.cells values (HoldStatics layout (suc n) os) h k in rest (drop (length o.cells) values) r.2 r.1 i
      go false e h zero rest = dead_in n o.cells (λ x. subst (λ b. sets n (first_member b) ≡ true) e (first zero o refl x))
      go false e h (suc i) rest = rest values h k i

first_in : (p : ProgramTree) → IsLawful p → (sets : ℕ → Member → Bool) → AreClosed p sets → InSets sets (first_store p)
first_in p h sets closed = record { cells = at } where
  at : (n : ℕ) → CellsIn (sets n) (object_at (first_store p) n).cells
  at zero = tt
  at (suc i) =
      let number : up i 1 ≡ suc i = let e = up_is i 1 in omega (arith, e) in
      subst (λ n. CellsIn (sets n) (or_nothing (slice_get (first_store p) i)).cells) number
      (start_in (cells_of p) sets 1 p.objects p.static_values h.statics closed.statics
      (λ j o e x. subst (λ n. sets n (first_member o.is_static) ≡ true) (sym (let e = up_is j 1 in omega (arith, e))) (closed.first (suc j) o e x)) i)

pub first_sound : (p : ProgramTree) → IsLawful p → (sets : ℕ → Member → Bool) → AreClosed p sets → IsSound sets (cells_of p) (first_store p)
first_sound p h sets closed = record { fits = first_fits p h; inside = first_in p h sets closed }

-- ---- lifetimes

start_dead : (os : List ObjectInfo) (values : List StaticValue) (i : ℕ) → is_static_object (slice_get os i) ≡ false → (or_nothing (slice_get (first_objects values os) i)).live ≡ false
start_dead [] values i e = refl
start_dead (o ∷ os) values i e = go o.is_static refl i e (λ vs j f. start_dead os vs j f)
  where
    go : (b : Bool) → o.is_static ≡ b → (i : ℕ) → is_static_object (slice_get (o ∷ os) i) ≡ false → ((vs : List StaticValue) (j : ℕ) → is_static_object (slice_get os j) ≡ false → (or_nothing (slice_get (first_objects vs os) j)).live ≡ false) →
        (or_nothing (slice_get (if b then static_object o values ∷ first_objects (drop (length o.cells) values) os else (dead_object o ∷ first_objects values os)) i)).live ≡ false
    go true s zero e rest = let c : true ≡ false = sym s ∙ e in cc
    go true s (suc i) e rest = rest (drop (length o.cells) values) i e
    go false s zero e rest = refl
    go false s (suc i) e rest = rest values i e

pub first_dead : (p : ProgramTree) (n : ℕ) → statics_of p n ≡ false → (object_at (first_store p) n).live ≡ false
first_dead p zero e = refl
first_dead p (suc i) e = start_dead p.objects p.static_values i e

-- ---- pointers without an initialiser

pub fresh_in_sets : (p : ProgramTree) (sets : ℕ → Member → Bool) → AreClosed p sets → (n : ℕ) → statics_of p n ≡ false → has_pointer (cells_of p n) ≡ true → sets n member.Invalid ≡ true
fresh_in_sets p sets closed n s h = go (at_number p.objects n) refl s h
  where
    go : (x : Option ObjectInfo) → at_number p.objects n ≡ x → is_static_object x ≡ false → has_pointer (known_cells x) ≡ true → sets n member.Invalid ≡ true
    go None e s h = cc
    go (Some o) e s h = subst (λ b. sets n (first_member b) ≡ true) s (closed.first n o e h)
