-- What a table of a type says of each set.
use Rattle.std.proofs.Common.{◌≡◌, ℕ, zero, suc, ◌+◌, ◌==◌, ◌<◌, ◌++◌, Bool, true, false, ◌&&◌, if◌then◌else◌, List, [], ◌∷◌, length, get_or, map, slice_get, Contains, refl, sym, ap, ◌∙◌, arith, subst}
use Rattle.std.proofs.lemmas.Bool.{eq-eqb, eqb-true}
use Rattle.l2_runs.specs.declared.cells.CellType.{CellType}
use Rattle.l2_runs.specs.declared.cells.CellType.TheVariants.{Integer, Pointer}
use Rattle.l2_runs.specs.declared.member.Member.{Member}
use Rattle.l2_runs.specs.declared.member.Member.TheVariants.{Object}
use Rattle.l2_runs.specs.Numbers.{at_number}
use Rattle.l2_runs.specs.Members.{has}
use Rattle.l2_code.specs.declared.code.CodeObject.{CodeObject}
use Rattle.l2_code.specs.declared.sets.PointsTo.{PointsTo}
use Rattle.l2_code.specs.Values.{same_sign, same_type}
use Rattle.l2_code.specs.Sets.{members_of}
use Rattle.l2_code.specs.Sizes.{cells_of_type, cells_in}
use Rattle.l2_size.specs.declared.tables.Table.{Table}
use Rattle.l2_size.specs.Capped.{capped}
use Rattle.l2_size.specs.Tables.{or_zero, set_count, IsTable, AreTables}
use Rattle.l2_size.proofs.Counts.{none_in}

-- ---- equal types

both_true : (p q : Bool) → (p && q) ≡ true → (p ≡ true) × (q ≡ true)
both_true true q e = (refl, e)
both_true false q e = cc

same_signs : (a b c : Bool) → same_sign a b ≡ true → same_sign a c ≡ same_sign b c
same_signs true true c e = refl
same_signs true false c e = cc
same_signs false true c e = cc
same_signs false false c e = refl

like : (a b t : CellType) → same_type a b ≡ true → same_type a t ≡ same_type b t
like (Integer a) (Integer b) (Integer t) e =
    let (w, s) = both_true (a.width == b.width) (same_sign a.signed b.signed) e in
    ap (λ n. (n == t.width) && same_sign a.signed t.signed) (eqb-true a.width b.width w) ∙ ap (λ p. (b.width == t.width) && p) (same_signs a.signed b.signed t.signed s)
like (Integer a) (Integer b) Pointer e = refl
like (Integer a) Pointer t e = cc
like Pointer (Integer b) t e = cc
like Pointer Pointer t e = refl

cells_like : (a b : CellType) → same_type a b ≡ true → (types : List CellType) → cells_of_type a types ≡ cells_of_type b types
cells_like a b e [] = refl
cells_like a b e (t ∷ types) =
    ap (λ p. if p then suc (cells_of_type a types) else cells_of_type a types) (like a b t e) ∙ ap (λ n. if same_type b t then suc n else n) (cells_like a b e types)

in_like : (a b : CellType) → same_type a b ≡ true → (set : Member → Bool) (n : ℕ) (objects : List CodeObject) → cells_in set a n objects ≡ cells_in set b n objects
in_like a b e set n [] = refl
in_like a b e set n (o ∷ rest) =
    ap (λ c. if set (Object n) then c + cells_in set a (suc n) rest else cells_in set a (suc n) rest) (cells_like a b e o.cells)
    ∙ ap (λ c. if set (Object n) then cells_of_type b o.cells + c else c) (in_like a b e set (suc n) rest)

-- ---- tables

none_there : (objects : List CodeObject) (ty : CellType) → 0 ≡ capped (cells_in (has []) ty 1 objects)
none_there objects ty = sym (ap capped (none_in (has []) ty 1 objects (λ o h. refl)))

get_of : (objects : List CodeObject) (ty : CellType) (sets : List PointsTo) (i : ℕ)
    → or_zero (slice_get (map (set_count objects ty) sets) i) ≡ capped (cells_in (has (members_of (slice_get sets i))) ty 1 objects)
get_of objects ty [] i = none_there objects ty
get_of objects ty (s ∷ sets) zero = refl
get_of objects ty (s ∷ sets) (suc i) = get_of objects ty sets i

number_of : (objects : List CodeObject) (ty : CellType) (sets : List PointsTo) (n : ℕ)
    → or_zero (at_number (map (set_count objects ty) sets) n) ≡ capped (cells_in (has (members_of (at_number sets n))) ty 1 objects)
number_of objects ty sets zero = none_there objects ty
number_of objects ty sets (suc i) = get_of objects ty sets i

pub read_off : (objects : List CodeObject) (sets : List PointsTo) (t : Table) (ty : CellType) (n : ℕ) → IsTable objects sets t → same_type ty t.ty ≡ true
    → or_zero (at_number t.counts.items n) ≡ capped (cells_in (has (members_of (at_number sets n))) ty 1 objects)
read_off objects sets t ty n is e =
    ap (λ counts. or_zero (at_number counts n)) is.counts ∙ number_of objects t.ty sets n
    ∙ sym (ap capped (in_like ty t.ty e (has (members_of (at_number sets n))) 1 objects))

same_itself : (ty : CellType) → same_type ty ty ≡ true
same_itself (Integer t) = go t.signed (t.width == t.width) (eq-eqb t.width t.width refl)
  where
    go : (s w : Bool) → w ≡ true → (w && same_sign s s) ≡ true
    go true true e = refl
    go false true e = refl
    go s false e = cc
same_itself Pointer = refl

there : (objects : List CodeObject) (sets : List PointsTo) (ts : List Table) (t : Table) (k : ℕ) → AreTables objects sets ts → k < length ts → get_or ts k t ≡ t → IsTable objects sets t
there objects sets [] t k are h e = absurd (omega arith)
there objects sets (x ∷ ts) t zero (is, are) h e = subst (IsTable objects sets) e is
there objects sets (x ∷ ts) t (suc k) (is, are) h e = there objects sets ts t k are (omega arith) e

pub among : (objects : List CodeObject) (sets : List PointsTo) (ts : List Table) (t : Table) → AreTables objects sets ts → Contains ts t → IsTable objects sets t
among objects sets ts t are (k, h, e) = there objects sets ts t k are h e

pub one_more : (objects : List CodeObject) (sets : List PointsTo) (ts : List Table) (t : Table) → AreTables objects sets ts → IsTable objects sets t → AreTables objects sets (ts ++ t ∷ [])
one_more objects sets [] t are is = (is, tt)
one_more objects sets (x ∷ ts) t (first, are) is = (first, one_more objects sets ts t are is)

pub made : (objects o : List CodeObject) (sets s : List PointsTo) (t : Table) (ty : CellType) → o ≡ objects → s ≡ sets → t.ty ≡ ty → t.counts.items ≡ map (set_count o ty) s → IsTable objects sets t
made objects o sets s t ty p q r e =
    record { counts = e ∙ ap (λ x. map (set_count x ty) s) p ∙ ap (λ x. map (set_count objects ty) x) q ∙ ap (λ x. map (set_count objects x) sets) (sym r) }

pub same_as : (a b : CellType) → b ≡ a → same_type a b ≡ true
same_as a b e = subst (λ x. same_type a x ≡ true) (sym e) (same_itself a)
