-- What the members of a set count, one by one, is what the objects of the set have.
use Rattle.std.proofs.Common.{◌≡◌, ℕ, zero, suc, ◌+◌, ◌==◌, ◌<◌, Bool, true, false, ◌||◌, if◌then◌else◌, List, [], ◌∷◌, map, slice_get, refl, sym, ap, ◌∙◌, arith, subst, add-zero, ◌⊎◌, inl, inr, length, get_or}
use Rattle.std.proofs.lemmas.Bool.{eq-eqb, ne_eqb, eqb-true}
use Rattle.l2_runs.specs.declared.cells.CellType.{CellType}
use Rattle.l2_runs.specs.declared.member.Member.{Member}
use Rattle.l2_runs.specs.declared.member.Member.TheVariants.{Null, Invalid, Object}
use Rattle.l2_runs.specs.Members.{same_member, has}
use Rattle.l2_code.specs.declared.code.CodeObject.{CodeObject}
use Rattle.l2_code.specs.declared.sets.PointsTo.{PointsTo}
use Rattle.l2_code.specs.Sets.{Rises, AllRise, rank}
use Rattle.l2_code.specs.Sizes.{cells_of_type, cells_in}
use Rattle.l2_size.specs.Capped.{capped}
use Rattle.l2_size.specs.Tables.{or_zero, count_of, count_among, object_count, set_count}

-- ---- sets that have nothing in common

either : (p q : Bool) (c x y z : ℕ) → (p ≡ true → q ≡ false) → x ≡ y + z → (if p || q then c + x else x) ≡ (if p then c + y else y) + (if q then c + z else z)
either true true c x y z d e = let no : true ≡ false = d refl in cc
either true false c x y z d e = omega arith
either false true c x y z d e = omega arith
either false false c x y z d e = e

cells_in-or : (a b : Member → Bool) (ty : CellType) (n : ℕ) (objects : List CodeObject) → ((x : Member) → a x ≡ true → b x ≡ false)
    → cells_in (λ x. a x || b x) ty n objects ≡ cells_in a ty n objects + cells_in b ty n objects
cells_in-or a b ty n [] d = refl
cells_in-or a b ty n (o ∷ rest) d =
    either (a (Object n)) (b (Object n)) (cells_of_type ty o.cells) (cells_in (λ x. a x || b x) ty (suc n) rest) (cells_in a ty (suc n) rest) (cells_in b ty (suc n) rest) (d (Object n)) (cells_in-or a b ty (suc n) rest d)

-- ---- one member

passed : (p : Bool) (c x : ℕ) → p ≡ false → (if p then c + x else x) ≡ x
passed true c x e = cc
passed false c x e = refl

taken : (p : Bool) (c x : ℕ) → p ≡ true → (if p then c + x else x) ≡ c + x
taken true c x e = refl
taken false c x e = cc

pub none_in : (a : Member → Bool) (ty : CellType) (n : ℕ) (objects : List CodeObject) → ((o : ℕ) → n < suc o → a (Object o) ≡ false) → cells_in a ty n objects ≡ 0
none_in a ty n [] d = refl
none_in a ty n (o ∷ rest) d =
    passed (a (Object n)) (cells_of_type ty o.cells) (cells_in a ty (suc n) rest) (d n (omega arith)) ∙ none_in a ty (suc n) rest (λ p h. d p (omega arith))

-- the object itself counts what it has, behind those before it
object_in : (ty : CellType) (n i : ℕ) (o : ℕ) (objects : List CodeObject) → o ≡ n + i
    → cells_in (same_member (Object o)) ty n objects ≡ or_zero (slice_get (map (object_count ty) objects) i)
object_in ty n i o [] q = refl
object_in ty n zero o (x ∷ rest) q =
    taken (o == n) (cells_of_type ty x.cells) (cells_in (same_member (Object o)) ty (suc n) rest) (eq-eqb o n (omega arith))
    ∙ ap (λ c. cells_of_type ty x.cells + c) (none_in (same_member (Object o)) ty (suc n) rest (λ p h. ne_eqb o p (λ e. omega arith)))
    ∙ add-zero (cells_of_type ty x.cells)
object_in ty n (suc i) o (x ∷ rest) q =
    passed (o == n) (cells_of_type ty x.cells) (cells_in (same_member (Object o)) ty (suc n) rest) (ne_eqb o n (λ e. omega arith))
    ∙ object_in ty (suc n) i o rest (omega arith)

member_in : (ty : CellType) (objects : List CodeObject) (m : Member) → cells_in (same_member m) ty 1 objects ≡ count_of (map (object_count ty) objects) m
member_in ty objects Null = none_in (same_member Null) ty 1 objects (λ o h. refl)
member_in ty objects Invalid = none_in (same_member Invalid) ty 1 objects (λ o h. refl)
member_in ty objects (Object zero) = none_in (same_member (Object zero)) ty 1 objects (λ o h. ne_eqb zero o (λ e. omega arith))
member_in ty objects (Object (suc i)) = object_in ty 1 i (suc i) objects (omega arith)

-- ---- members in order

same_rank : (a b : Member) → same_member a b ≡ true → rank a ≡ rank b
same_rank Null Null e = refl
same_rank Null Invalid e = cc
same_rank Null (Object p) e = cc
same_rank Invalid Null e = cc
same_rank Invalid Invalid e = refl
same_rank Invalid (Object p) e = cc
same_rank (Object o) Null e = cc
same_rank (Object o) Invalid e = cc
same_rank (Object o) (Object p) e = ap suc (eqb-true o p e)

tail_rises : (m : Member) (ms : List Member) → Rises (m ∷ ms) → Rises ms
tail_rises m [] r = tt
tail_rises m (n ∷ rest) (h, r) = r

or_cases : (p q : Bool) → (p || q) ≡ true → (p ≡ true) ⊎ (q ≡ true)
or_cases true q e = inl refl
or_cases false q e = inr e

above : (m : Member) (ms : List Member) (x : Member) → Rises (m ∷ ms) → has ms x ≡ true → rank m < rank x
above m [] x r e = cc
above m (n ∷ rest) x (h, r) e =
    elim (or_cases (same_member n x) (has rest x) e) [ inl s ↦ (let q = same_rank n x s in omega arith) | inr s ↦ (let g = above n rest x r s in omega arith) ]

apart : (m : Member) (ms : List Member) → Rises (m ∷ ms) → (x : Member) → same_member m x ≡ true → has ms x ≡ false
apart m ms r x e = go (has ms x) refl
  where
    go : (p : Bool) → has ms x ≡ p → p ≡ false
    go true q = let g = above m ms x r q in let s = same_rank m x e in absurd (omega arith)
    go false q = refl

-- ---- sets

pub count_is : (ty : CellType) (objects : List CodeObject) (ms : List Member) → Rises ms → count_among (map (object_count ty) objects) ms ≡ cells_in (has ms) ty 1 objects
count_is ty objects [] r = sym (none_in (has []) ty 1 objects (λ o h. refl))
count_is ty objects (m ∷ ms) r =
    let a = sym (member_in ty objects m) in
    let b = count_is ty objects ms (tail_rises m ms r) in
    let c = sym (cells_in-or (same_member m) (has ms) ty 1 objects (apart m ms r)) in
    ap (λ x. x + count_among (map (object_count ty) objects) ms) a ∙ ap (λ y. cells_in (same_member m) ty 1 objects + y) b ∙ c

pub set_count_is : (ty : CellType) (objects : List CodeObject) (s : PointsTo) → Rises s.members → capped (count_among (map (object_count ty) objects) s.members) ≡ set_count objects ty s
set_count_is ty objects s r = ap capped (count_is ty objects s.members r)

pub rises_at : (sets : List PointsTo) (i : ℕ) (s : PointsTo) → i < length sets → s ≡ get_or sets i s → AllRise sets → Rises s.members
rises_at [] i s h e r = absurd (omega arith)
rises_at (x ∷ rest) zero s h e (r, rs) = subst (λ y. Rises y.members) (sym e) r
rises_at (x ∷ rest) (suc i) s h e (r, rs) = rises_at rest i s (omega arith) e rs
