-- Addresses among candidates.
use Rattle.std.specs.Prelude.{◌≡◌, ℕ, zero, suc, ◌+◌, ◌==◌, Bool, true, false, ◌||◌, ◌&&◌, if◌then◌else◌, List, [], ◌∷◌, ◌++◌, Option, Some, None, slice_get, refl}
use Rattle.std.proofs.Common.{arith, ap, sym, subst, ◌∙◌}
use Rattle.std.proofs.lemmas.Bool.{eq-eqb, eqb-true}
use Rattle.l2_runs.specs.declared.cells.CellType.{CellType}
use Rattle.l2_runs.specs.declared.cells.CellValue.{CellValue}
use Rattle.l2_runs.specs.declared.cells.CellValue.TheVariants as value
use Rattle.l2_runs.specs.declared.member.Member.{Member}
use Rattle.l2_runs.specs.declared.member.Member.TheVariants.{Null, Invalid, Object}
use Rattle.l2_runs.specs.Fits.{Layout}
use Rattle.l2_runs.specs.Members.{has, targets, Within}
use Rattle.l2_runs.specs.Store.{Address}
use Rattle.l2_code.specs.declared.action.Operand.{Operand}
use Rattle.l2_code.specs.declared.action.Operand.TheVariants.{Constant, Temp}
use Rattle.l2_code.specs.Values.{operand_value, same_type, is_type, cell_of}
use Rattle.l2_code.specs.Sets.{listed, may_be, family}
use Rattle.l2_code.specs.Modes.{types_of}
use Rattle.l2_deref.specs.declared.candidate.Candidate.{Candidate}
use Rattle.l2_deref.specs.Candidates.{cells_from, cells_of, single, candidates, is_among}
use Rattle.l2_deref.specs.Law.{CandidatesHold}

or_left : (a b : Bool) → a ≡ true → (a || b) ≡ true
or_left true b h = refl
or_left false b h = absurd (cc)

or_right : (a b : Bool) → b ≡ true → (a || b) ≡ true
or_right true b h = refl
or_right false b h = h

and_both : (a b : Bool) → a ≡ true → b ≡ true → (a && b) ≡ true
and_both true b p q = q
and_both false b p q = p

among_left : (xs ys : List Candidate) (a : Address) → is_among xs a ≡ true → is_among (xs ++ ys) a ≡ true
among_left [] ys a h = absurd (cc)
among_left (x ∷ xs) ys a h = go (x.object == a.object && x.offset == a.offset) h (among_left xs ys a)
  where
    go : (b : Bool) → (b || is_among xs a) ≡ true → (is_among xs a ≡ true → is_among (xs ++ ys) a ≡ true) → (b || is_among (xs ++ ys) a) ≡ true
    go true e later = refl
    go false e later = later e

among_right : (xs ys : List Candidate) (a : Address) → is_among ys a ≡ true → is_among (xs ++ ys) a ≡ true
among_right [] ys a h = h
among_right (x ∷ xs) ys a h = or_right (x.object == a.object && x.offset == a.offset) (is_among (xs ++ ys) a) (among_right xs ys a h)

among_itself : (o f : ℕ) (a : Address) → o ≡ a.object → f ≡ a.offset → is_among (record { object = o; offset = f } ∷ []) a ≡ true
among_itself o f a p q = or_left (o == a.object && f == a.offset) false (and_both (o == a.object) (f == a.offset) (eq-eqb o a.object p) (eq-eqb f a.offset q))

-- a cell of the type in an object
among_cells : (ty : CellType) (o f k : ℕ) (types : List CellType) (a : Address) → is_type ty (slice_get types k) ≡ true → a.object ≡ o → a.offset ≡ f + k → is_among (cells_from ty o f types) a ≡ true
among_cells ty o f k [] a h p q = absurd (cc)
among_cells ty o f zero (t ∷ types) a h p q =
    among_left (if same_type ty t then record { object = o; offset = f } ∷ [] else []) (cells_from ty o (suc f) types) a (go (same_type ty t) h)
  where
    go : (b : Bool) → b ≡ true → is_among (if b then record { object = o; offset = f } ∷ [] else []) a ≡ true
    go true e = among_itself o f a (sym p) (omega arith)
    go false e = absurd (cc)
among_cells ty o f (suc k) (t ∷ types) a h p q =
    among_right (if same_type ty t then record { object = o; offset = f } ∷ [] else []) (cells_from ty o (suc f) types) a (among_cells ty o (suc f) k types a h p (omega arith))

among_objects : (cells : Layout) (ty : CellType) (o f : ℕ) (ms : List Member) (a : Address) → has ms (Object o) ≡ true → is_type ty (slice_get (cells o) f) ≡ true → a.object ≡ o → a.offset ≡ f → is_among (cells_of cells ty ms) a ≡ true
among_objects cells ty o f [] a h s p q = absurd (cc)
among_objects cells ty o f (Null ∷ ms) a h s p q = among_objects cells ty o f ms a h s p q
among_objects cells ty o f (Invalid ∷ ms) a h s p q = among_objects cells ty o f ms a h s p q
among_objects cells ty o f (Object n ∷ ms) a h s p q = go (n == o) refl h (λ later. among_objects cells ty o f ms a later s p q)
  where
    go : (b : Bool) → (n == o) ≡ b → (b || has ms (Object o)) ≡ true → (has ms (Object o) ≡ true → is_among (cells_of cells ty ms) a ≡ true) → is_among (cells_from ty n 0 (cells n) ++ cells_of cells ty ms) a ≡ true
    go true e g later =
        let same : o ≡ n = sym (eqb-true n o e) in
        let there : is_type ty (slice_get (cells n) f) ≡ true = subst (λ (x : ℕ). is_type ty (slice_get (cells x) f) ≡ true) same s in
        among_left (cells_from ty n 0 (cells n)) (cells_of cells ty ms) a (among_cells ty n 0 f (cells n) a there (p ∙ same) (omega arith))
    go false e g later = among_right (cells_from ty n 0 (cells n)) (cells_of cells ty ms) a (later g)

-- where a value is a cell's address, it is of an object that has this cell
among_set : (cells : Layout) (ty : CellType) (v : CellValue) (ms : List Member) (a : Address) → Within (targets v) (has ms) → cell_of cells ty v ≡ Some a → is_among (cells_of cells ty ms) a ≡ true
among_set cells ty (value.Number z) ms a w e = absurd (cc)
among_set cells ty value.Null ms a w e = absurd (cc)
among_set cells ty value.Invalid ms a w e = absurd (cc)
among_set cells ty (value.At o f) ms a w e = go (is_type ty (slice_get (cells o) f)) refl e
  where
    go : (b : Bool) → is_type ty (slice_get (cells o) f) ≡ b → (if b then Some (record { object = o; offset = f }) else None) ≡ Some a → is_among (cells_of cells ty ms) a ≡ true
    go true s g =
        let same : record { object = o; offset = f } ≡ a = cc in
        among_objects cells ty o f ms a (w (Object o) (eq-eqb o o refl)) s (sym (ap (λ (x : Address). x.object) same)) (sym (ap (λ (x : Address). x.offset) same))
    go false s g = absurd (cc)

among_constant : (o : Option Address) (a : Address) → o ≡ Some a → is_among (single o) a ≡ true
among_constant None a e = absurd (cc)
among_constant (Some x) a e = let same : x ≡ a = cc in among_itself x.object x.offset a (ap (λ (y : Address). y.object) same) (ap (λ (y : Address). y.offset) same)

pub candidates_law : CandidatesHold
candidates_law c s scope t h = record { candidate = λ ty a at e. at_candidate ty a at e; member = λ a. in_set a }
  where
    at_candidate : (ty : CellType) (a : Operand) (at : Address) → cell_of (types_of c).objects ty (operand_value t a) ≡ Some at → is_among (candidates (types_of c).objects s ty a) at ≡ true
    at_candidate ty (Constant v) at e = among_constant (cell_of (types_of c).objects ty v) at e
    at_candidate ty (Temp n) at e = among_set (types_of c).objects ty (t n) (listed s s.temps n) at (h.sets n) e

    in_set : (a : Operand) → Within (targets (operand_value t a)) (may_be (family s) a)
    in_set (Constant v) m e = e
    in_set (Temp n) m e = h.sets n m e
