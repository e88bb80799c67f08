-- The values of variables by their places.
use Rattle.std.proofs.Common.{◌≡◌, ◌⊎◌, inl, inr, ℕ, zero, suc, Bool, true, false, ◌==◌, ◌||◌, if◌then◌else◌, ℤ, pos, ◌+ℤ◌, int_lt, List, [], ◌∷◌, map, refl, sym, ap, ◌∙◌, subst, arith, slice_index_or, slice_get}
use Rattle.std.specs.List.{All}
use Rattle.std.proofs.lemmas.List.Elements.{All-head, All-tail}
use Rattle.std.specs.Ordering.{int_eq}
use Rattle.std.proofs.lemmas.Bool.Decides.{nat_tests}
use Rattle.l2_runs.specs.declared.cells.CellValue.{CellValue}
use Rattle.l2_runs.specs.declared.cells.CellValue.TheVariants.{Number, Null, Invalid, At}
use Rattle.l2_runs.specs.Store.{Object, Store, cell_at, or_nothing}
use Rattle.l2_meaning.specs.Meaning.{number_of}
use Rattle.l2_templates.specs.declared.form.Form.{Form}
use Rattle.l2_templates.specs.declared.form.Row.{Row}
use Rattle.l2_templates.specs.Forms.{variable, signed, row_value, row_holds, is_within, lower_than}
use Rattle.l2_templates.specs.Domains.{is_in}
use Rattle.l2_cuts.specs.Points.{values_of}
use Rattle.l2_ssa.specs.Steps.{number_in}
use Rattle.l2_ssa.specs.Law.{first_cells}
use Rattle.l2_ssa_points.specs.Places.{later, place, placed, placed_row}
use Rattle.l2_ssa_points.specs.Meanings.{numbers_in}
use Rattle.l2_ssa_points.specs.Law.{IsFormOver}

-- the number in an object's first cell
abbrev value : Store → ℕ → ℤ
value store v = number_in (cell_at store (record { object = v; offset = 0 }))

first_number : (cells : List CellValue) → number_of cells ≡ number_in (slice_index_or cells 0 (Number (pos 0)))
first_number [] = refl
first_number (Number z ∷ cells) = refl
first_number (Null ∷ cells) = refl
first_number (Invalid ∷ cells) = refl
first_number (At o f ∷ cells) = refl

listed : (store : Store) (n : ℕ) → slice_index_or (map (λ (o : Object). number_of o.cells) store) n (pos 0) ≡ number_in (slice_index_or (or_nothing (slice_get store n)).cells 0 (Number (pos 0)))
listed [] n = refl
listed (o ∷ store) zero = first_number o.cells
listed (o ∷ store) (suc n) = listed store n

value_is : (store : Store) (v : ℕ) → variable (values_of store) v ≡ value store v
value_is store zero = refl
value_is store (suc n) = listed store n

shifted : (x : ℤ) (xs : List ℤ) (n : ℕ) → variable (x ∷ xs) (later n) ≡ variable xs n
shifted x xs zero = refl
shifted x xs (suc n) = refl

-- a variable's value stands at its place
at_place : (store : Store) (vars : List ℕ) (v : ℕ) → is_in vars v ≡ true → variable (numbers_in (first_cells store vars)) (place vars v) ≡ value store v
at_place store [] v h = absurd (cc h)
at_place store (w ∷ ws) v h = go (w == v) refl h (λ t. at_place store ws v t)
  where
    go : (b : Bool) → (w == v) ≡ b → (b || is_in ws v) ≡ true → (is_in ws v ≡ true → variable (numbers_in (first_cells store ws)) (place ws v) ≡ value store v)
        → variable (numbers_in (first_cells store (w ∷ ws))) (if b then 1 else later (place ws v)) ≡ value store v
    go true e h k = let same : w ≡ v = grind (arith, nat_tests) in ap (value store) same
    go false e h k = shifted (value store w) (numbers_in (first_cells store ws)) (place ws v) ∙ k h

-- number 0 is no variable
no_place : (store : Store) (vars : List ℕ) → variable (numbers_in (first_cells store vars)) (place vars 0) ≡ pos 0
no_place store [] = refl
no_place store (w ∷ ws) = go (w == 0) refl (no_place store ws)
  where
    go : (b : Bool) → (w == 0) ≡ b → variable (numbers_in (first_cells store ws)) (place ws 0) ≡ pos 0 → variable (numbers_in (first_cells store (w ∷ ws))) (if b then 1 else later (place ws 0)) ≡ pos 0
    go true e k = let same : w ≡ 0 = grind (arith, nat_tests) in ap (value store) same
    go false e k = shifted (value store w) (numbers_in (first_cells store ws)) (place ws 0) ∙ k

second_value : (store : Store) (vars : List ℕ) (v : ℕ) → (v ≡ 0) ⊎ (is_in vars v ≡ true) → variable (numbers_in (first_cells store vars)) (place vars v) ≡ variable (values_of store) v
second_value store vars v (inl e) = subst (λ n. variable (numbers_in (first_cells store vars)) (place vars n) ≡ variable (values_of store) n) (sym e) (no_place store vars)
second_value store vars v (inr h) = at_place store vars v h ∙ sym (value_is store v)

pub form_value : (store : Store) (vars : List ℕ) (f : Form) → IsFormOver vars f → row_value (placed vars f) (numbers_in (first_cells store vars)) ≡ row_value f (values_of store)
form_value store vars f h =
    let first = second_value store vars f.first (inr h.first) in
    let second = second_value store vars f.second h.second in
    ap (λ z. signed f.plus z +ℤ signed f.second_plus (variable (numbers_in (first_cells store vars)) (place vars f.second))) first
    ∙ ap (λ z. signed f.plus (variable (values_of store) f.first) +ℤ signed f.second_plus z) second

pub row_says : (store : Store) (vars : List ℕ) (row : Row) → IsFormOver vars row.form → row_holds (placed_row vars row) (numbers_in (first_cells store vars)) ≡ row_holds row (values_of store)
row_says store vars row h = ap (is_within row.bound) (form_value store vars row.form h)

pub ranks_say_lower : (a b : Store) (vars : List ℕ) (fs : List Form) → All (IsFormOver vars) fs
    → lower_than (map (placed vars) fs) (numbers_in (first_cells a vars)) (numbers_in (first_cells b vars)) ≡ lower_than fs (values_of a) (values_of b)
ranks_say_lower a b vars [] h = refl
ranks_say_lower a b vars (f ∷ fs) h =
    let old = form_value a vars f (All-head (IsFormOver vars) f fs h) in
    let new = form_value b vars f (All-head (IsFormOver vars) f fs h) in
    let rest = ranks_say_lower a b vars fs (All-tail (IsFormOver vars) f fs h) in
    ap (λ x. if int_eq x (row_value (placed vars f) (numbers_in (first_cells a vars))) then lower_than (map (placed vars) fs) (numbers_in (first_cells a vars)) (numbers_in (first_cells b vars)) else int_lt x (row_value (placed vars f) (numbers_in (first_cells a vars)))) new
    ∙ ap (λ y. if int_eq (row_value f (values_of b)) y then lower_than (map (placed vars) fs) (numbers_in (first_cells a vars)) (numbers_in (first_cells b vars)) else int_lt (row_value f (values_of b)) y) old
    ∙ ap (λ t. if int_eq (row_value f (values_of b)) (row_value f (values_of a)) then t else int_lt (row_value f (values_of b)) (row_value f (values_of a))) rest
