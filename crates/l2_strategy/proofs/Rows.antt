-- Rows of forms and indexes, from an index on.
use Rattle.std.proofs.Common.{◌≡◌, ℕ, zero, suc, ◌+◌, ◌<◌, ℤ, List, [], ◌∷◌, ◌++◌, length, drop, get_or, Option, refl, sym, ap, ◌∙◌, append_assoc, arith}
use Rattle.std.specs.Prelude.{slice_get}
use Rattle.l2_templates.specs.declared.form.Form.{Form}
use Rattle.l2_templates.specs.declared.form.Row.{Row}
use Rattle.l2_templates.specs.Rows.{row_of}
use Rattle.l2_strategy.specs.Places.{rows_of}

pub rows_more : (bounds : List ℤ) (fs : List Form) (is : List ℕ) (i : ℕ) (f : Form) (n : ℕ) → i < length fs → length is ≡ length fs →
    rows_of bounds (drop i fs) (drop i is) ≡ row_of (get_or fs i f) (slice_get bounds (get_or is i n)) ∷ rows_of bounds (drop (suc i) fs) (drop (suc i) is)
rows_more bounds [] is i f n lt e = absurd (omega (arith, lt))
rows_more bounds (x ∷ fs) [] i f n lt e = absurd (omega (arith, e))
rows_more bounds (x ∷ fs) (j ∷ is) zero f n lt e = refl
rows_more bounds (x ∷ fs) (j ∷ is) (suc i) f n lt e = rows_more bounds fs is i f n (omega (arith, lt)) (omega (arith, e))

pub rows_none : (bounds : List ℤ) (fs : List Form) (is : List ℕ) (i : ℕ) → length fs ≡ i → rows_of bounds (drop i fs) (drop i is) ≡ []
rows_none bounds [] is zero e = refl
rows_none bounds [] is (suc i) e = refl
rows_none bounds (x ∷ fs) is zero e = absurd (omega (arith, e))
rows_none bounds (x ∷ fs) [] (suc i) e = rows_of_none bounds (drop i fs)
  where
    rows_of_none : (bounds : List ℤ) (fs : List Form) → rows_of bounds fs [] ≡ []
    rows_of_none bounds [] = refl
    rows_of_none bounds (f ∷ fs) = refl
rows_none bounds (x ∷ fs) (j ∷ is) (suc i) e = rows_none bounds fs is i (omega (arith, e))

pub rows_step : (bounds : List ℤ) (fs : List Form) (is : List ℕ) (i : ℕ) (rows new all : List Row) (form : Form) (bound : Option ℤ) (f : Form) (n : ℕ) → i < length fs → length is ≡ length fs → form ≡ get_or fs i f → bound ≡ slice_get bounds (get_or is i n) →
    new ≡ rows ++ row_of form bound ∷ [] → rows ++ rows_of bounds (drop i fs) (drop i is) ≡ all → new ++ rows_of bounds (drop (i + 1) fs) (drop (i + 1) is) ≡ all
rows_step bounds fs is i rows new all form bound f n lt e ef eb en inv =
    let next : i + 1 ≡ suc i = omega arith in
    let row : row_of form bound ≡ row_of (get_or fs i f) (slice_get bounds (get_or is i n)) = ap (λ x. row_of x bound) ef ∙ ap (λ y. row_of (get_or fs i f) y) eb in
    ap (λ j. new ++ rows_of bounds (drop j fs) (drop j is)) next
    ∙ ap (λ xs. xs ++ rows_of bounds (drop (suc i) fs) (drop (suc i) is)) (en ∙ ap (λ r. rows ++ r ∷ []) row)
    ∙ append_assoc rows (row_of (get_or fs i f) (slice_get bounds (get_or is i n)) ∷ []) (rows_of bounds (drop (suc i) fs) (drop (suc i) is))
    ∙ ap (λ xs. rows ++ xs) (sym (rows_more bounds fs is i f n lt e)) ∙ inv
