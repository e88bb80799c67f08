-- When rows hold and when a ranking is lower, as facts; and the steps of the loops that test them.
use Rattle.std.proofs.Common.{◌≡◌, ◌≢◌, ℕ, zero, suc, ◌<◌, Bool, true, false, cond, ℤ, ◌<ℤ◌, ◌≤ℤ◌, int_lt, int_le, Option, Some, None, List, [], ◌∷◌, ◌++◌, length, get_or, set, take, drop, map, refl, sym, ap, ◌∙◌, arith}
use Rattle.std.specs.Ordering.{int_eq}
use Rattle.std.specs.Bool.{Decides}
use Rattle.std.specs.List.{list_all}
use Rattle.std.proofs.lemmas.Int.{ints}
use Rattle.std.proofs.lemmas.Bool.Decides.{Decides-by_and, Decides-int_eq}
use Rattle.l2_templates.specs.declared.form.Form.{Form}
use Rattle.l2_templates.specs.declared.point.LoopPoint.{LoopPoint}
use Rattle.l2_templates.specs.declared.point.LoopPoint.TheVariants.{Bottom, Rows}
use Rattle.l2_templates.specs.Forms.{IsLower, IsWithin, RowHolds, form_at, is_within, lower_than, row_holds, row_value}
use Rattle.l2_templates.specs.Points.{Holds, holds}

-- ---- rows

le_decides : (a b : ℤ) → Decides (int_le a b) (a ≤ℤ b)
le_decides a b = (λ h. grind (arith, ints), λ h. grind (arith, ints))

within_decides : (bound : Option ℤ) (value : ℤ) → Decides (is_within bound value) (IsWithin bound value)
within_decides None value = (λ h. tt, λ h. refl)
within_decides (Some bound) value = le_decides value bound

pub holds_decides : (p : LoopPoint) (values : List ℤ) → Decides (holds p values) (Holds p values)
holds_decides Bottom values = (λ h. cc, λ h. absurd h)
holds_decides (Rows rows) values =
    Decides-by_and (λ row. row_holds row values) (λ row. RowHolds row values) (list_all (λ row. row_holds row values))
    (λ row. within_decides row.bound (row_value row.form values)) refl (λ _ _. refl) rows

-- ---- rankings

lt_true : (a b : ℤ) → a <ℤ b → int_lt a b ≡ true
lt_true a b h = grind (arith, ints)

true_lt : (a b : ℤ) → int_lt a b ≡ true → a <ℤ b
true_lt a b h = grind (arith, ints)

not_same : (a b : ℤ) → a <ℤ b → a ≢ b
not_same a b h e = omega (arith, ints, h, e)

eq_false : (a b : ℤ) → a ≢ b → int_eq a b ≡ false
eq_false a b h = go (int_eq a b) refl
  where
    go : (test : Bool) → int_eq a b ≡ test → int_eq a b ≡ false
    go true e = absurd (h ((Decides-int_eq a b).0 e))
    go false e = e

pub lower_is : (r : List Form) (before after : List ℤ) → lower_than r before after ≡ true → IsLower r before after
lower_is [] before after h = cc
lower_is (f ∷ fs) before after h = go (int_eq (row_value f after) (row_value f before)) refl (λ rest. lower_is fs before after rest)
  where
    go : (test : Bool) → int_eq (row_value f after) (row_value f before) ≡ test → (lower_than fs before after ≡ true → IsLower fs before after) → IsLower (f ∷ fs) before after
    go true e rest =
        let later = rest (ap (λ t. cond t (lower_than fs before after) (int_lt (row_value f after) (row_value f before))) (sym e) ∙ h) in
        (suc later.0, omega (arith, later.1), before_it later, later.3)
      where
        before_it : (later : IsLower fs before after) → (j : ℕ) → j < suc later.0 → row_value (form_at (f ∷ fs) j) after ≡ row_value (form_at (f ∷ fs) j) before
        before_it later zero inside = (Decides-int_eq (row_value f after) (row_value f before)).0 e
        before_it later (suc j) inside = later.2 j (omega arith)
    go false e rest = (0, omega arith, λ j inside. absurd (omega arith), true_lt (row_value f after) (row_value f before) (ap (λ t. cond t (lower_than fs before after) (int_lt (row_value f after) (row_value f before))) (sym e) ∙ h))

pub is_lower : (r : List Form) (before after : List ℤ) → IsLower r before after → lower_than r before after ≡ true
is_lower [] before after (i, inside, same, less) = absurd (omega arith)
is_lower (f ∷ fs) before after (zero, inside, same, less) =
    ap (λ t. cond t (lower_than fs before after) (int_lt (row_value f after) (row_value f before))) (eq_false (row_value f after) (row_value f before) (not_same (row_value f after) (row_value f before) less))
    ∙ lt_true (row_value f after) (row_value f before) less
is_lower (f ∷ fs) before after (suc i, inside, same, less) =
    ap (λ t. cond t (lower_than fs before after) (int_lt (row_value f after) (row_value f before))) ((Decides-int_eq (row_value f after) (row_value f before)).1 (same 0 (omega arith)))
    ∙ is_lower fs before after (i, omega arith, λ j less_than. same (suc j) (omega arith), less)

-- ---- the step of a loop that changes each item

abbrev pub changed : {X : Type 0} → (X → X) → ℕ → List X → List X
changed f i xs = map f (take i xs) ++ drop i xs

pub changed_more : {X : Type 0} (f : X → X) (xs : List X) (i : ℕ) (d : X) → i < length xs → set (changed f i xs) i (f (get_or (changed f i xs) i d)) ≡ changed f (suc i) xs
changed_more f [] i d inside = absurd (omega arith)
changed_more f (x ∷ xs) zero d inside = refl
changed_more f (x ∷ xs) (suc i) d inside = ap (λ ys. f x ∷ ys) (changed_more f xs i d (omega arith))
