-- A list of forms as one number, which is lower where the list is.
use Rattle.std.proofs.Common.{◌≡◌, ℕ, zero, suc, ◌+◌, ◌*◌, ◌^◌, ◌<◌, ◌≤◌, Bool, true, false, cond, ℤ, pos, negsuc, ◌+ℤ◌, ◌<ℤ◌, ◌≤ℤ◌, int_lt, unsigned_abs, List, [], ◌∷◌, length, refl, sym, ap, ◌∙◌, subst, arith}
use Rattle.std.specs.Prelude.{slice_index_or, slice_get}
use Rattle.std.specs.Ordering.{int_eq}
use Rattle.std.proofs.Math.Nat.{suc-mul, mul-le-mul_right}
use Rattle.std.proofs.lemmas.Nat.{pow-add}
use Rattle.std.proofs.lemmas.Int.{ints}
use Rattle.std.proofs.lemmas.Bool.Decides.{Decides-int_eq}
use Rattle.l2_bits.proofs.Bounds.{value_small}
use Rattle.l2_runs.specs.declared.cells.CellType.{CellType}
use Rattle.l2_runs.specs.declared.cells.CellType.TheVariants.{Integer, Pointer}
use Rattle.l2_runs.specs.declared.cells.CellValue.{CellValue}
use Rattle.l2_runs.specs.declared.cells.CellValue.TheVariants.{Number, Null, Invalid, At}
use Rattle.l2_runs.specs.Store.{Store, or_nothing}
use Rattle.l2_runs.specs.Fits.{Layout, CellsFit, StoreFits}
use Rattle.l2_templates.specs.declared.form.Form.{Form}
use Rattle.l2_templates.specs.Forms.{variable, signed, row_value, lower_than}
use Rattle.l2_meaning.specs.Meaning.{number_of}
use Rattle.l2_cuts.specs.Points.{values_of}

-- ---- values

abbrev pub AreSmall : List ℤ → Type 0
AreSmall values = (i : ℕ) → unsigned_abs (slice_index_or values i (pos 0)) < 2 ^ 64

number_small : (layout : Layout) (types : List CellType) (vs : List CellValue) → CellsFit layout types vs → unsigned_abs (number_of vs) < 2 ^ 64
number_small layout types [] h = omega arith
number_small layout [] (v ∷ vs) h = absurd h
number_small layout (Integer ty ∷ types) (Number z ∷ vs) h = value_small ty z h.0
number_small layout (Pointer ∷ types) (Number z ∷ vs) h = absurd h.0
number_small layout (t ∷ types) (Null ∷ vs) h = omega arith
number_small layout (t ∷ types) (Invalid ∷ vs) h = omega arith
number_small layout (t ∷ types) (At o f ∷ vs) h = omega arith

value_at : (st : Store) (i : ℕ) → slice_index_or (values_of st) i (pos 0) ≡ number_of (or_nothing (slice_get st i)).cells
value_at [] i = refl
value_at (x ∷ xs) zero = refl
value_at (x ∷ xs) (suc i) = value_at xs i

pub store_small : (layout : Layout) (st : Store) → StoreFits layout st → AreSmall (values_of st)
store_small layout st fits i = subst (λ z. unsigned_abs z < 2 ^ 64) (sym (value_at st i)) (number_small layout (layout (suc i)) (or_nothing (slice_get st i)).cells (fits.cells (suc i)))

variable_small : (values : List ℤ) → AreSmall values → (n : ℕ) → unsigned_abs (variable values n) < 2 ^ 64
variable_small values h zero = omega arith
variable_small values h (suc n) = h n

signed_small : (plus : Bool) (v : ℤ) → unsigned_abs v < 2 ^ 64 → unsigned_abs (signed plus v) < 2 ^ 64
signed_small true v h = h
signed_small false v h = omega (arith, ints, h)

-- ---- one form

abbrev natural : ℤ → ℕ
natural (pos n) = n
natural (negsuc n) = 0

-- a form's value, from 0 on
abbrev shifted : Form → List ℤ → ℕ
shifted f values = natural (row_value f values +ℤ pos (2 ^ 65))

natural_below : (x y : ℤ) → unsigned_abs x < 2 ^ 64 → unsigned_abs y < 2 ^ 64 → natural (x +ℤ y +ℤ pos (2 ^ 65)) < 2 ^ 66
natural_below x y h k = go (x +ℤ y +ℤ pos (2 ^ 65)) (omega (arith, ints, h, k))
  where
    go : (z : ℤ) → z <ℤ pos (2 ^ 66) → natural z < 2 ^ 66
    go (pos n) e = omega (arith, ints, e)
    go (negsuc n) e = omega arith

shifted_below : (f : Form) (values : List ℤ) → AreSmall values → shifted f values < 2 ^ 66
shifted_below f values h =
    natural_below (signed f.plus (variable values f.first)) (signed f.second_plus (variable values f.second))
    (signed_small f.plus (variable values f.first) (variable_small values h f.first)) (signed_small f.second_plus (variable values f.second) (variable_small values h f.second))

natural_less : (a b : ℤ) → pos 0 ≤ℤ a → a <ℤ b → natural a < natural b
natural_less (pos m) (pos n) h k = omega (arith, ints, k)
natural_less (pos m) (negsuc n) h k = absurd (omega (arith, ints, k))
natural_less (negsuc m) b h k = absurd (omega (arith, ints, h))

shifted_less : (f : Form) (before after : List ℤ) → AreSmall after → row_value f after <ℤ row_value f before → shifted f after < shifted f before
shifted_less f before after h less =
    go (signed f.plus (variable after f.first)) (signed f.second_plus (variable after f.second))
    (signed_small f.plus (variable after f.first) (variable_small after h f.first)) (signed_small f.second_plus (variable after f.second) (variable_small after h f.second)) (row_value f before) less
  where
    go : (x y : ℤ) → unsigned_abs x < 2 ^ 64 → unsigned_abs y < 2 ^ 64 → (z : ℤ) → (x +ℤ y) <ℤ z → natural (x +ℤ y +ℤ pos (2 ^ 65)) < natural (z +ℤ pos (2 ^ 65))
    go x y h k z less = natural_less (x +ℤ y +ℤ pos (2 ^ 65)) (z +ℤ pos (2 ^ 65)) (omega (arith, ints, h, k, less)) (omega (arith, ints, less))

-- ---- lists

-- the forms as digits, the first one the highest
abbrev pub rank_number : List Form → List ℤ → ℕ
rank_number [] values = 0
rank_number (f ∷ fs) values = shifted f values * 2 ^ (66 * length fs) + rank_number fs values

-- below the next number of the first digit, what stands behind being less than one of it
digits : (a b w r s : ℕ) → a < b → r < w → a * w + r < b * w + s
digits a b w r s h k =
    let m : suc a * w ≤ b * w = mul-le-mul_right w h in
    let e = suc-mul a w in
    omega (arith, m, e, k)

pub rank_below : (r : List Form) (values : List ℤ) → AreSmall values → rank_number r values < 2 ^ (66 * length r)
rank_below [] values h = omega arith
rank_below (f ∷ fs) values h =
    let d = digits (shifted f values) (2 ^ 66) (2 ^ (66 * length fs)) (rank_number fs values) 0 (shifted_below f values h) (rank_below fs values h) in
    let p : 2 ^ (66 * suc (length fs)) ≡ 2 ^ 66 * 2 ^ (66 * length fs) = ap (λ n. 2 ^ n) (omega arith) ∙ pow-add 2 66 (66 * length fs) in
    omega (arith, d, p)

pub rank_lower : (r : List Form) (before after : List ℤ) → AreSmall before → AreSmall after → lower_than r before after ≡ true → rank_number r after < rank_number r before
rank_lower [] before after h k low = cc
rank_lower (f ∷ fs) before after h k low = go (int_eq (row_value f after) (row_value f before)) refl low (λ l. rank_lower fs before after h k l)
  where
    go : (same : Bool) → int_eq (row_value f after) (row_value f before) ≡ same → cond same (lower_than fs before after) (int_lt (row_value f after) (row_value f before)) ≡ true → (lower_than fs before after ≡ true → rank_number fs after < rank_number fs before) →
        shifted f after * 2 ^ (66 * length fs) + rank_number fs after < shifted f before * 2 ^ (66 * length fs) + rank_number fs before
    go true e low rest =
        let s : shifted f after ≡ shifted f before = ap (λ z. natural (z +ℤ pos (2 ^ 65))) ((Decides-int_eq (row_value f after) (row_value f before)).0 e) in
        let m : shifted f after * 2 ^ (66 * length fs) ≡ shifted f before * 2 ^ (66 * length fs) = ap (λ n. n * 2 ^ (66 * length fs)) s in
        let l = rest low in
        omega (arith, m, l)
    go false e low rest =
        digits (shifted f after) (shifted f before) (2 ^ (66 * length fs)) (rank_number fs after) (rank_number fs before)
        (shifted_less f before after k (grind (arith, ints, low))) (rank_below fs after k)
