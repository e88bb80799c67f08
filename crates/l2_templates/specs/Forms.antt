-- Forms over the variables of a loop, rows that bound them, and rankings, at some values of the variables.
use Rattle.std.specs.Prelude.{◌≡◌, ⊤, ℕ, zero, suc, ◌-◌, ◌^◌, ◌≤◌, ◌<◌, Bool, true, false, not, ◌==◌, ◌&&◌, if◌then◌else◌, nat_lt, ℤ, pos, negsuc, neg_ℤ, ◌+ℤ◌, ◌≤ℤ◌, ◌<ℤ◌, int_le, int_lt, Option, Some, None, List, [], ◌∷◌, length, slice_index_or}
use Rattle.std.specs.Bool.{beq}
use Rattle.std.specs.Ordering.{int_eq}
use Rattle.l2_templates.specs.declared.form.Form.{Form}
use Rattle.l2_templates.specs.declared.form.Row.{Row}

-- the value of a variable: variable v stands at index v - 1. Number 0 is no variable, and has the value 0
abbrev pub variable : List ℤ → ℕ → ℤ
variable values zero = pos 0
variable values (suc n) = slice_index_or values n (pos 0)

abbrev pub signed : Bool → ℤ → ℤ
signed plus value = if plus then value else neg_ℤ value

-- the value of a form, exact over the whole numbers
abbrev pub row_value : Form → List ℤ → ℤ
row_value f values = signed f.plus (variable values f.first) +ℤ signed f.second_plus (variable values f.second)

-- the numbers that cells hold: from -2^63 to 2^64 - 1
pub record IsNumber (value : ℤ) : Type 0 where
  pub least : negsuc (2 ^ 63 - 1) ≤ℤ value
  pub most : value <ℤ pos (2 ^ 64)

-- the variables of a form are among the first n
pub record IsOver (n : ℕ) (f : Form) : Type 0 where
  pub some : 1 ≤ f.first
  pub first_within : f.first ≤ n
  pub second_within : f.second ≤ n

-- it is a form: two variables stand in their order, and where there is one the second sign is plus
abbrev pub is_form : Form → Bool
is_form f = nat_lt 0 f.first && (if f.second == 0 then f.second_plus else nat_lt f.first f.second)

-- a form stands before another: those of one variable first, then by the variables, and then plus before minus
abbrev pub stands_before : Form → Form → Bool
stands_before f g =
    if (f.second == 0) && not (g.second == 0) then true
    else if not (f.second == 0) && (g.second == 0) then false
    else if not (f.first == g.first) then nat_lt f.first g.first
    else if not (f.second == g.second) then nat_lt f.second g.second
    else if not (beq f.plus g.plus) then f.plus
    else f.second_plus && not g.second_plus

-- ---- rows

-- a value is at most a bound, where there is one
abbrev pub is_within : Option ℤ → ℤ → Bool
is_within None value = true
is_within (Some bound) value = int_le value bound

abbrev pub row_holds : Row → List ℤ → Bool
row_holds row values = is_within row.bound (row_value row.form values)

-- the same as facts
abbrev pub IsWithin : Option ℤ → ℤ → Type 0
IsWithin None value = ⊤
IsWithin (Some bound) value = value ≤ℤ bound

abbrev pub RowHolds : Row → List ℤ → Type 0
RowHolds row values = IsWithin row.bound (row_value row.form values)

-- ---- rankings

-- no form: it has no variable
abbrev pub no_form : Form
no_form = record { first = 0; plus = true; second = 0; second_plus = true }

abbrev pub form_at : List Form → ℕ → Form
form_at r i = slice_index_or r i no_form

-- some component differs, and the first that does is smaller afterwards
abbrev pub lower_than : List Form → List ℤ → List ℤ → Bool
lower_than [] before after = false
lower_than (f ∷ fs) before after =
    if int_eq (row_value f after) (row_value f before) then lower_than fs before after
    else int_lt (row_value f after) (row_value f before)

-- the same as a fact
abbrev pub IsLower : List Form → List ℤ → List ℤ → Type 0
IsLower r before after =
    (i : ℕ)
    × (i < length r)
    × ((j : ℕ) → j < i → row_value (form_at r j) after ≡ row_value (form_at r j) before)
    × (row_value (form_at r i) after <ℤ row_value (form_at r i) before)
