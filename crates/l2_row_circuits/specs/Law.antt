-- What circuits of rows and rankings give.
use Rattle.std.specs.Prelude.{◌≡◌, ℕ, ◌^◌, ◌≤◌, Bool, true, ℤ, pos, negsuc, ◌≤ℤ◌, Option, Some, None, List, [], ◌∷◌, length}
use Rattle.l2_gates.specs.Gates.{Lit, Made}
use Rattle.l2_gates.specs.Models.{Ok, Gives, AllBelow, Sound, Makes}
use Rattle.l2_templates.specs.declared.form.Form.{Form}
use Rattle.l2_templates.specs.declared.form.Row.{Row}
use Rattle.l2_templates.specs.Forms.{row_value, variable, IsNumber, IsOver, row_holds, lower_than}
use Rattle.l2_circuit_laws.specs.Making.{MakesWord}
use Rattle.l2_circuit_laws.specs.Shows.{Shows, Gains}
use Rattle.l2_row_circuits.specs.Rows.{wide, variable_word, form_word, row_bit, lower_bit}

-- the words show these values, which are such that cells hold
pub record AreShown (v : ℕ → Bool) (words : List (List Lit)) (values : List ℤ) : Type 0 where
  pub shows : (n : ℕ) → 1 ≤ n → n ≤ length values → Shows v wide (variable_word words n) (variable values n)
  pub numbers : (n : ℕ) → n ≤ length values → IsNumber (variable values n)

-- a form over these variables; where it has one, its second sign is plus
pub record IsProper (n : ℕ) (f : Form) : Type 0 where
  pub over : IsOver n f
  pub plain : f.second ≡ 0 → f.second_plus ≡ true

-- the value of a form, exact
abbrev pub FormsShow : Type 0
FormsShow =
    (v : ℕ → Bool) → v 0 ≡ true → (f : Form) (words : List (List Lit)) (values : List ℤ) (m : Made) → AreShown v words values → IsProper (length values) f
    → Ok v (form_word f words m).made → Gains v m wide (form_word f words m).bits (row_value f values)

-- from -2^64 - 1 to 2^64
abbrev pub IsBound : Option ℤ → Type 0
IsBound None = Unit {0}
IsBound (Some b) = (negsuc (2 ^ 64) ≤ℤ b) × (b ≤ℤ pos (2 ^ 64))

abbrev pub RowsAre : Type 0
RowsAre =
    (v : ℕ → Bool) → v 0 ≡ true → (r : Row) (words : List (List Lit)) (values : List ℤ) (m : Made) → AreShown v words values → IsProper (length values) r.form → IsBound r.bound
    → Gives v m (row_holds r values) (row_bit r words m)

abbrev pub AreProper : ℕ → List Form → Type 0
AreProper n [] = Unit {0}
AreProper n (f ∷ fs) = IsProper n f × AreProper n fs

-- a ranking is lower afterwards
abbrev pub RanksAre : Type 0
RanksAre =
    (v : ℕ → Bool) → v 0 ≡ true → (fs : List Form) (before after : List (List Lit)) (old new : List ℤ) (m : Made) → AreShown v before old → AreShown v after new
    → AreProper (length old) fs → AreProper (length new) fs → Gives v m (lower_than fs old new) (lower_bit fs before after m)

-- ---- what is made

-- the literals of the variables' words are there
abbrev pub WordsBelow : ℕ → List (List Lit) → Type 0
WordsBelow n words = (i : ℕ) → AllBelow n (variable_word words i)

pub record RowsMake (m : Made) : Type 0 where
  pub forms : (f : Form) (words : List (List Lit)) → WordsBelow m.next words → MakesWord m (form_word f words m)
  pub rows : (r : Row) (words : List (List Lit)) → WordsBelow m.next words → Makes m (row_bit r words m)
  pub ranks : (fs : List Form) (before after : List (List Lit)) → WordsBelow m.next before → WordsBelow m.next after → Makes m (lower_bit fs before after m)

abbrev pub RowsAreMade : Type 0
RowsAreMade = (m : Made) → Sound m → RowsMake m
