-- Circuits of rows and rankings. The variables' words have 66 bits, so that forms are exact.
use Rattle.std.specs.Prelude.{ℕ, zero, suc, ◌==◌, Bool, true, false, if◌then◌else◌, ℤ, Option, Some, None, List, [], ◌∷◌, slice_index_or}
use Rattle.l2_gates.specs.Gates.{Lit, T, F, Made, Bit, known, and, or}
use Rattle.l2_templates.specs.declared.form.Form.{Form}
use Rattle.l2_templates.specs.declared.form.Row.{Row}
use Rattle.l2_circuits.specs.Words.{Word, known_word, sum, sub, lts, eq, zeros, constant, opposite}

-- how many bits rows are computed with
abbrev pub wide : ℕ
wide = 66

-- the word of a variable: variable v stands at index v - 1
abbrev pub variable_word : List (List Lit) → ℕ → List Lit
variable_word words zero = []
variable_word words (suc n) = slice_index_or words n []

-- a word, or its negative
abbrev pub signed_word : Bool → List Lit → Made → Word
signed_word true a m = known_word a m
signed_word false a m = let s = sub (zeros a) a m in known_word s.bits s.made

abbrev pub sum_word : List Lit → List Lit → Made → Word
sum_word a b m = let s = sum a b F m in known_word s.bits s.made

-- the first variable with its sign, and then the sum with the second
abbrev pub two_words : Form → List (List Lit) → Word → Word
two_words f words first =
    let second = signed_word f.second_plus (variable_word words f.second) first.made in
    sum_word first.bits second.bits second.made

-- the value of a form
abbrev pub form_word : Form → List (List Lit) → Made → Word
form_word f words m =
    if f.second == 0 then signed_word f.plus (variable_word words f.first) m
    else two_words f words (signed_word f.plus (variable_word words f.first) m)

-- whether a value is at most this bound, where there is one
abbrev pub bound_bit : Option ℤ → Word → Bit
bound_bit None w = known T w.made
bound_bit (Some bound) w = opposite (lts (constant wide bound) w.bits w.made)

-- whether a row holds
abbrev pub row_bit : Row → List (List Lit) → Made → Bit
row_bit r words m = bound_bit r.bound (form_word r.form words m)

-- ---- rankings

-- one component: it is less, or it is equal and those behind it are lower
abbrev pub component_bit : Form → List (List Lit) → List (List Lit) → Lit → Made → Bit
component_bit f before after low m =
    let x = form_word f after m in
    let y = form_word f before x.made in
    let l = lts x.bits y.bits y.made in
    let e = eq x.bits y.bits l.made in
    let k = and e.bit low e.made in
    or l.bit k.bit k.made

-- whether a list of ranks is lower afterwards, from the last component on
abbrev pub lower_bit : List Form → List (List Lit) → List (List Lit) → Made → Bit
lower_bit [] before after m = known F m
lower_bit (f ∷ fs) before after m =
    let rest = lower_bit fs before after m in
    component_bit f before after rest.bit rest.made
