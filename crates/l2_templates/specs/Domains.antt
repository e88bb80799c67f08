-- Which forms and bounds a domain tries, and in which order the rows of a loop stand.
use Rattle.std.specs.Prelude.{◌≡◌, ℕ, ◌<◌, Bool, true, false, cond, ◌==◌, ◌&&◌, ◌||◌, if◌then◌else◌, ℤ, pos, ◌<ℤ◌, int_lt, List, [], ◌∷◌, ◌++◌, length, map, take, slice_index_or}
use Rattle.std.specs.Bool.{beq}
use Rattle.std.specs.Int.{int_min}
use Rattle.std.specs.List.{Contains, filter, flat_map, list_any}
use Rattle.l2_templates.specs.declared.form.Form.{Form}
use Rattle.l2_templates.specs.declared.families.Family.{Family}
use Rattle.l2_templates.specs.declared.families.Family.TheVariants.{NoRows, Equalities, Intervals, Zones, Octagons}
use Rattle.l2_templates.specs.declared.families.Variable.{Variable}
use Rattle.l2_templates.specs.Forms.{is_form}

-- the signs with which one variable is a form
abbrev pub one_signs : Family → List Bool
one_signs NoRows = []
one_signs Equalities = []
one_signs Intervals = true ∷ false ∷ []
one_signs Zones = true ∷ false ∷ []
one_signs Octagons = true ∷ false ∷ []

-- the signs with which two variables are one
abbrev pub two_signs : Family → List (Bool × Bool)
two_signs NoRows = []
two_signs Equalities = (true, false) ∷ (false, true) ∷ []
two_signs Intervals = []
two_signs Zones = (true, false) ∷ (false, true) ∷ []
two_signs Octagons = (true, true) ∷ (true, false) ∷ (false, true) ∷ (false, false) ∷ []

abbrev pub single : ℕ → Bool → Form
single v plus = record { first = v; plus = plus; second = 0; second_plus = true }

abbrev pub pair : ℕ → ℕ → Bool × Bool → Form
pair v w signs = record { first = v; plus = signs.0; second = w; second_plus = signs.1 }

-- ---- the forms of some variables, in order

abbrev pub of_one : Family → Variable → List Form
of_one family v = map (single v.number) (one_signs family)

abbrev pub of_two : Family → Variable → Variable → List Form
of_two family v w = map (pair v.number w.number) (two_signs family)

-- the forms of one variable each, where it is modified
abbrev pub singles : Family → List Variable → List Form
singles family vs = flat_map (of_one family) (filter (λ v. v.modified) vs)

-- the forms of a variable and a later one, where one of the two is modified
abbrev pub with_later : Family → Variable → List Variable → List Form
with_later family v vs = flat_map (of_two family v) (filter (λ w. v.modified || w.modified) vs)

abbrev pub pairs : Family → List Variable → List Form
pairs family [] = []
pairs family (v ∷ vs) = with_later family v vs ++ pairs family vs

-- all single ones, then the pairs
abbrev pub forms : Family → List Variable → List Form
forms family vs = singles family vs ++ pairs family vs

-- ---- the rows of a loop

abbrev pub is_in : List ℕ → ℕ → Bool
is_in numbers n = list_any (λ m. m == n) numbers

-- the variables, with what is modified of them
abbrev pub marked : List ℕ → List ℕ → List Variable
marked vars mods = map (λ v. record { number = v; modified = is_in mods v }) vars

-- the first 1,024 forms
abbrev pub row_list : Family → List ℕ → List ℕ → List Form
row_list family vars mods = take 1024 (forms family (marked vars mods))

-- ---- what a domain allows

-- the form is one of the family's, of any variables
abbrev pub takes : Family → Form → Bool
takes family f =
    is_form f
    && (if f.second == 0 then list_any (λ plus. beq plus f.plus) (one_signs family)
    else list_any (λ signs. beq signs.0 f.plus && beq signs.1 f.second_plus) (two_signs family))

abbrev pub Rises : List ℤ → Type 0
Rises bounds = (i j : ℕ) → i < j → j < length bounds → slice_index_or bounds i (pos 0) <ℤ slice_index_or bounds j (pos 0)

-- the form is one of the family's, and the bound one of these
pub record Allows (family : Family) (bounds : List ℤ) (f : Form) (bound : ℤ) : Type 0 where
  pub taken : takes family f ≡ true
  pub listed : Contains bounds bound

-- what allows two bounds of a form allows the smaller
pub meets : (family : Family) (bounds : List ℤ) (f : Form) (a b : ℤ) → Allows family bounds f a → Allows family bounds f b → Allows family bounds f (int_min a b)
meets family bounds f a b first second = go (int_lt b a)
  where
    go : (test : Bool) → Allows family bounds f (cond test b a)
    go true = second
    go false = first
