-- What a text defines at file scope, and the objects, functions, loops and labels that are found in it.
use Rattle.std.specs.Prelude.{ℕ, ◌+◌, ◌==◌, Bool, false, ◌&&◌, ◌||◌, if◌then◌else◌, List, [], ◌∷◌, ◌++◌, length, drop, Option, Some, None}
use Rattle.l2_syntax.specs.declared.place.Place.{Place}
use Rattle.l2_syntax.specs.declared.refusal.Rule.TheVariants.{Cells, Label as LabelRule}
use Rattle.l2_program.specs.declared.program.CheckInfo.{CheckInfo}
use Rattle.l2_program.specs.declared.program.StaticValue.{StaticValue}
use Rattle.l2_types.specs.declared.types.CType.{CType}
use Rattle.l2_types.specs.declared.state.Meaning.{Meaning}
use Rattle.l2_types.specs.declared.state.Entry.{Entry}
use Rattle.l2_types.specs.declared.state.Signature.{Signature}
use Rattle.l2_types.specs.declared.state.Named.{Named}
use Rattle.l2_types.specs.declared.state.ObjectEntry.{ObjectEntry}
use Rattle.l2_types.specs.States.{State, Seen, saw, with_fault}

-- before a text is looked at: the checks and the places of the objects, as far as they are known, and what it defines
abbrev pub start : Bool → List CheckInfo → List Place → List ℕ → List Named → Option ℕ → State
start overflow numbers places defined variables main = record {
  scope = [];
  tags = [];
  level = 0;
  functions = [];
  linked = [];
  overflow = overflow;
  numbers = numbers;
  places = places;
  defined = defined;
  variables = variables;
  main = main;
  function = 0;
  faults = [];
  checks = [];
  calls = [];
  uses = [];
  objects = [];
  statics = [];
  loops = [];
  met = [];
  labels = [];
  values = [];
  has_default = false;
  has_declared = false;
}

-- ---- what the text defines at file scope

-- the number from k on of the object whose name stands at a place; 0 where it isn't known
abbrev pub object_at : ℕ → List Place → Place → ℕ
object_at k [] p = 0
object_at k (q ∷ rest) p = if q.offset == p.offset then k else object_at (k + 1) rest p

abbrev pub place_of : List Named → ℕ → Option Place
place_of [] n = None
place_of (v ∷ rest) n = if v.name == n then Some v.place else place_of rest n

abbrev pub number_at : State → Option Place → Option ℕ
number_at s None = None
number_at s (Some p) = Some (object_at 1 s.places p)

-- the number of the variable of this name that the text defines at file scope, if it defines one
abbrev pub variable : State → ℕ → Option ℕ
variable s n = number_at s (place_of s.variables n)

-- the number from k on of the function of a name; 0 where it has no definition
abbrev pub number_from : ℕ → List ℕ → ℕ → ℕ
number_from k [] n = 0
number_from k (m ∷ rest) n = if m == n then k else number_from (k + 1) rest n

abbrev pub function_number : State → ℕ → ℕ
function_number s n = number_from 1 s.defined n

-- whether these names have this one
abbrev pub has : List ℕ → ℕ → Bool
has [] n = false
has (m ∷ rest) n = m == n || has rest n

-- ---- names

-- what a name stands for in the innermost scope
abbrev pub meaning_from : Option Meaning → ℕ → List Entry → ℕ → Option Meaning
meaning_from found level [] n = found
meaning_from found level (e ∷ rest) n = meaning_from (if e.name == n && e.level == level then Some e.meaning else found) level rest n

abbrev pub meaning_here : State → ℕ → Option Meaning
meaning_here s n = meaning_from None s.level s.scope n

abbrev pub with_signature : Signature → State → State
with_signature g s = record s { functions = s.functions ++ g ∷ [] }

-- a variable of file scope was declared with a type
abbrev pub with_linked : ℕ → CType → Bool → State → State
with_linked n t c s = record s { linked = s.linked ++ record { name = n; of = t; is_const = c } ∷ [] }

-- ---- objects

abbrev pub most_cells : ℕ
most_cells = 65536

abbrev pub with_object : ℕ → Place → CType → Bool → State → State
with_object n p t st s = record s { objects = s.objects ++ record { name = n; place = p; of = t; is_static = st; function = s.function } ∷ [] }

-- `cells` at the object with which there are too many
abbrev pub unless_full : Place → State → State
unless_full p s = if length s.objects == most_cells + 1 then with_fault p Cells s else s

-- an object of one cell, and its number
abbrev pub new_object : ℕ → Place → CType → Bool → State → Seen ℕ
new_object n p t st s = saw (length s.objects + 1) (unless_full p (with_object n p t st s))

-- whether a variable of this name was defined at file scope before
abbrev pub has_variable : List ObjectEntry → ℕ → Bool
has_variable [] n = false
has_variable (o ∷ rest) n = o.name == n && o.function == 0 || has_variable rest n

abbrev pub with_static : StaticValue → State → State
with_static v s = record s { statics = s.statics ++ v ∷ [] }

-- ---- functions, loops and labels

abbrev pub with_met : ℕ → State → State
with_met n s = record s { met = s.met ++ n ∷ [] }

-- the function of this number begins
abbrev pub inside_function : ℕ → State → State
inside_function k s = record s { function = k; labels = [] }

abbrev pub outside_functions : State → State
outside_functions s = record s { function = 0 }

-- a loop, and its number
abbrev pub new_loop : Place → State → Seen ℕ
new_loop p s =
    saw (length s.loops + 1) (record s { loops = s.loops ++ record { place = p; function = s.function; objects = length s.objects } ∷ [] })

-- the objects that are named between two places of the text
abbrev pub named_between : State → State → List ℕ
named_between before after = drop (length before.uses) after.uses

-- `label` where the function has the label already
abbrev pub with_label : ℕ → Place → State → State
with_label n p s = if has s.labels n then with_fault p LabelRule s else record s { labels = s.labels ++ n ∷ [] }
