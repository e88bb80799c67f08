-- Rows in which each argument has a value.
use Rattle.std.proofs.Common.{◌≡◌, ◌++◌, Bool, true, false, List, [], ◌∷◌, length, Some, refl, ap}
use Rattle.std.specs.Prelude.{is_some, find, fold, not, slice_get, option_and_then, ◌&&◌, ◌||◌, if◌then◌else◌}
use Rattle.std.proofs.lemmas.Slice.Eq.{bytes_eq-Decides}
use Rattle.std.specs.List.{list_any}
use Rattle.std.specs.Str.{bytes_eq}
use Rattle.std.specs.Option.{option_map_or}
use Rattle.clap.specs.declared.builder.action.ArgAction.{ArgAction}
use Rattle.clap.specs.declared.builder.action.ArgAction.TheVariants.{Set, Append, SetTrue, SetFalse, Count, Help, HelpShort, HelpLong, Version}
use Rattle.clap.specs.declared.builder.value_parser.Reading.{Reading}
use Rattle.clap.specs.declared.parser.matches.ValueSource.{ValueSource}
use Rattle.clap.specs.declared.parser.matches.ValueSource.TheVariants.{DefaultValue, CommandLine}
use Rattle.clap.specs.Facts.{explicit_source}
use Rattle.clap.specs.Kinds.{range_kinds}
use Rattle.clap.specs.Facts.{unwrap_or_range}
use Rattle.clap.specs.Takes.{is_given}
use Rattle.clap.specs.Walk.{Text, Row, Rule, at_row, without, more_values, with_values, used_as, used, action_of, reading_by, values_or_missing, most_values, is_empty, first_of, has_row, default_rows, with_default}

abbrev pub IsFull : List Text → Type 0
IsFull [] = ⊥
IsFull (v ∷ vs) = Unit {0}

abbrev pub AreFull : List Row → Type 0
AreFull [] = Unit {0}
AreFull (r ∷ rs) = IsFull r.values × AreFull rs

both_full : (rows more : List Row) → AreFull rows → AreFull more → AreFull (rows ++ more)
both_full [] more f g = g
both_full (r ∷ rows) more (v, f) g = (v, both_full rows more f g)

at_row_full : (id : Text) (change : Row → List Row) (missing rows : List Row) → ((r : Row) → IsFull r.values → AreFull (change r)) → AreFull missing →
    AreFull rows → AreFull (at_row id change missing rows)
at_row_full id change missing [] h m f = m
at_row_full id change missing (r ∷ rows) h m (v, f) = go (bytes_eq r.id id) (at_row_full id change missing rows h m f) where
  go : (b : Bool) → AreFull (at_row id change missing rows) → AreFull (if b then change r ++ rows else r ∷ at_row id change missing rows)
  go true g = both_full (change r) rows (h r v) f
  go false g = (v, g)

without_full : (id : Text) (rows : List Row) → AreFull rows → AreFull (without id rows)
without_full id rows f = at_row_full id (λ _. []) [] rows (λ r v. tt) tt f

longer : (vs ws : List Text) → IsFull vs → IsFull (vs ++ ws)
longer (v ∷ vs) ws f = tt
longer [] ws f = absurd f

with_values_full : (id : Text) (how : Reading) (s : ValueSource) (values : List Text) (rows : List Row) → IsFull values → AreFull rows → AreFull (with_values id how s values rows)
with_values_full id how s values rows v f = at_row_full id (more_values s values) _ rows (λ r w. (longer r.values values w, tt)) (v, tt) f

used_as_full : (x : ArgAction) (id : Text) (how : Reading) (values : List Text) (rows : List Row) → IsFull values → AreFull rows → AreFull (used_as x id how values rows)
used_as_full Set id how values rows v f = with_values_full id how CommandLine values (without id rows) v (without_full id rows f)
used_as_full SetTrue id how values rows v f = with_values_full id how CommandLine values (without id rows) v (without_full id rows f)
used_as_full SetFalse id how values rows v f = with_values_full id how CommandLine values (without id rows) v (without_full id rows f)
used_as_full Append id how values rows v f = with_values_full id how CommandLine values rows v f
used_as_full Count id how [] rows v f = absurd v
used_as_full Count id how (w ∷ ws) rows v f = with_values_full id how CommandLine (w ∷ ws) (without id rows) tt (without_full id rows f)
used_as_full Help id how values rows v f = f
used_as_full HelpShort id how values rows v f = f
used_as_full HelpLong id how values rows v f = f
used_as_full Version id how values rows v f = f

-- each use of the argument with as many values as it takes gives it a value
abbrev pub GivesValue : Rule → Type 0
GivesValue a = (values : List Text) → range_kinds (unwrap_or_range a.range).start_inclusive (most_values a) (length values) ≡ [] → IsFull (values_or_missing a values)

pub used_full : (a : Rule) (values : List Text) (rows : List Row) → IsFull (values_or_missing a values) → AreFull rows → AreFull (used a values rows)
used_full a values rows v f = used_as_full (action_of a) a.id (reading_by a) (values_or_missing a values) rows v f

default_rows_full : (id : Text) (how : Reading) (values : List Text) (rows : List Row) → AreFull rows → AreFull (default_rows id how values rows)
default_rows_full id how [] rows f = f
default_rows_full id how (v ∷ vs) rows f = with_values_full id how DefaultValue (v ∷ vs) rows tt f

pub with_default_full : (rows : List Row) (a : Rule) → AreFull rows → AreFull (with_default rows a)
with_default_full rows a f = go (has_row a.id rows) where
  go : (b : Bool) → AreFull (if b then rows else default_rows a.id (reading_by a) a.defaults rows)
  go true = f
  go false = default_rows_full a.id (reading_by a) a.defaults rows f

-- ---- values of rows

value_there : (r : Row) → IsFull r.values → is_some (slice_get r.values 0) ≡ true
value_there r v = go r.values v where
  go : (vs : List Text) → IsFull vs → is_some (slice_get vs 0) ≡ true
  go [] f = absurd f
  go (w ∷ ws) f = refl

pub row_has_value : (id : Text) (rows : List Row) → AreFull rows → has_row id rows ≡ true → is_some (first_of id rows) ≡ true
row_has_value id [] f h = absurd (let e : false ≡ true = h in cc)
row_has_value id (r ∷ rows) (v, f) h = go (bytes_eq r.id id) h (λ e. row_has_value id rows f e) where
  go : (b : Bool) → (b || has_row id rows) ≡ true → (has_row id rows ≡ true → is_some (first_of id rows) ≡ true) →
      is_some (option_and_then (λ r. slice_get r.values 0) (if b then Some r else find (λ r. bytes_eq r.id id) rows)) ≡ true
  go true e rest = value_there r v
  go false e rest = rest e

pub given_has_row : (id : Text) (rows : List Row) → is_given id rows ≡ true → has_row id rows ≡ true
given_has_row id [] h = h
given_has_row id (r ∷ rows) h = go (bytes_eq r.id id) h (λ e. given_has_row id rows e) where
  go : (b : Bool) → option_map_or (λ r. explicit_source r.source) (if b then Some r else find (λ r. bytes_eq r.id id) rows) false ≡ true →
      (is_given id rows ≡ true → has_row id rows ≡ true) → (b || has_row id rows) ≡ true
  go true e rest = refl
  go false e rest = rest e

-- ---- defaults

or_true : (a b : Bool) → b ≡ true → (a || b) ≡ true
or_true true b e = refl
or_true false b e = e

with_values_keeps : (id other : Text) (how : Reading) (s : ValueSource) (values : List Text) (rows : List Row) → has_row other rows ≡ true →
    has_row other (with_values id how s values rows) ≡ true
with_values_keeps id other how s values [] h = absurd (let e : false ≡ true = h in cc)
with_values_keeps id other how s values (r ∷ rows) h = go (bytes_eq r.id id) (λ e. with_values_keeps id other how s values rows e) where
  inside : (b : Bool) → (b || has_row other rows) ≡ true → (has_row other rows ≡ true → has_row other (with_values id how s values rows) ≡ true) →
      (b || has_row other (with_values id how s values rows)) ≡ true
  inside true e rest = refl
  inside false e rest = rest e

  go : (b : Bool) → (has_row other rows ≡ true → has_row other (with_values id how s values rows) ≡ true) →
      has_row other (if b then more_values s values r ++ rows else r ∷ with_values id how s values rows) ≡ true
  go true rest = h
  go false rest = inside (bytes_eq r.id other) h rest

with_values_there : (id : Text) (how : Reading) (s : ValueSource) (values : List Text) (rows : List Row) → has_row id (with_values id how s values rows) ≡ true
with_values_there id how s values [] = ap (λ b. b || false) ((bytes_eq-Decides id id).1 refl)
with_values_there id how s values (r ∷ rows) = go (bytes_eq r.id id) refl (with_values_there id how s values rows) where
  go : (b : Bool) → bytes_eq r.id id ≡ b → has_row id (with_values id how s values rows) ≡ true →
      has_row id (if b then more_values s values r ++ rows else r ∷ with_values id how s values rows) ≡ true
  go true e rest = ap (λ b. b || has_row id rows) e
  go false e rest = or_true (bytes_eq r.id id) (has_row id (with_values id how s values rows)) rest

default_rows_keeps : (id other : Text) (how : Reading) (values : List Text) (rows : List Row) → has_row other rows ≡ true → has_row other (default_rows id how values rows) ≡ true
default_rows_keeps id other how [] rows h = h
default_rows_keeps id other how (v ∷ vs) rows h = with_values_keeps id other how DefaultValue (v ∷ vs) rows h

default_rows_there : (id : Text) (how : Reading) (values : List Text) (rows : List Row) → is_empty values ≡ false → has_row id (default_rows id how values rows) ≡ true
default_rows_there id how [] rows some = absurd (let e : true ≡ false = some in cc)
default_rows_there id how (v ∷ vs) rows some = with_values_there id how DefaultValue (v ∷ vs) rows

with_default_keeps : (rows : List Row) (a : Rule) (other : Text) → has_row other rows ≡ true → has_row other (with_default rows a) ≡ true
with_default_keeps rows a other h = go (has_row a.id rows) where
  go : (b : Bool) → has_row other (if b then rows else default_rows a.id (reading_by a) a.defaults rows) ≡ true
  go true = h
  go false = default_rows_keeps a.id other (reading_by a) a.defaults rows h

with_default_there : (rows : List Row) (a : Rule) → is_empty a.defaults ≡ false → has_row a.id (with_default rows a) ≡ true
with_default_there rows a some = go (has_row a.id rows) refl where
  go : (b : Bool) → has_row a.id rows ≡ b → has_row a.id (if b then rows else default_rows a.id (reading_by a) a.defaults rows) ≡ true
  go true e = e
  go false e = default_rows_there a.id (reading_by a) a.defaults rows some

defaults_keep : (c : List Rule) (rows : List Row) (other : Text) → has_row other rows ≡ true → has_row other (fold with_default rows c) ≡ true
defaults_keep [] rows other h = h
defaults_keep (a ∷ c) rows other h = defaults_keep c (with_default rows a) other (with_default_keeps rows a other h)

pub defaults_full : (c : List Rule) (rows : List Row) → AreFull rows → AreFull (fold with_default rows c)
defaults_full [] rows f = f
defaults_full (a ∷ c) rows f = defaults_full c (with_default rows a) (with_default_full rows a f)

-- each argument with a default has a row
abbrev pub AreDefaulted : List Rule → List Row → Type 0
AreDefaulted [] rows = Unit {0}
AreDefaulted (a ∷ c) rows = (is_empty a.defaults ≡ false → has_row a.id rows ≡ true) × AreDefaulted c rows

pub defaults_there : (c : List Rule) (rows : List Row) → AreDefaulted c (fold with_default rows c)
defaults_there [] rows = tt
defaults_there (a ∷ c) rows = ((λ some. defaults_keep c (with_default rows a) a.id (with_default_there rows a some)), defaults_there c (with_default rows a))

-- each required argument is given
abbrev pub AreGiven : List Rule → List Row → Type 0
AreGiven [] rows = Unit {0}
AreGiven (a ∷ c) rows = (a.required ≡ true → is_given a.id rows ≡ true) × AreGiven c rows

one_given : (required given more : Bool) → ((required && not given) || more) ≡ false → required ≡ true → given ≡ true
one_given true true more e r = refl
one_given true false more e r = absurd (let f : true ≡ false = e in cc)
one_given false given more e r = absurd (let f : false ≡ true = r in cc)

more_given : (a b : Bool) → (a || b) ≡ false → b ≡ false
more_given false b e = e
more_given true b e = absurd (let f : true ≡ false = e in cc)

pub all_given : (c : List Rule) (rows : List Row) → list_any (λ a. a.required && not (is_given a.id rows)) c ≡ false → AreGiven c rows
all_given [] rows e = tt
all_given (a ∷ c) rows e = (
  one_given a.required (is_given a.id rows) (list_any (λ a. a.required && not (is_given a.id rows)) c) e,
  all_given c rows (more_given (a.required && not (is_given a.id rows)) (list_any (λ a. a.required && not (is_given a.id rows)) c) e),
)

-- each argument that is required, or has a default, has a value
abbrev pub HaveValues : List Rule → List Row → Type 0
HaveValues [] rows = Unit {0}
HaveValues (a ∷ c) rows = (a.required ≡ true → is_some (first_of a.id rows) ≡ true) × (is_empty a.defaults ≡ false → is_some (first_of a.id rows) ≡ true) × HaveValues c rows

pub have_values : (c : List Rule) (rows : List Row) → AreFull rows → AreGiven c rows → AreDefaulted c rows → HaveValues c rows
have_values [] rows f g d = tt
have_values (a ∷ c) rows f (g, gs) (d, ds) =
    ((λ r. row_has_value a.id rows f (given_has_row a.id rows (g r))), (λ some. row_has_value a.id rows f (d some)), have_values c rows f gs ds)
