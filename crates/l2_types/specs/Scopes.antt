-- Scopes, and what is declared in them (C11 6.2.1).
use Rattle.std.specs.Prelude.{ℕ, ◌+◌, ◌==◌, Bool, true, false, ◌&&◌, ◌||◌, if◌then◌else◌, List, [], ◌∷◌, ◌++◌, length, take, Option, Some}
use Rattle.l2_syntax.specs.declared.place.Place.{Place}
use Rattle.l2_syntax.specs.declared.refusal.Rule.TheVariants.{Redeclared}
use Rattle.l2_types.specs.declared.state.Meaning.{Meaning}
use Rattle.l2_types.specs.declared.state.Meaning.TheVariants as meaning
use Rattle.l2_types.specs.declared.state.Entry.{Entry}
use Rattle.l2_types.specs.declared.state.TagEntry.{TagEntry}
use Rattle.l2_types.specs.States.{State, lookup, with_fault}

-- a scope begins
abbrev pub entered : State → State
entered s = record s { level = s.level + 1 }

-- names and tags go out of scope
abbrev pub left : State → State → State
left before after = record after { scope = take (length before.scope) after.scope; tags = take (length before.tags) after.tags; level = before.level }

abbrev pub is_builtin : Option Meaning → Bool
is_builtin (Some (meaning.Builtin b)) = true
is_builtin m = false

-- whether the scope of this level has the name
abbrev pub has_name : ℕ → List Entry → ℕ → Bool
has_name level [] n = false
has_name level (e ∷ rest) n = e.name == n && e.level == level || has_name level rest n

abbrev pub has_tag : ℕ → List TagEntry → ℕ → Bool
has_tag level [] n = false
has_tag level (e ∷ rest) n = e.name == n && e.level == level || has_tag level rest n

-- a built-in name, or one that the innermost scope has already
abbrev pub is_taken : State → ℕ → Bool
is_taken s n = is_builtin (lookup s n) || has_name s.level s.scope n

abbrev pub with_entry : ℕ → Meaning → State → State
with_entry n m s = record s { scope = s.scope ++ record { name = n; level = s.level; meaning = m } ∷ [] }

-- the level of a scope round that of the file
abbrev pub outermost : ℕ
outermost = 4294967295

abbrev pub with_outer_entry : ℕ → Meaning → State → State
with_outer_entry n m s = record s { scope = s.scope ++ record { name = n; level = outermost; meaning = m } ∷ [] }

-- a name is declared; `redeclared` where it is taken
abbrev pub declare : ℕ → Place → Meaning → State → State
declare n p m s = if is_taken s n then with_fault p Redeclared s else with_entry n m s

abbrev pub with_tag : ℕ → State → State
with_tag n s = record s { tags = s.tags ++ record { name = n; level = s.level } ∷ [] }

-- the enum of a tag is defined; `redeclared` where the innermost scope has it
abbrev pub define_tag : ℕ → Place → State → State
define_tag n p s = if has_tag s.level s.tags n then with_fault p Redeclared s else with_tag n s
