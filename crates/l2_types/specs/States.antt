-- What is known while a text is looked at from its beginning, and what was found.
use Rattle.std.specs.Prelude.{ℕ, ℤ, ◌+◌, Bool, ◌&&◌, ◌==◌, if◌then◌else◌, List, [], ◌∷◌, ◌++◌, length, take, Option, None, Some}
use Rattle.l2_syntax.specs.declared.place.Place.{Place}
use Rattle.l2_syntax.specs.declared.refusal.Rule.{Rule}
use Rattle.l2_syntax.specs.declared.refusal.Refusal.{Refusal}
use Rattle.l2_runs.specs.declared.kind.Kind.{Kind}
use Rattle.l2_runs.specs.declared.kind.Kind.TheVariants.{Assertion, Bounds, Null, Invalid, Lifetime, Pointer, Object, Division, Shift, Overflow}
use Rattle.l2_program.specs.declared.program.CheckInfo.{CheckInfo}
use Rattle.l2_types.specs.declared.state.Meaning.{Meaning}
use Rattle.l2_types.specs.declared.state.Entry.{Entry}
use Rattle.l2_types.specs.declared.state.Signature.{Signature}
use Rattle.l2_program.specs.declared.program.StaticValue.{StaticValue}
use Rattle.l2_types.specs.declared.state.Site.{Site}
use Rattle.l2_types.specs.declared.state.CheckSite.{CheckSite}
use Rattle.l2_types.specs.declared.state.ObjectEntry.{ObjectEntry}
use Rattle.l2_types.specs.declared.state.LoopEntry.{LoopEntry}
use Rattle.l2_types.specs.declared.state.Named.{Named}
use Rattle.l2_types.specs.declared.state.Linked.{Linked}
use Rattle.l2_types.specs.declared.state.TagEntry.{TagEntry}

pub record State : Type 0 where
  -- the names in scope, the innermost last, each with the level of its scope, and the tags of enums that are defined
  pub scope : List Entry
  pub tags : List TagEntry
  -- how many scopes stand round the innermost one
  pub level : ℕ
  pub functions : List Signature
  -- the variables of file scope that were declared, there or by `extern` in a block
  pub linked : List Linked
  -- whether overflow is checked
  pub overflow : Bool
  -- the checks of the text by their numbers, where these are known
  pub numbers : List CheckInfo
  -- the places of the names of the text's objects, in their order, where these are known
  pub places : List Place
  -- what the text defines at file scope: its functions by their names, and its variables
  pub defined : List ℕ
  pub variables : List Named
  -- the number of the name `main`, where the text has it
  pub main : Option ℕ
  -- the number of the function that is looked at, 0 at file scope
  pub function : ℕ
  -- what was found: faults, checks, calls, and objects that are named
  pub faults : List Refusal
  pub checks : List CheckSite
  pub calls : List Site
  pub uses : List ℕ
  -- objects, the values with which static ones begin, loops, and the names of the functions whose definitions were met
  pub objects : List ObjectEntry
  pub statics : List StaticValue
  pub loops : List LoopEntry
  pub met : List ℕ
  -- of the function that is looked at: its labels so far
  pub labels : List ℕ
  -- of the switch that stands round: its labels so far, and whether a declaration stood in its block
  pub values : List ℤ
  pub has_default : Bool
  pub has_declared : Bool

-- what a part of a text comes to, and what is known behind it
pub data Seen (A : Type 0) : Type 0 where
  saw : A → State → Seen A

abbrev pub next : {A B : Type 0} → Seen A → (A → State → Seen B) → Seen B
next (saw a s) f = f a s

abbrev pub state_of : {A : Type 0} → Seen A → State
state_of (saw a s) = s

-- the meaning of a name: that of its last declaration
abbrev pub lookup_from : Option Meaning → List Entry → ℕ → Option Meaning
lookup_from found [] n = found
lookup_from found (e ∷ rest) n = lookup_from (if e.name == n then Some e.meaning else found) rest n

abbrev pub lookup : State → ℕ → Option Meaning
lookup s n = lookup_from None s.scope n

abbrev pub with_fault : Place → Rule → State → State
with_fault p r s = record s { faults = s.faults ++ record { place = p; rule = r } ∷ [] }

abbrev pub with_check : Place → Kind → State → State
with_check p k s = record s { checks = s.checks ++ record { function = s.function; place = p; kind = k } ∷ [] }

abbrev pub with_call : ℕ → Place → State → State
with_call f p s = record s { calls = s.calls ++ record { caller = s.function; function = f; place = p } ∷ [] }

abbrev pub with_use : ℕ → State → State
with_use o s = record s { uses = s.uses ++ o ∷ [] }

-- the checks and calls of an expression that isn't evaluated don't count
abbrev pub unevaluated : State → State → State
unevaluated before after =
    record after { checks = take (length before.checks) after.checks; calls = take (length before.calls) after.calls }

abbrev pub kind_number : Kind → ℕ
kind_number Assertion = 1
kind_number Bounds = 2
kind_number Null = 3
kind_number Invalid = 4
kind_number Lifetime = 5
kind_number Pointer = 6
kind_number Object = 7
kind_number Division = 8
kind_number Shift = 9
kind_number Overflow = 10

-- the number of a check from n on; 0 where it has none
abbrev pub check_from : ℕ → List CheckInfo → Place → Kind → ℕ
check_from n [] p k = 0
check_from n (c ∷ rest) p k =
    if c.place.offset == p.offset && kind_number c.kind == kind_number k then n else check_from (n + 1) rest p k

abbrev pub check_number : State → Place → Kind → ℕ
check_number s p k = check_from 1 s.numbers p k
