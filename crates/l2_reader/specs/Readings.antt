-- How far reading has come, and what refusals say.
use Rattle.std.specs.Prelude.{◌<◌, ◌≤◌, ℕ, List, ◌∷◌, Bool, true, false, map, drop, length}
use Rattle.l2_syntax.specs.declared.token.Token.{Token}
use Rattle.l2_grammar.specs.declared.states.State.{State}
use Rattle.l2_grammar.specs.declared.states.State.TheVariants.{UnitEnd as unit_end}
use Rattle.l2_grammar.specs.Trees.{Seen}
use Rattle.l2_grammar.specs.Law.{StopsBefore}
use Rattle.l2_grammar.specs.Limits.{most, Rule, nesting, syntax, Reading, read_on, NestsBefore, Shallow, ShallowAt}
use Rattle.l2_reader.specs.declared.error.ReadError.{ReadError}
use Rattle.l2_reader.specs.declared.error.ReadError.TheVariants as cause
use Rattle.l2_reader.specs.declared.error.ParseError.{ParseError}
use Rattle.l2_reader.specs.declared.error.ParseError.TheVariants.{Nesting, Syntax, NoMemory}
use Rattle.l2_reader.specs.declared.reader.Progress.{Progress}
use Rattle.l2_reader.specs.Parts.{seen, tree_of, Sound}
use Rattle.l2_reader.specs.Stacks.{trees_of, AllSound, spelt}

pub record Steady (p : Progress) : Type 0 where
  pub run : Sound p.run
  pub stack : AllSound p.stack
  pub within : p.brackets ≤ most

-- the tokens that were read
abbrev pub count_of : Progress → ℕ
count_of p = spelt (tree_of p.run ∷ trees_of p.stack)

-- what reading these tokens comes to from here
abbrev pub read_from : Progress → List Seen → Reading
read_from p ts = read_on ts p.brackets (tree_of p.run) (trees_of p.stack)

abbrev pub is_end : State → Bool
is_end unit_end = true
is_end q = false

-- the rule by which a token is refused, where one is
abbrev pub rule_for : ReadError → Rule
rule_for cause.Nesting = nesting
rule_for f = syntax

abbrev pub rule_of : ParseError → Rule
rule_of (Nesting i) = nesting
rule_of f = syntax

-- the index of the token that is refused
abbrev pub place_of : ParseError → ℕ
place_of (Nesting i) = i
place_of (Syntax i) = i
place_of NoMemory = 0

-- the index is that of a token, or at most behind the last
abbrev pub InText : List Token → ParseError → Type 0
InText ts (Nesting i) = i < length ts
InText ts (Syntax i) = i ≤ length ts
InText ts NoMemory = Unit {0}

-- these tokens are refused so
abbrev pub IsRefusal : List Token → ParseError → Type 0
IsRefusal ts (Nesting i) = NestsBefore (map seen ts) (map seen (drop i ts))
IsRefusal ts (Syntax i) = StopsBefore (map seen ts) (map seen (drop i ts)) × Shallow (map seen ts) (map seen (drop i ts)) × ShallowAt (map seen ts) (map seen (drop i ts))
IsRefusal ts NoMemory = Unit {0}
