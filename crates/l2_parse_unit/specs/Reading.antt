-- Reading a text: which unit it spells, and where and by which rule reading stops.
use Rattle.std.specs.Prelude.{◌≡◌, ℕ, Bool, true, false, cond, None, Some, List, [], ◌∷◌, ◌++◌, map}
use Rattle.l2_syntax.specs.declared.place.Place.{Place}
use Rattle.l2_syntax.specs.declared.token.TokenKind.{TokenKind}
use Rattle.l2_syntax.specs.declared.token.TokenKind.TheVariants as kind
use Rattle.l2_syntax.specs.declared.token.Token.{Token}
use Rattle.l2_syntax.specs.declared.refusal.Rule.TheVariants as rule
use Rattle.l2_syntax.specs.declared.refusal.Refusal.{Refusal}
use Rattle.l2_syntax.specs.declared.refusal.TextFault.{TextFault}
use Rattle.l2_syntax.specs.declared.refusal.TextFault.TheVariants as fault
use Rattle.l2_grammar.specs.Trees.{Seen}
use Rattle.l2_grammar.specs.Law as grammar
use Rattle.l2_grammar.specs.Law.{Begins, StopsBefore}
use Rattle.l2_lex.specs.Lexing.{Lexed, tokens_of}
use Rattle.l2_tree.specs.Trees.{UnitTree}
use Rattle.l2_tree.specs.Spelling.{plain, run_unit}
use Rattle.l2_parse_unit.specs.Depths.{Shallow, ShallowAt, NestsBefore}

-- tokens as trees keep them
abbrev pub kept : List Token → List Seen
kept tokens = map (λ t. plain (record { kind = t.kind; at = t.place })) tokens

abbrev pub is_constant : TokenKind → Bool
is_constant (kind.Number v y) = true
is_constant k = false

abbrev pub constants_of : List Token → List Token
constants_of [] = []
constants_of (t ∷ tokens) = cond (is_constant t.kind) (t ∷ constants_of tokens) (constants_of tokens)

-- ---- which unit is spelt

-- the tokens of a text that isn't stopped are the run of this unit, none of them is too deep, and its constants and names are theirs
pub record Spells (r : Lexed) (u : UnitTree) : Type 0 where
  pub unstopped : r.stop ≡ None
  pub spelled : grammar.Spells (kept r.list) (run_unit u.externals)
  pub shallow : Shallow (kept r.list) []
  pub constants : u.constants ≡ constants_of r.list
  pub names : map (λ n. n.bytes) u.names ≡ r.names

-- the text spells this unit
abbrev pub SpellsText : List ℕ → UnitTree → Type 0
SpellsText text u = Spells (tokens_of text) u

-- ---- where reading stops

-- where the last of some tokens stands
abbrev pub last_place : Place → List Token → Place
last_place p [] = p
last_place p (t ∷ tokens) = last_place t.place tokens

abbrev pub start : Place
start = record { offset = 0; line = 1; col = 1 }

-- some unit begins with the tokens before this rest and none with one more, and none of the tokens up to there is too deep
abbrev pub Stops : List Token → List Token → Type 0
Stops all rest = StopsBefore (kept all) (kept rest) × Shallow (kept all) (kept rest) × ShallowAt (kept all) (kept rest)

-- reading stops at this place by this rule: at a token that is too deep, at one with which no unit goes on, or behind the last
-- token, where the lexical refusal stands, or the text ends too early
pub data IsRefused (r : Lexed) : Refusal → Type 0 where
  nested : (used : List Token) (t : Token) (more : List Token) → r.list ≡ used ++ t ∷ more →
      NestsBefore (kept r.list) (kept (t ∷ more)) → IsRefused r (record { place = t.place; rule = rule.Nesting })
  stopped : (used : List Token) (t : Token) (more : List Token) → r.list ≡ used ++ t ∷ more →
      Stops r.list (t ∷ more) → IsRefused r (record { place = t.place; rule = rule.Syntax })
  lexical : (f : Refusal) → r.stop ≡ Some f → Begins (kept r.list) → Shallow (kept r.list) [] → IsRefused r f
  ended : r.stop ≡ None → Stops r.list [] → IsRefused r (record { place = last_place start r.list; rule = rule.Syntax })

-- what a fault of a text says, but for want of memory
abbrev pub OnRefusal : TextFault → (Refusal → Type 0) → Type 0
OnRefusal (fault.At f) holds = holds f
OnRefusal fault.NoMemory holds = Unit {0}

abbrev pub IsTextRefused : List ℕ → Refusal → Type 0
IsTextRefused text f = IsRefused (tokens_of text) f

-- ---- what holds of it

-- tokens spell at most one unit
abbrev pub UniqueUnitLaw : Type 0
UniqueUnitLaw = (r : Lexed) (u v : UnitTree) → Spells r u → Spells r v → u ≡ v

-- what is refused spells no unit
abbrev pub RefusedLaw : Type 0
RefusedLaw = (r : Lexed) (f : Refusal) (u : UnitTree) → IsRefused r f → Spells r u → ⊥

-- no text is refused in two ways
abbrev pub UniqueRefusalLaw : Type 0
UniqueRefusalLaw = (r : Lexed) (f g : Refusal) → IsRefused r f → IsRefused r g → f ≡ g
