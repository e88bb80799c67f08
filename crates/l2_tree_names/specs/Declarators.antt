-- The name that a declarator gives, and what stands nearest round it (C11 6.7.6).
use Rattle.std.specs.Prelude.{◌≡◌, Bool, true, false, cond, ◌&&◌, ◌||◌, ◌⊎◌, Option, None, Some, List, [], ◌∷◌, ◌++◌}
use Rattle.l2_syntax.specs.declared.place.Place.{Place}
use Rattle.l2_syntax.specs.declared.token.Mark.TheVariants as mark
use Rattle.l2_syntax.specs.declared.token.TokenKind.{TokenKind}
use Rattle.l2_syntax.specs.declared.token.TokenKind.TheVariants as kind
use Rattle.l2_grammar.specs.declared.states.Sort.{Sort}
use Rattle.l2_grammar.specs.Marks.{is}
use Rattle.l2_grammar.specs.Trees.{Seen, Tree, begin, token, child, spell}
use Rattle.l2_grammar.specs.Law.{Spells}
use Rattle.l2_tree.specs.declared.expression.Pointer.{Pointer}
use Rattle.l2_tree.specs.Trees.{DeclaratorTree, Declarator, CoreTree, Absent, Named, Group, SuffixTree, Parameters, SuffixTrees, no_suffixes, and_suffix, ParameterTrees, ExternalTree}
use Rattle.l2_tree.specs.Build.{some_or}
use Rattle.l2_tree.specs.Spelling.{run_declarator, run_unit}
use Rattle.l2_tree_names.specs.declared.declarators.DeclaredName.{DeclaredName}

-- ---- names

abbrev mutual
  pub name_of : DeclaratorTree → Option DeclaredName
  name_of (Declarator ps c xs) = core_name c

  pub core_name : CoreTree → Option DeclaredName
  core_name Absent = None
  core_name (Named n p) = Some (record { name = n; place = p })
  core_name (Group p d) = name_of d

-- the token that a name is
abbrev pub word : DeclaredName → Seen
word n = record { kind = kind.Word n.name; at = n.place }

abbrev pub as_name : TokenKind → Place → Option DeclaredName
as_name (kind.Word n) p = Some (record { name = n; place = p })
as_name k p = None

-- the word that stands behind every `*`, `* const` and `(` with which these tokens begin, if a word stands there; `starred` says
-- whether a `*` stands directly before them
abbrev pub first_word : (starred : Bool) → List Seen → Option DeclaredName
first_word starred [] = None
first_word starred (t ∷ ts) = cond (is mark.Star t.kind) (first_word true ts)
    (cond (is mark.OpenParenthesis t.kind || is mark.Const t.kind && starred) (first_word false ts) (as_name t.kind t.at))

-- ---- what stands round a name

-- a pointer before it, or a length or parameters behind it
pub data Round : Type 0 where
  before : Pointer → Round
  behind : SuffixTree → Round

abbrev pub first_suffix : SuffixTrees → Option SuffixTree
first_suffix no_suffixes = None
first_suffix (and_suffix xs x) = some_or (first_suffix xs) (λ y. Some y) (Some x)

abbrev pub last_pointer : List Pointer → Option Pointer
last_pointer [] = None
last_pointer (p ∷ ps) = some_or (last_pointer ps) (λ q. Some q) (Some p)

-- what is nearest to a name: what stands in the brackets round it, then what is behind it, then what is before it
abbrev pub round_of : Option Round → Option SuffixTree → Option Pointer → Option Round
round_of (Some r) x p = Some r
round_of None (Some x) p = Some (behind x)
round_of None None (Some p) = Some (before p)
round_of None None None = None

abbrev mutual
  pub nearest : DeclaratorTree → Option Round
  nearest (Declarator ps c xs) = round_of (core_nearest c) (first_suffix xs) (last_pointer ps)

  pub core_nearest : CoreTree → Option Round
  core_nearest (Group p d) = nearest d
  core_nearest c = None

abbrev pub parameters_in : Option Round → Option ParameterTrees
parameters_in (Some (behind (Parameters p ps))) = Some ps
parameters_in x = None

-- the parameters of the function that a declarator declares, if it declares one
abbrev pub parameters_of : DeclaratorTree → Option ParameterTrees
parameters_of d = parameters_in (nearest d)

-- ---- laws

-- a declarator's name is the word that stands behind every `*`, `* const` and `(` with which its tokens begin
abbrev pub NameLaw : Type 0
NameLaw = (s : Sort) (d : DeclaratorTree) → name_of d ≡ first_word false (spell (run_declarator s d) [])

-- a construct stands in another
abbrev pub StandsIn : Tree → Tree → Type 0
StandsIn b (begin s) = ⊥
StandsIn b (token a t) = StandsIn b a
StandsIn b (child a c) = StandsIn b a ⊎ ((b ≡ c) ⊎ StandsIn b c)

-- in a unit that tokens spell, a declarator's name is one of them
abbrev pub NameTokenLaw : Type 0
NameTokenLaw = (ts : List Seen) (xs : List ExternalTree) (s : Sort) (d : DeclaratorTree) (n : DeclaredName) → Spells ts (run_unit xs) → StandsIn (run_declarator s d) (run_unit xs) →
    name_of d ≡ Some n → (front : List Seen) × (rest : List Seen) × (ts ≡ front ++ (word n ∷ rest))
