-- Reading within limits: brackets and statements that are open at one place, and the tokens of a full expression.
use Rattle.std.specs.Prelude.{◌≡◌, ◌↔◌, ◌+◌, ◌++◌, ℕ, suc, pred, List, [], ◌∷◌, Bool, true, false, cond, ◌&&◌, ◌||◌, leb}
use Rattle.l2_syntax.specs.declared.token.Mark.TheVariants as mark
use Rattle.l2_syntax.specs.declared.token.TokenKind.{TokenKind}
use Rattle.l2_syntax.specs.declared.token.TokenKind.TheVariants as kind
use Rattle.l2_grammar.specs.States.{lone, Sort, unit, item, State, have, right, sizing, sized, paren, paren_close, typed_close, index, index_close, call, call_more, call_next, member_name, quest, quest_close, word, function_block}
use Rattle.l2_grammar.specs.Nesting.{stands}
use Rattle.l2_grammar.specs.Trees.{Seen, Tree, begin, token, child, sort, state}
use Rattle.l2_grammar.specs.Reader.{Next, Stop, To, step, Verdict, Stops, Reads, finish}
use Rattle.l2_grammar.specs.Law.{Spells, Begins, StopsBefore}

abbrev pub opens_bracket : TokenKind → Bool
opens_bracket (kind.Mark mark.OpenParenthesis) = true
opens_bracket (kind.Mark mark.OpenBracket) = true
opens_bracket (kind.Mark mark.OpenBrace) = true
opens_bracket k = false

abbrev pub closes_bracket : TokenKind → Bool
closes_bracket (kind.Mark mark.CloseParenthesis) = true
closes_bracket (kind.Mark mark.CloseBracket) = true
closes_bracket (kind.Mark mark.CloseBrace) = true
closes_bracket k = false

-- the brackets that are open behind a token
abbrev pub brackets : ℕ → TokenKind → ℕ
brackets n k = cond (opens_bracket k) (suc n) (cond (closes_bracket k) (pred n) n)

-- a statement, and the body of a function, add one to the depth of those in them
abbrev pub holds_statements : Sort → State → ℕ
holds_statements (item b) q = 1
holds_statements s function_block = 1
holds_statements s q = 0

abbrev pub statements : List Tree → ℕ
statements [] = 0
statements (p ∷ ks) = holds_statements (sort p) (state p) + statements ks

-- the construct has just begun and is a statement: it could stand where no declaration may
abbrev pub is_statement : Tree → Bool
is_statement (token (begin (item b)) t) = stands (item lone) (state (token (begin (item b)) t))
is_statement r = false

abbrev pub is_expression : State → Bool
is_expression (have l) = true
is_expression (right r) = true
is_expression sizing = true
is_expression sized = true
is_expression paren = true
is_expression paren_close = true
is_expression typed_close = true
is_expression index = true
is_expression index_close = true
is_expression call = true
is_expression call_more = true
is_expression call_next = true
is_expression member_name = true
is_expression quest = true
is_expression quest_close = true
is_expression word = true
is_expression q = false

-- the tokens of a construct
abbrev pub size : Tree → ℕ
size (begin s) = 0
size (token a t) = suc (size a)
size (child a b) = size a + size b

-- the tokens that the full expression has so far in which the innermost construct stands, or 0: an expression in another isn't full
abbrev pub expression_size : List Tree → ℕ
expression_size [] = 0
expression_size (p ∷ ks) = cond (leb 1 (expression_size ks)) (size p + expression_size ks) (cond (is_expression (state p)) (size p) 0)

abbrev pub most : ℕ
most = 128

abbrev pub longest : ℕ
longest = 1024

-- a statement starts too deep, or an expression gets too long
abbrev pub exceeds : Next → Bool
exceeds Stop = false
exceeds (To r ks) = (is_statement r && leb most (statements ks)) || leb (suc longest) (expression_size (r ∷ ks))

-- the token with which this comes next is too deep where so many brackets are open
abbrev pub nests : ℕ → TokenKind → Next → Bool
nests n k next = (opens_bracket k && leb most n) || exceeds next

pub data Rule : Type 0 where
  nesting : Rule
  syntax : Rule

pub data Reading : Type 0 where
  Read : Tree → Reading
  Refused : Rule → List Seen → Reading  -- with what is left from the token on

abbrev pub ended : Verdict → Reading
ended (Reads u) = Read u
ended (Stops ts) = Refused syntax ts

abbrev pub on_step : Next → (Tree → List Tree → Reading) → List Seen → Reading
on_step Stop f ts = Refused syntax ts
on_step (To r ks) f ts = f r ks

abbrev pub read_on : List Seen → ℕ → Tree → List Tree → Reading
read_on [] n r ks = ended (finish r ks)
read_on (t ∷ ts) n r ks = cond (nests n t.kind (step ks r t)) (Refused nesting (t ∷ ts)) (on_step (step ks r t) (read_on ts (brackets n t.kind)) (t ∷ ts))

-- what reading these tokens comes to
abbrev pub reading : List Seen → Reading
reading ts = read_on ts 0 (begin unit) []

-- whether a token behind these, read from here, is too deep
abbrev pub on_deep : Next → (Tree → List Tree → Bool) → Bool
on_deep Stop f = false
on_deep (To r ks) f = f r ks

abbrev pub deep_from : List Seen → Seen → ℕ → Tree → List Tree → Bool
deep_from [] t n r ks = nests n t.kind (step ks r t)
deep_from (x ∷ used) t n r ks = on_deep (step ks r x) (deep_from used t (brackets n x.kind))

abbrev pub TooDeep : List Seen → Seen → Type 0
TooDeep used t = deep_from used t 0 (begin unit) [] ≡ true

-- no token before this rest is too deep
abbrev pub Shallow : List Seen → List Seen → Type 0
Shallow ts rest = (used : List Seen) (t : Seen) (more : List Seen) → ts ≡ used ++ (t ∷ (more ++ rest)) → TooDeep used t → ⊥

-- the first token of this rest isn't, either
abbrev pub ShallowAt : List Seen → List Seen → Type 0
ShallowAt ts rest = (used : List Seen) (t : Seen) (more : List Seen) → ts ≡ used ++ (t ∷ more) → rest ≡ t ∷ more → TooDeep used t → ⊥

abbrev pub DeepAt : List Seen → List Seen → Type 0
DeepAt used [] = ⊥
DeepAt used (t ∷ more) = TooDeep used t

-- some unit begins with the tokens before this rest, and its first token is the first that is too deep
pub record NestsBefore (ts rest : List Seen) : Type 0 where
  pub used : List Seen
  pub parts : ts ≡ used ++ rest
  pub begins : Begins used
  pub deep : DeepAt used rest
  pub shallow : Shallow ts rest

-- a unit is read exactly where the tokens spell it and none of them is too deep
abbrev pub WithinLaw : Type 0
WithinLaw = (ts : List Seen) (u : Tree) → (reading ts ≡ Read u) ↔ (Spells ts u × Shallow ts [])

abbrev pub NestingLaw : Type 0
NestingLaw = (ts rest : List Seen) → reading ts ≡ Refused nesting rest → NestsBefore ts rest

abbrev pub SyntaxLaw : Type 0
SyntaxLaw = (ts rest : List Seen) → reading ts ≡ Refused syntax rest → StopsBefore ts rest × Shallow ts rest × ShallowAt ts rest
