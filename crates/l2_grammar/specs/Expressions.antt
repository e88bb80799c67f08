-- Reading one expression: which tokens spell one, where it ends, and where reading it is refused.
use Rattle.std.specs.Prelude.{◌≡◌, ◌≤◌, ◌↔◌, ◌++◌, ◌⊎◌, ℕ, List, [], ◌∷◌, Bool, true, false, cond, ◌&&◌, leb, length}
use Rattle.l2_grammar.specs.States.{Level, comma_level, assignment_level, conditional_level, Sort, operand, Outcome, value}
use Rattle.l2_grammar.specs.Nesting.{outcome, stands}
use Rattle.l2_grammar.specs.Trees.{Seen, Tree, begin, child, spell, sort, state, Fits}
use Rattle.l2_grammar.specs.Reader.{Next, Stop, To, step}
use Rattle.l2_grammar.specs.Limits.{Rule, nesting, syntax, opens_bracket, most, longest, brackets, nests}

-- the sort of the expressions of a level
abbrev pub sort_at : Level → Sort
sort_at comma_level = operand 1
sort_at assignment_level = operand 2
sort_at conditional_level = operand 3

-- the tree of a whole expression
pub record IsExpression (l : Level) (r : Tree) : Type 0 where
  pub fits : Fits r
  pub sorted : sort r ≡ sort_at l
  pub whole : outcome (state r) ≡ value

-- these tokens are the spelling of this expression
pub record SpellsExpression (l : Level) (ts : List Seen) (r : Tree) : Type 0 where
  pub whole : IsExpression l r
  pub spelled : spell r [] ≡ ts

-- some expression begins with these tokens
pub record BeginsExpression (l : Level) (ts : List Seen) : Type 0 where
  pub tree : Tree
  pub rest : List Seen
  pub spells : SpellsExpression l (ts ++ rest) tree

-- no expression goes on with the next token
abbrev pub NoneGoesOn : Level → List Seen → List Seen → Type 0
NoneGoesOn l used [] = Unit {0}
NoneGoesOn l used (t ∷ rest) = BeginsExpression l (used ++ (t ∷ [])) → ⊥

-- the brackets that are open behind these tokens, where so many are before them
abbrev pub brackets_behind : ℕ → List Seen → ℕ
brackets_behind n [] = n
brackets_behind n (t ∷ ts) = brackets_behind (brackets n t.kind) ts

-- the token opens a bracket where as many are open as may be
abbrev pub DeepBracket : ℕ → List Seen → Seen → Type 0
DeepBracket n used t = (opens_bracket t.kind && leb most (brackets_behind n used)) ≡ true

-- these tokens are no more than an expression may have, and open no bracket too deep
pub record Within (n : ℕ) (used : List Seen) : Type 0 where
  pub short : length used ≤ longest
  pub shallow : (before : List Seen) (t : Seen) (more : List Seen) → used ≡ before ++ (t ∷ more) → DeepBracket n before t → ⊥

-- the next token is too deep: such a bracket, or one more of the expression than it may have
abbrev pub NextDeep : Level → ℕ → List Seen → List Seen → Type 0
NextDeep l n used [] = ⊥
NextDeep l n used (t ∷ rest) = DeepBracket n used t ⊎ ((length used ≡ longest) × BeginsExpression l (used ++ (t ∷ [])))

-- the next token opens no bracket too deep
abbrev pub NextShallow : ℕ → List Seen → List Seen → Type 0
NextShallow n used [] = Unit {0}
NextShallow n used (t ∷ rest) = DeepBracket n used t → ⊥

-- the longest expression with which these tokens begin, within the limits, and no bracket too deep behind it
pub record EndsBefore (l : Level) (n : ℕ) (ts : List Seen) (r : Tree) (rest : List Seen) : Type 0 where
  pub used : List Seen
  pub parts : ts ≡ used ++ rest
  pub spells : SpellsExpression l used r
  pub further : NoneGoesOn l used rest
  pub within : Within n used
  pub next : NextShallow n used rest

-- some expression begins with the tokens before this rest, within the limits, and the next token is too deep
pub record NestsAt (l : Level) (n : ℕ) (ts rest : List Seen) : Type 0 where
  pub used : List Seen
  pub parts : ts ≡ used ++ rest
  pub begins : BeginsExpression l used
  pub deep : NextDeep l n used rest
  pub within : Within n used

-- some expression begins with the tokens before this rest, none with one more, and they are no whole expression
pub record BreaksAt (l : Level) (n : ℕ) (ts rest : List Seen) : Type 0 where
  pub used : List Seen
  pub parts : ts ≡ used ++ rest
  pub begins : BeginsExpression l used
  pub further : NoneGoesOn l used rest
  pub unfinished : (r : Tree) → SpellsExpression l used r → ⊥
  pub within : Within n used
  pub next : NextShallow n used rest

-- the outermost construct, once all in it have ended
abbrev pub close : List Tree → Tree → Next
close [] r = To r []
close (p ∷ ks) r = cond (stands (sort p) (state (child p r))) (close ks (child p r)) Stop

pub data Expressed : Type 0 where
  Whole : Tree → List Seen → Expressed  -- with what is left behind it
  Broken : Rule → List Seen → Expressed  -- with what is left from the token on

abbrev pub is_value : Outcome → Bool
is_value value = true
is_value o = false

abbrev pub closed : Next → List Seen → Expressed
closed Stop ts = Broken syntax ts
closed (To r ks) ts = cond (is_value (outcome (state r))) (Whole r ts) (Broken syntax ts)

abbrev pub on_further : Next → (Tree → List Tree → Expressed) → Expressed → Expressed
on_further Stop f e = e
on_further (To r ks) f e = f r ks

-- what reading an expression from here comes to: it ends where nothing goes on with the next token
abbrev pub express : List Seen → ℕ → Tree → List Tree → Expressed
express [] n r ks = closed (close ks r) []
express (t ∷ ts) n r ks = cond (nests n t.kind (step ks r t)) (Broken nesting (t ∷ ts)) (on_further (step ks r t) (express ts (brackets n t.kind)) (closed (close ks r) (t ∷ ts)))

-- what reading an expression of this level comes to, where so many brackets are open round it
abbrev pub expression : Level → ℕ → List Seen → Expressed
expression l n ts = express ts n (begin (sort_at l)) []

abbrev pub ExpressionLaw : Type 0
ExpressionLaw = (l : Level) (n : ℕ) (ts : List Seen) (r : Tree) (rest : List Seen) → (expression l n ts ≡ Whole r rest) ↔ EndsBefore l n ts r rest

abbrev pub ExpressionNestingLaw : Type 0
ExpressionNestingLaw = (l : Level) (n : ℕ) (ts rest : List Seen) → (expression l n ts ≡ Broken nesting rest) ↔ NestsAt l n ts rest

abbrev pub ExpressionSyntaxLaw : Type 0
ExpressionSyntaxLaw = (l : Level) (n : ℕ) (ts rest : List Seen) → (expression l n ts ≡ Broken syntax rest) ↔ BreaksAt l n ts rest
