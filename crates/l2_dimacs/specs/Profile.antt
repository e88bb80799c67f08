-- This project's profile of DIMACS CNF: which tokens are a formula, and where a text is refused.
use Rattle.std.specs.Prelude.{◌≡◌, ⊤, ℕ, zero, suc, ◌<◌, ◌≤◌, ℤ, pos, negsuc, List, [], ◌∷◌, ◌++◌, length, codes}
use Rattle.std.specs.List.{All}
use Rattle.std.specs.Str.Parse.{AllDigits, digits_value}
use Rattle.l2_cnf.specs.Lit.{IsLiteral}
use Rattle.l2_dimacs.specs.Tokens.{Token, tokens, lines}

-- a word of 1 to 18 decimal digits spells this number
pub record IsNumber (word : List ℕ) (n : ℕ) : Type 0 where
  pub some : 0 < length word
  pub most : length word ≤ 18
  pub digits : AllDigits 10 word
  pub value : digits_value 10 word ≡ n

-- a word spells the end of a clause, `0`, or a literal of a variable up to `v`: digits, behind a `-` where it is negative
abbrev pub Spells : ℕ → ℤ → List ℕ → Type 0
Spells v (pos zero) word = word ≡ codes "0"
Spells v (pos (suc n)) word = (suc n ≤ v) × IsNumber word (suc n)
Spells v (negsuc n) word = (suc n ≤ v) × ((digits : List ℕ) × (word ≡ 45 ∷ digits) × IsNumber digits (suc n))

-- tokens spell literals and ends of clauses, one by one
abbrev pub AreSpelt : ℕ → List ℤ → List Token → Type 0
AreSpelt v [] [] = ⊤
AreSpelt v [] (t ∷ ts) = ⊥
AreSpelt v (z ∷ zs) [] = ⊥
AreSpelt v (z ∷ zs) (t ∷ ts) = Spells v z t.word × AreSpelt v zs ts

-- clauses in a row, each with a 0 behind it
abbrev pub flat : List (List ℤ) → List ℤ
flat [] = []
flat (clause ∷ clauses) = clause ++ pos 0 ∷ flat clauses

-- behind the last clause stands nothing, or `%` and anything
abbrev pub IsTail : List Token → Type 0
IsTail [] = ⊤
IsTail (t ∷ ts) = t.word ≡ codes "%"

-- no literal of these clauses is 0
abbrev pub AreClauses : List (List ℤ) → Type 0
AreClauses clauses = All (All IsLiteral) clauses

-- tokens spell so many clauses over variables up to `v`
pub record IsBody (v count : ℕ) (ts : List Token) (clauses : List (List ℤ)) : Type 0 where
  pub front : List Token
  pub tail : List Token
  pub parts : ts ≡ front ++ tail
  pub spelt : AreSpelt v (flat clauses) front
  pub ends : IsTail tail
  pub literals : AreClauses clauses
  pub all : length clauses ≡ count

abbrev pub most_variables : ℕ
most_variables = 10000000

-- on this line the number of clauses, and then these
abbrev pub HasCount : ℕ → ℕ → List Token → List (List ℤ) → Type 0
HasCount line v [] clauses = ⊥
HasCount line v (t ∷ ts) clauses = (count : ℕ) × (t.line ≡ line) × IsNumber t.word count × IsBody v count ts clauses

-- on this line the greatest variable, and then the number of clauses
abbrev pub HasVariables : ℕ → List Token → ℕ → List (List ℤ) → Type 0
HasVariables line [] v clauses = ⊥
HasVariables line (t ∷ ts) v clauses = (t.line ≡ line) × IsNumber t.word v × (v ≤ most_variables) × HasCount line v ts clauses

abbrev pub HasCnf : ℕ → List Token → ℕ → List (List ℤ) → Type 0
HasCnf line [] v clauses = ⊥
HasCnf line (t ∷ ts) v clauses = (t.line ≡ line) × (t.word ≡ codes "cnf") × HasVariables line ts v clauses

-- these tokens are the formula of these clauses over variables up to `v`: `p`, `cnf`, the greatest variable and the number
-- of clauses on one line, and then the clauses
abbrev pub IsFormula : List Token → ℕ → List (List ℤ) → Type 0
IsFormula [] v clauses = ⊥
IsFormula (t ∷ ts) v clauses = (t.word ≡ codes "p") × HasCnf t.line ts v clauses

-- the text is a formula
abbrev pub IsFile : List ℕ → ℕ → List (List ℤ) → Type 0
IsFile text v clauses = IsFormula (tokens text) v clauses

-- some formula begins with these tokens
abbrev pub Begins : List Token → Type 0
Begins before = (more : List Token) × (v : ℕ) × (clauses : List (List ℤ)) × IsFormula (before ++ more) v clauses

-- The text is in no formula from this line on: there stands the first token with which no formula goes on behind the tokens
-- before it, or there the text ends too early.
pub data IsRefused (text : List ℕ) (line : ℕ) : Type 0 where
  at_token : (before : List Token) (t : Token) (behind : List Token) → tokens text ≡ before ++ t ∷ behind → Begins before → ¬ Begins (before ++ t ∷ []) → line ≡ t.line →
      IsRefused text line
  at_end : Begins (tokens text) → ((v : ℕ) (clauses : List (List ℤ)) → ¬ IsFile text v clauses) → line ≡ length (lines text) → IsRefused text line
