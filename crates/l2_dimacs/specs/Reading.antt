-- A text that is being read: what is left, and which tokens may still come.
use Rattle.std.specs.Prelude.{◌≡◌, ℕ, suc, ◌+◌, ◌≤◌, ◌<◌, ◌^◌, ℤ, codes, List, [], ◌∷◌, ◌++◌, length, ◌↔◌}
use Rattle.std.specs.List.{All}
use Rattle.l2_cnf.specs.Lit.{IsLiteral}
use Rattle.l2_dimacs.specs.declared.cursor.Tokens.{Tokens}
use Rattle.l2_dimacs.specs.declared.number.Item.{Item}
use Rattle.l2_dimacs.specs.declared.number.Item.TheVariants as item
use Rattle.l2_dimacs.specs.declared.reading.Reading.{Reading}
use Rattle.l2_dimacs.specs.declared.reading.Stage.{Stage}
use Rattle.l2_dimacs.specs.declared.reading.Stage.TheVariants.{Format, Name, Variables, Count, Clauses, Over}
use Rattle.l2_dimacs.specs.Tokens.{Token, line_words, lines, tokens_from}
use Rattle.l2_dimacs.specs.Profile.{AreClauses, AreSpelt, HasCnf, HasCount, HasVariables, IsFormula, IsNumber, IsTail, flat}

-- the tokens that aren't read yet
abbrev pub left : Tokens → List Token
left t = line_words t.line t.here.now ++ tokens_from (suc t.line) (lines t.rest.now)

-- a word is the end of a clause, or spells this literal of a variable up to `v`
abbrev pub IsItem : ℕ → List ℕ → Item → Type 0
IsItem v word item.End = word ≡ codes "0"
IsItem v word (item.Positive n) = (1 ≤ n) × (n ≤ v) × (n < 10 ^ 18) × IsNumber word n
IsItem v word (item.Negative n) = (1 ≤ n) × (n ≤ v) × (n < 10 ^ 18) × ((digits : List ℕ) × (word ≡ 45 ∷ digits) × IsNumber digits n)

-- behind these numbers of the clauses, tokens spell the rest of them
pub record IsRest (v : ℕ) (before : List ℤ) (count : ℕ) (ts : List Token) (clauses : List (List ℤ)) : Type 0 where
  pub numbers : List ℤ
  pub front : List Token
  pub tail : List Token
  pub parts : ts ≡ front ++ tail
  pub whole : flat clauses ≡ before ++ numbers
  pub spelt : AreSpelt v numbers front
  pub ends : IsTail tail
  pub literals : AreClauses clauses
  pub all : length clauses ≡ count

-- the numbers of the clauses that were read
abbrev pub numbers_of : Reading → List ℤ
numbers_of r = flat r.clauses ++ r.part.items

-- what was read and then these tokens are a formula
abbrev pub CompletesAt : Stage → Reading → List Token → ℕ → List (List ℤ) → Type 0
CompletesAt Format r ts v clauses = IsFormula ts v clauses
CompletesAt Name r ts v clauses = HasCnf r.line ts v clauses
CompletesAt Variables r ts v clauses = HasVariables r.line ts v clauses
CompletesAt Count r ts v clauses = (v ≡ r.variables) × HasCount r.line r.variables ts clauses
CompletesAt Clauses r ts v clauses = (v ≡ r.variables) × IsRest r.variables (numbers_of r) (length r.clauses + r.to_come) ts clauses
CompletesAt Over r ts v clauses = (v ≡ r.variables) × (clauses ≡ r.clauses)

abbrev pub Completes : Reading → List Token → ℕ → List (List ℤ) → Type 0
Completes r ts v clauses = CompletesAt r.stage r ts v clauses

-- by a token from one reading to another: the same tokens complete them
abbrev pub Goes : Reading → Token → Reading → Type 0
Goes r t s = (rest : List Token) (v : ℕ) (clauses : List (List ℤ)) → Completes r (t ∷ rest) v clauses ↔ Completes s rest v clauses

-- no formula goes on with this token
abbrev pub Stops : Reading → Token → Type 0
Stops r t = (rest : List Token) (v : ℕ) (clauses : List (List ℤ)) → ¬ Completes r (t ∷ rest) v clauses

-- what was read is in order
abbrev pub KeptAt : Stage → Reading → Type 0
KeptAt Format r = (r.clauses ≡ []) × (r.part.items ≡ [])
KeptAt Name r = (r.clauses ≡ []) × (r.part.items ≡ [])
KeptAt Variables r = (r.clauses ≡ []) × (r.part.items ≡ [])
KeptAt Count r = (r.clauses ≡ []) × (r.part.items ≡ [])
KeptAt Clauses r = AreClauses r.clauses × All IsLiteral r.part.items × (r.to_come ≡ 0 → r.part.items ≡ [])
KeptAt Over r = AreClauses r.clauses

abbrev pub Kept : Reading → Type 0
Kept r = KeptAt r.stage r
