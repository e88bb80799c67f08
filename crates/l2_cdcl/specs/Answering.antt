-- What an answer says.
use Rattle.std.specs.Prelude.{◌≡◌, ℕ, Bool, true, not, if◌then◌else◌, Option, None, Some, ℤ, nat_abs, List, [], ◌++◌, Contains}
use Rattle.l2_cnf.specs.Assignment.{value_of, MakesTrue, IsSatisfied}
use Rattle.l2_cnf.specs.Lit.{positive}
use Rattle.l2_cnf.specs.Logic.{Satisfies, Settles, literal_true}
use Rattle.l2_cdcl.specs.declared.answer.Answer.{Answer}
use Rattle.l2_cdcl.specs.declared.answer.Answer.TheVariants.{Sat, Unsat}

-- the values make each clause and each assumption true
pub record IsModel (values : List (Option Bool)) (clauses : List (List ℤ)) (assumptions : List ℤ) : Type 0 where
  pub clauses_met : IsSatisfied values clauses
  pub assumptions_met : (l : ℤ) → Contains assumptions l → MakesTrue values l

-- Some of the assumptions under which the clauses have no model, and which the clauses added and learnt settle.
pub record IsCore (core assumptions : List ℤ) (added learnt : List (List ℤ)) : Type 0 where
  pub part : (l : ℤ) → Contains core l → Contains assumptions l
  pub none : (v : ℕ → Bool) → Satisfies v added → ((l : ℤ) → Contains core l → literal_true v l ≡ true) → ⊥
  pub settled : Settles (added ++ learnt) core

-- Sat is a model, and comes only where the clauses added and learnt before didn't settle the assumptions. Unsat has a core.
abbrev pub IsAnswer : List ℤ → List (List ℤ) → List (List ℤ) → List (List ℤ) → Answer → Type 0
IsAnswer assumptions added old new (Sat values) = (IsModel values added assumptions) × (¬ Settles (added ++ old) assumptions)
IsAnswer assumptions added old new (Unsat core) = IsCore core assumptions added new

-- after Unsat without assumptions the empty clause was learnt
abbrev pub IsClosed : List ℤ → List (List ℤ) → Answer → Type 0
IsClosed assumptions learnt (Sat values) = Unit {0}
IsClosed assumptions learnt (Unsat core) = assumptions ≡ [] → Contains learnt []

-- the truth of a literal of this sign, by its variable's value
abbrev pub truth_by : Bool → Option Bool → Option Bool
truth_by sign None = None
truth_by sign (Some value) = Some (if sign then value else not value)

-- the truth of a literal, if its variable has a value
abbrev pub truth_of : List (Option Bool) → ℤ → Option Bool
truth_of values l = truth_by (positive l) (value_of values (nat_abs l))
