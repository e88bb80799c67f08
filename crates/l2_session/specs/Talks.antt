-- A session as its clauses, what was learnt of them, and how many questions were asked.
use Rattle.std.specs.Prelude.{◌≡◌, ◌⊎◌, ⊤, ℕ, ◌+◌, ◌-◌, ◌^◌, ℤ, min, List, [], ◌∷◌, ◌++◌}
use Rattle.l2_cdcl.specs.declared.answer.Answer.{Answer}
use Rattle.l2_cdcl.specs.declared.answer.Answer.TheVariants.{Sat, Unsat}

-- the clauses that were handed over and those learnt, in order, and the number of questions, as far as 64 bits count it
pub record Talk : Type 0 where
  pub list : List (List ℤ)
  pub learnt : List (List ℤ)
  pub asked : ℕ

-- one question more
abbrev pub one_more : ℕ → ℕ
one_more asked = min (asked + 1) (2 ^ 64 - 1)

abbrev pub IsUnsat : Answer → Type 0
IsUnsat (Sat values) = ⊥
IsUnsat (Unsat core) = ⊤

-- A question that is settled is answered so: there is no model, and nothing but at most an empty clause is learnt by it.
pub record IsKnown (old new : List (List ℤ)) (answer : Answer) : Type 0 where
  pub unsat : IsUnsat answer
  pub learnt : (new ≡ old) ⊎ (new ≡ old ++ [] ∷ [])
