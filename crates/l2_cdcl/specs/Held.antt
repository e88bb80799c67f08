-- A solver as the clauses added, those learnt, and its log.
use Rattle.std.specs.Prelude.{◌≡◌, ℕ, Bool, true, false, ℤ, List, [], Option, None, Some, Contains}
use Rattle.l2_cnf.specs.Logic.{Satisfies}
use Rattle.l2_cnf.specs.Steps.{Step, EndsEmpty}
use Rattle.l2_cdcl.specs.Learning.{AreLearnt}
use Rattle.l2_cdcl.specs.Search.{Search}

-- the clauses added, those learnt in order, whether a log is kept, whether a question was asked, and the steps of the log
pub record Held : Type 0 where
  pub added : List (List ℤ)
  pub learnt : List (List ℤ)
  pub logged : Bool
  pub asked : Bool
  pub log : List Step

-- before the first clause there is no search
abbrev pub held_of : Bool → Bool → Option Search → List Step → Held
held_of logged asked None no_lines = record { added = []; learnt = []; logged = logged; asked = asked; log = no_lines }
held_of logged asked (Some s) no_lines = record { added = s.added; learnt = s.learnt; logged = logged; asked = asked; log = s.steps }

-- What is learnt is implied by what was added. Nothing is learnt before a question is asked, and nothing after the empty
-- clause. Where a log is kept, each clause could be learnt beside those added and those learnt before it.
pub record IsHeld (h : Held) : Type 0 where
  pub implied : (v : ℕ → Bool) → Satisfies v h.added → Satisfies v h.learnt
  pub fresh : h.asked ≡ false → h.learnt ≡ []
  pub ends : Contains h.learnt [] → EndsEmpty h.learnt
  pub all : h.logged ≡ true → AreLearnt h.added [] h.learnt

-- what a solver keeps
pub record IsSolver (logged asked : Bool) (engine : Option Search) (no_lines : List Step) : Type 0 where
  pub empty : no_lines ≡ []
  pub same : (s : Search) → engine ≡ Some s → s.logged ≡ logged
  pub held : IsHeld (held_of logged asked engine no_lines)
