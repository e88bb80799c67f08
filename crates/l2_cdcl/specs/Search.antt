-- What a search holds and what its turns do.
use Rattle.std.specs.Prelude.{◌≡◌, ◌⊎◌, ℕ, ◌+◌, ◌<◌, ◌≤◌, Bool, true, ℤ, pos, List, [], ◌∷◌, ◌++◌, length, take, Contains, slice_index_or}
use Rattle.l2_cnf.specs.Logic.{Satisfies, Settles, Follows, IsAbsorbed}
use Rattle.l2_cnf.specs.Trail.{AreOver}
use Rattle.l2_cnf.specs.Steps.{Step}
use Rattle.l2_watch.specs.Board.{Board, decision_of}
use Rattle.l2_watch.specs.Watch.{IsClosed}
use Rattle.l2_cdcl.specs.Learning.{learnt_of, added_of}
use Rattle.l2_order.specs.Choice.{HasFree}
use Rattle.l2_cdcl.specs.Level.{IsRootConflict}
use Rattle.l2_cdcl.specs.Log.{Logged, IsKeptLog}
use Rattle.l2_cdcl.specs.declared.engine.Turn.{Turn}
use Rattle.l2_cdcl.specs.declared.engine.Turn.TheVariants.{Learnt, Decided, Whole, Closed, Refuted}

-- the clauses added, those learnt in order, the board with both, for how many variables, 0 among them, there are marks, and
-- the steps of the log, if one is kept
pub record Search : Type 0 where
  pub added : List (List ℤ)
  pub learnt : List (List ℤ)
  pub board : Board
  pub marked : ℕ
  pub logged : Bool
  pub steps : List Step

-- what a search keeps
pub record IsEngine (at : List ℕ) (board : Board) (marks : List Bool) (refuted : Bool) (log : Logged) : Type 0 where
  pub within : (i : ℕ) → Contains at i → i < length board.clauses
  pub parts : length (added_of at board.clauses) + length at ≡ length board.clauses
  pub implied : (v : ℕ → Bool) → Satisfies v (added_of at board.clauses) → Satisfies v board.clauses
  pub found : refuted ≡ true → Contains (learnt_of at board.clauses) []
  pub told : Contains (learnt_of at board.clauses) [] → refuted ≡ true
  pub room : board.ready ≡ true → board.variables < length marks
  pub logged : log.kept ≡ true → IsKeptLog (added_of at board.clauses) (learnt_of at board.clauses) board.clauses log.steps

-- each level below the number of the assumptions was opened by an assumption
abbrev pub AreAssumed : List ℤ → List (ℕ × ℤ) → Type 0
AreAssumed assumptions levels = (j : ℕ) → j < length levels → j < length assumptions → decision_of levels j ≡ slice_index_or assumptions j (pos 0)

-- a turn may be taken
pub record IsReady (assumptions : List ℤ) (s : Search) : Type 0 where
  pub ready : s.board.ready ≡ true
  pub over : AreOver s.board.variables assumptions
  pub assumed : AreAssumed assumptions s.board.levels

-- the trail grew, or an assumption that was true opened a level
abbrev pub IsForward : List ℤ → Board → Board → Type 0
IsForward assumptions old new = (length old.past.literals < length new.past.literals)
    ⊎ ((length old.past.literals ≤ length new.past.literals) × (length old.levels < length assumptions) × (length new.levels ≡ length old.levels + 1))

-- all variables have a value, all assumptions are true, and propagation is complete
pub record IsWhole (assumptions : List ℤ) (b : Board) : Type 0 where
  pub closed : IsClosed b.clauses b.past.literals
  pub met : (l : ℤ) → Contains assumptions l → Contains b.past.literals l
  pub none : ¬ HasFree b.past.literals b.variables

-- what a turn did
abbrev pub IsTurn : List ℤ → Search → Search → Turn → Type 0
IsTurn assumptions old new Learnt = (clause : List ℤ) × (new.learnt ≡ old.learnt ++ clause ∷ []) × (Follows old.board.clauses clause) × (¬ IsAbsorbed old.board.clauses clause) × (AreOver old.board.variables clause) × (¬ Settles old.board.clauses assumptions)
IsTurn assumptions old new Decided = (new.learnt ≡ old.learnt) × IsForward assumptions old.board new.board
IsTurn assumptions old new Whole = (new.learnt ≡ old.learnt) × IsWhole assumptions new.board
IsTurn assumptions old new (Closed r) = (new.learnt ≡ old.learnt) × IsRootConflict new.board r
IsTurn assumptions old new (Refuted n) = (new.learnt ≡ old.learnt) × (1 ≤ n) × (n ≤ length assumptions) × Settles new.board.clauses (take n assumptions)
