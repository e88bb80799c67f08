-- What a search found.
use Rattle.std.specs.Prelude.{◌≡◌, ◌≢◌, ℕ, ◌+◌, ◌*◌, ◌≤◌, Bool, true, eqb, ℤ, List, [], ◌++◌, length, take, map, Contains}
use Rattle.std.specs.List.{IsDistinct}
use Rattle.l2_cnf.specs.Logic.{Satisfies, Settles}
use Rattle.l2_cnf.specs.Trail.{AreOver}
use Rattle.l2_watch.specs.Board.{IsBoard}
use Rattle.l2_cdcl.specs.Learning.{AreLearnt}
use Rattle.l2_cdcl.specs.Numbers.{number_of}
use Rattle.l2_cdcl.specs.Level.{IsRootConflict}
use Rattle.l2_cdcl.specs.Log.{IsLog}
use Rattle.l2_cdcl.specs.Search.{Search, IsWhole}
use Rattle.l2_cdcl.specs.declared.engine.Verdict.{Verdict}
use Rattle.l2_cdcl.specs.declared.engine.Verdict.TheVariants.{Whole, Closed, Refuted}

-- what holds of every search
pub record IsSearch (s : Search) : Type 0 where
  pub inside : (clause : List ℤ) → Contains (s.added ++ s.learnt) clause → Contains s.board.clauses clause
  pub all : (clause : List ℤ) → Contains s.board.clauses clause → Contains (s.added ++ s.learnt) clause
  pub implied : (v : ℕ → Bool) → Satisfies v s.added → Satisfies v s.board.clauses
  pub kept : IsBoard s.board
  pub log : s.logged ≡ true → IsLog s.added s.learnt s.steps

-- A search from one state to another: what was learnt in it, of which nothing is absorbed, and nothing where the assumptions
-- were settled before.
pub record IsSearched (assumptions : List ℤ) (old new : Search) : Type 0 where
  pub more : List (List ℤ)
  pub learnt : new.learnt ≡ old.learnt ++ more
  pub all : AreLearnt old.added old.learnt more
  pub settled : Settles (old.added ++ old.learnt) assumptions → more ≡ []
  pub some : (clause : List ℤ) → Contains more clause → clause ≢ []
  pub distinct : IsDistinct eqb (map (number_of (2 * old.board.variables + 2)) more)
  pub over : (clause : List ℤ) → Contains more clause → AreOver old.board.variables clause

abbrev pub IsVerdict : List ℤ → Search → Verdict → Type 0
IsVerdict assumptions s Whole = IsWhole assumptions s.board
IsVerdict assumptions s (Closed r) = IsRootConflict s.board r
IsVerdict assumptions s (Refuted n) = (1 ≤ n) × (n ≤ length assumptions) × Settles s.board.clauses (take n assumptions)
