use Rattle.std.proofs.Common.{◌≡◌, ◌-◌, length}
use Rattle.l2_cdcl.specs.Search.{IsReady}
use Rattle.l2_cdcl.specs.Searched.{IsSearched}
use Rattle.l2_cdcl.proofs.Searches.{left}
use Rattle.l2_cdcl.proofs.engine.Engine.search.Given as goal

abbrev pub invariant-turns : goal.invariant-turns
invariant-turns l = record {
  ready : IsReady l.assumptions l.self;
  added : l.self.added ≡ l.initial.self.added;
  logged : l.self.logged ≡ l.initial.self.logged;
  variables : l.self.board.variables ≡ l.initial.self.board.variables;
  searched : IsSearched l.assumptions l.initial.self l.self;
}

abbrev pub decreases-turns : goal.decreases-turns
decreases-turns l = left l.initial.self.board.variables (length l.self.learnt - length l.initial.self.learnt) (length l.self.board.past.literals) (length l.assumptions) (length l.self.board.levels)
