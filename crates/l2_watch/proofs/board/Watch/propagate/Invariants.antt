use Rattle.std.proofs.Common.{◌≡◌, ◌-◌, true}
use Rattle.l2_watch.specs.Past.{IsGrown}
use Rattle.l2_watch.proofs.board.Watch.propagate.Given as goal

abbrev pub invariant-loop-self : goal.invariant-loop-self
invariant-loop-self l = record {
  clauses : l.self.clauses ≡ l.initial.self.clauses;
  variables : l.self.variables ≡ l.initial.self.variables;
  levels : l.self.levels ≡ l.initial.self.levels;
  ready : l.self.ready ≡ true;
  grown : IsGrown l.initial.self.clauses l.initial.self.past l.self.past;
}

abbrev pub decreases-loop-self : goal.decreases-loop-self
decreases-loop-self l = l.self.variables - l.self.seen
