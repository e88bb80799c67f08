use Rattle.std.proofs.Common.{◌≡◌, ◌≤◌, length, take}
use Rattle.l2_watch.proofs.history.History.cut.Given as goal

abbrev pub invariant-loop-self : goal.invariant-loop-self
invariant-loop-self l = record {
  variables : l.self.variables ≡ l.initial.self.variables;
  longer : l.kept ≤ length l.self.literals;
  literals : take l.kept l.self.literals ≡ take l.kept l.initial.self.literals;
  reasons : take l.kept l.self.reasons ≡ take l.kept l.initial.self.reasons;
}

abbrev pub decreases-loop-self : goal.decreases-loop-self
decreases-loop-self l = length l.self.literals
