use Rattle.std.proofs.Common.{◌≡◌, ◌++◌, take}
use Rattle.l2_cdcl.proofs.engine.Engine.add_list.Given as goal

abbrev pub invariant-loop-i : goal.invariant-loop-i
invariant-loop-i l = record {
  added : l.self.added ≡ l.initial.self.added ++ take l.i l.list;
  learnt : l.self.learnt ≡ l.initial.self.learnt;
  logged : l.self.logged ≡ l.initial.self.logged;
}
