use Rattle.std.proofs.Common.{Bool}
use Rattle.l2_runs.specs.declared.member.Member.{Member}
use Rattle.l2_inclusions.specs.Rows.{Grows, AreNumbers, AllBring}
use Rattle.l2_inclusions.proofs.unions.halved.Given as goal

abbrev pub invariant-loop-i : goal.invariant-loop-i
invariant-loop-i l = record {
  grows : Grows l.initial.rows l.rows;
  numbers : AreNumbers l.rows l.half.items;
  brings : (m : Member) (b : Bool) → AllBring l.initial.rows l.list m b → AllBring l.rows l.half.items m b;
}
