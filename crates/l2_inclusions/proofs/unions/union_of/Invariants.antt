use Rattle.std.proofs.Common.{Bool}
use Rattle.l2_runs.specs.declared.member.Member.{Member}
use Rattle.l2_inclusions.specs.Rows.{Grows, AreNumbers, AllBring}
use Rattle.l2_inclusions.proofs.unions.union_of.Given as goal

abbrev pub invariant-loop : goal.invariant-loop
invariant-loop l = record {
  grows : Grows l.initial.rows l.rows;
  numbers : AreNumbers l.rows l.list.items;
  brings : (m : Member) (b : Bool) → AllBring l.initial.rows l.initial.list.items m b → AllBring l.rows l.list.items m b;
}
