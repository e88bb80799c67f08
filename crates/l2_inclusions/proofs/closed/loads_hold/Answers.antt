use Rattle.std.proofs.Common.{arith}
use Rattle.std.proofs.lemmas.List.Elements.{All-more}
use Rattle.l2_inclusions.specs.Closing.{LoadHolds}
use Rattle.l2_inclusions.proofs.Holding.{all_taken}
use Rattle.l2_inclusions.proofs.closed.loads_hold.Goals as goal

pub loop-member-preserved : goal.loop-member-preserved
loop-member-preserved c = record {
  pairs = c.load_holds.ensures.pairs;
  holds = All-more (LoadHolds c.args.rows.now c.args.to) c.members-members.result.now c.loop-member.member-index _ (omega arith) c.loop-member.invariant.holds (c.load_holds.ensures.holds c.if-not-load_holds.false);
}

pub returns-clause-holds : goal.returns-clause-holds
returns-clause-holds c = λ e.
    all_taken (LoadHolds c.args.rows.now c.args.to) c.members-members.result.now _ c.loop-member.member-index c.loop-member.invariant.holds (omega arith) c.members-members.ensures
