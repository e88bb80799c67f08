use Rattle.std.proofs.Common.{arith}
use Rattle.l2_inclusions.proofs.Having.{has_item}
use Rattle.l2_inclusions.proofs.build.push_stores.Goals as goal

pub push_store-requires-clause-member : goal.push_store-requires-clause-member
push_store-requires-clause-member c = has_item _ c.members-members.result.now c.loop-member.member-index _ c.members-members.ensures (omega arith)

pub loop-member-preserved : goal.loop-member-preserved
loop-member-preserved c = λ all due. c.in_ok-push_store.ensures all (c.loop-member.invariant all due)
