use Rattle.std.proofs.Common.{arith}
use Rattle.l2_inclusions.proofs.Walks.{pass_at}
use Rattle.l2_inclusions.proofs.reach.reach.Goals as goal

pub loop-i-preserved : goal.loop-i-preserved
loop-i-preserved c = λ w leads start.
    let all = c.loop-i.invariant w leads start in
    c.in_ok-spread.ensures w leads (pass_at w c.loop-i.list.items c.loop-i.i _ all (omega arith) c.index-node.ensures) all
