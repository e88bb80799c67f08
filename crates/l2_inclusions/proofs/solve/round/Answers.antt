use Rattle.std.proofs.Common.{arith}
use Rattle.l2_inclusions.proofs.Forced.{Round, round_forced}
use Rattle.l2_inclusions.proofs.solve.round.Goals as goal

pub returns : goal.returns
returns c =
    let p : Round c.args.inclusions.now c.args.rows.now c.extend.new.self c.settle.new.rows c.shrink.new.self c.in_ok-graph.graph = record {
      due = c.in_ok-graph.ensures;
      sets = c.in_ok-extend.ensures.sets;
      same = c.in_ok-extend.ensures.same;
      goes = c.in_ok-settle.ensures;
      left = c.shrink.ensures.sets;
      kept = λ n l. c.shrink.ensures.same n (omega (arith, c.nodes-nodes.ensures.value));
      none = λ n l. c.shrink.ensures.none n (omega (arith, c.nodes-nodes.ensures.value));
    } in
    round_forced p
