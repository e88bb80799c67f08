use Rattle.std.proofs.Common.{◌≡◌, [], suc, ◌+◌, None, ◌∙◌, subst, arith}
use Rattle.l2_rank.specs.Greedy.{AreRanks, IsGreedy}
use Rattle.l2_rank.proofs.Searching.{ranked_all, stuck_at, ranked_at, of_none, of_some}
use Rattle.l2_rank.proofs.greedy.rankings.Goals as goal

pub returns-in-None-clause-is : goal.returns-in-None-clause-is
returns-in-None-clause-is g c =
    let n : c.loop-i.i + 1 ≡ suc c.loop-i.i = omega arith in
    let stuck = of_none c.in_ok-list_of.field-0 _ _ c.in_ok-list_of.ensures.is c.in-None.is in
    subst (λ x. AreRanks (g.T.Turns.moves x c.args.point.now) (g.T.Turns.stays x c.args.point.now) c.args.loops.now None) c.loop-i.invariant.0
    (stuck_at (g.T.Turns.moves (g.T.Turns.problem c.loop-i.engine) c.args.point.now) (g.T.Turns.stays (g.T.Turns.problem c.loop-i.engine) c.args.point.now) c.args.loops.now c.loop-i.i (c.loop-i.i + 1) c.index-loops-i.result c.as_slice.result.now
    c.loop-i-test.true c.index-loops-i.is n (c.as_slice.ensures.value ∙ c.in_ok-forms.ensures) stuck)

pub loop-i-preserved : goal.loop-i-preserved
loop-i-preserved g c =
    let n : c.loop-i.i + 1 ≡ suc c.loop-i.i = omega arith in
    let greedy = of_some c.in_ok-list_of.field-0 _ _ c.in-Some.list c.in_ok-list_of.ensures.is c.in-Some.is in (
      c.list_of.ensures.same ∙ c.loop-i.invariant.0,
      ranked_at (g.T.Turns.moves (g.T.Turns.problem c.args.engine.now) c.args.point.now) (g.T.Turns.stays (g.T.Turns.problem c.args.engine.now) c.args.point.now) c.args.loops.now c.loop-i.i (c.loop-i.i + 1) c.index-loops-i.result c.as_slice.result.now
          c.loop-i-test.true c.index-loops-i.is n (c.as_slice.ensures.value ∙ c.in_ok-forms.ensures) c.loop-i.ranks c.push.new.self c.in-Some.list.items
          (subst (λ x. IsGreedy (g.T.Turns.moves x c.args.point.now (c.loop-i.i + 1)) (g.T.Turns.stays x c.args.point.now (c.loop-i.i + 1)) c.as_slice.result.now [] c.in-Some.list.items) c.loop-i.invariant.0 greedy)
          c.in_ok-push-in-Some.ensures.ok c.loop-i.invariant.1,
    )

pub returns-clause-is : goal.returns-clause-is
returns-clause-is g c =
    ranked_all (g.T.Turns.moves (g.T.Turns.problem c.args.engine.now) c.args.point.now) (g.T.Turns.stays (g.T.Turns.problem c.args.engine.now) c.args.point.now) c.args.loops.now c.loop-i.i c.loop-i.ranks
    (omega (arith, c.loop-i-test.false, c.loop-i.auto.i-end)) c.loop-i.invariant.1
