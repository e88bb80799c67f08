use Rattle.std.proofs.Common.{◌∙◌}
use Rattle.l2_cdcl.proofs.Analyses.{first_point}
use Rattle.l2_cdcl.proofs.Chains.{chain_point}
use Rattle.l2_cdcl.proofs.analysis.analyse.Goals as goal

pub returns-then-is_point-clause-point : goal.returns-then-is_point-clause-point
returns-then-is_point-clause-point c = first_point c.args.watch.now.clauses c.args.watch.now.past.literals c.args.at.low c.args.at.start c.loop-at.traced.place c.loop-at.marks c.loop-at.aside.items c.if-is_point.ensures c.loop-at.invariant.traced

pub returns-then-is_point-clause-chain : goal.returns-then-is_point-clause-chain
returns-then-is_point-clause-chain c = λ kept. chain_point c.args.watch.now.clauses c.args.watch.now.past.literals c.args.at.low c.args.at.start c.loop-at.traced.place c.loop-at.marks c.loop-at.aside.items c.loop-at.hints.numbers c.if-is_point.ensures (c.loop-at.invariant.chain (c.loop-at.invariant.kept ∙ c.begin.ensures.kept ∙ kept))
