use Rattle.l2_cdcl.proofs.Analyses.{start_within}
use Rattle.l2_cdcl.proofs.Targets.{target_some, false_there}
use Rattle.l2_cdcl.proofs.target.aim.Goals as goal

pub last_fallen-last-requires-clause-false_ones : goal.last_fallen-last-requires-clause-false_ones
last_fallen-last-requires-clause-false_ones c = λ m h. false_there c.args.watch.now.past.literals c.args.start m (start_within c.args.watch.now c.facts.ensures 0 c.args.start c.requires.level) (c.requires.below m h)

pub returns : goal.returns
returns c = target_some c.args.watch.now c.args.start c.args.aside.now c.args.u c.last_fallen-last.result.literal c.last_fallen-last.result.place c.level_of.result c.facts.ensures c.requires.level c.requires.below c.last_fallen-last.ensures c.level_of.ensures.most c.level_of.ensures.above c.level_of.ensures.below
