use Rattle.std.proofs.Common.{subst}
use Rattle.l2_cdcl.specs.Searched.{IsSearch}
use Rattle.l2_cdcl.proofs.Learnings.{all_inside, inside_all}
use Rattle.l2_cdcl.proofs.engine.Engine.facts.Goals as goal

pub returns : goal.returns
returns c = subst IsSearch c.self.view_is (record {
  inside = λ clause h. all_inside c.self.inside.learnt_at.items c.self.inside.watch.clauses clause c.self.invariant.within h;
  all = λ clause h. inside_all c.self.inside.learnt_at.items c.self.inside.watch.clauses clause h;
  implied = c.self.invariant.implied;
  kept = c.facts.ensures;
  log = λ t. (c.self.invariant.logged t).log;
})
