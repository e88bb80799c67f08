use Rattle.l2_cdcl.proofs.Engines.{IsEngine-none}
use Rattle.l2_cdcl.proofs.engine.Engine.new.Goals as goal

pub invariant_of-result : goal.invariant_of-result
invariant_of-result c = IsEngine-none c.new-2.result.items c.in_ok-new.field-0 c.in_ok-new-2.field-0 c.new-6.result c.new-2.ensures.items c.in_ok-new.ensures.clauses c.in_ok-new.ensures.ready c.new-6.ensures.steps
