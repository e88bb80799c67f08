use Rattle.l2_cdcl.proofs.Stamps.{none_marked}
use Rattle.l2_cdcl.proofs.marks.Marks.clear.Goals as goal

pub returns-clause-none : goal.returns-clause-none
returns-clause-none c = none_marked c.next_stamp-self-inside.new.stamps.items c.next_stamp-self-inside.result c.next_stamp-self-inside.ensures.above
