use Rattle.l2_growing.proofs.Lists.{some_more}
use Rattle.l2_growing.proofs.growing.Growing.add.Goals as goal

pub invariant_of-self : goal.invariant_of-self
invariant_of-self c = some_more c.self.inside.session.list _ c.extend.new.self.list c.self.invariant c.in_ok-check_list.ensures.same c.in_err-extend.ensures.err
