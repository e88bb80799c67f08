use Rattle.l2_inclusions.proofs.Walks.{passes_more}
use Rattle.l2_inclusions.proofs.settle.Numbers.take.Goals as goal

pub returns-in_ok-push : goal.returns-in_ok-push
returns-in_ok-push c = λ q h all. passes_more q c.args.self.now.list.items c.push.new.self.items c.args.number c.in_ok-push.ensures.items all h
