use Rattle.std.proofs.Common.{sym}
use Rattle.l2_cnf.proofs.Cuts.{get_or-cut}
use Rattle.l2_cnf.proofs.runs.part.Goals as goal

pub returns : goal.returns
returns g c = rw (c.bounds-start.ensures.start, c.bounds-start.ensures.end) (sym (get_or-cut 0 c.args.ends.now c.args.all.now c.args.i c.requires.within))
