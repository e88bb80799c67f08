use Rattle.std.proofs.Common.{◌∙◌, ap, set, false, arith}
use Rattle.l2_cdcl.proofs.Stamps.{unmarked_set}
use Rattle.l2_cdcl.proofs.marks.Marks.unmark.Goals as goal

pub returns : goal.returns
returns c = unmarked_set c.self.inside.stamps.items c.args.var c.self.inside.stamp (omega arith) ∙ ap (λ m. set m c.args.var false) c.self.view_is
