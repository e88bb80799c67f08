use Rattle.std.proofs.Common.{◌∙◌, ap, set, true}
use Rattle.l2_cdcl.proofs.Stamps.{marked_set}
use Rattle.l2_cdcl.proofs.marks.Marks.mark.Goals as goal

pub returns : goal.returns
returns c = marked_set c.self.inside.stamps.items c.args.var c.self.inside.stamp ∙ ap (λ m. set m c.args.var true) c.self.view_is
