use Rattle.std.proofs.Common.{ap, sym, subst, ℕ, Vec, Global}
use Rattle.l2_inclusions.specs.Edges.{EachPasses}
use Rattle.l2_inclusions.proofs.settle.Numbers.take_all.Goals as goal

pub returns : goal.returns
returns c = λ w q leads moves zero all.
    subst (EachPasses q) (sym (ap (λ (v : Vec ℕ Global). v.items) c.replace.ensures.value)) (c.loop-node.invariant w q leads moves zero all)
