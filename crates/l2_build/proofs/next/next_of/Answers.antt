use Rattle.std.proofs.Common.{ap, sym, ◌∷◌, ◌+◌}
use Rattle.l2_build.specs.Parts.{parts_of, size_of}
use Rattle.l2_build.proofs.Nodes.{construct_part, construct_size}
use Rattle.l2_build.proofs.next.next_of.Goals as goal

pub returns-in-Construct-clause-parts : goal.returns-in-Construct-clause-parts
returns-in-Construct-clause-parts c = ap (λ x. x ∷ parts_of c.args.rest.now) (construct_part _ _ _ _ c.in-Construct.is c.deref.ensures.value)

pub returns-in-Construct-clause-size : goal.returns-in-Construct-clause-size
returns-in-Construct-clause-size c = ap (λ x. x + size_of c.args.rest.now) (construct_size _ _ _ _ c.in-Construct.is c.deref.ensures.value)
