use Rattle.std.proofs.Common.{◌≡◌, ◌∙◌, ap, sym, subst, true}
use Rattle.l2_grammar.specs.declared.states.Sort.TheVariants.{Operand as operand}
use Rattle.l2_grammar.specs.Nesting.{opens, stands}
use Rattle.l2_networks.proofs.OfStates.{right_wants, opens_right}
use Rattle.l2_networks.proofs.nesting.opens.Goals as goal

pub returns-in-Right : goal.returns-in-Right
returns-in-Right c =
    ap operand (c.wanted_by.ensures.low (right_wants c.args.sort c.in-Right.right (subst (λ q. stands c.args.sort q ≡ true) c.in-Right.is c.requires.standing)))
    ∙ opens_right c.args.sort c.in-Right.right
    ∙ ap (λ q. opens c.args.sort q) (sym c.in-Right.is)
