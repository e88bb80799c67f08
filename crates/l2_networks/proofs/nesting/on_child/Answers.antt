use Rattle.std.proofs.Common.{◌∙◌, ap, sym}
use Rattle.l2_grammar.specs.declared.states.State.TheVariants.{Declared as declared}
use Rattle.l2_grammar.specs.Nesting.{on_child, behind_declarator, defines}
use Rattle.l2_networks.proofs.OfStates.{typed_child}
use Rattle.l2_networks.proofs.nesting.on_child.Goals as goal

pub returns-in-Typed : goal.returns-in-Typed
returns-in-Typed c =
    c.behind_declarator.ensures
    ∙ ap (λ n. behind_declarator n (λ h. declared c.in-Typed.storage h (defines c.in-Typed.storage h)) c.args.outcome) c.naming.ensures
    ∙ typed_child c.args.sort c.in-Typed.storage c.in-Typed.field-1 c.args.outcome
    ∙ ap (λ q. on_child c.args.sort q c.args.outcome) (sym c.in-Typed.is)
