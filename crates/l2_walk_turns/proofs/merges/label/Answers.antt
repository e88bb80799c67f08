use Rattle.std.proofs.Common.{◌∙◌, ap, sym}
use Rattle.l2_walk_turns.specs.Labels.{landed}
use Rattle.l2_walker.specs.Made.{state_of}
use Rattle.l2_walk_turns.proofs.Landing.{nothing_left}
use Rattle.l2_walk_turns.proofs.merges.label.Goals as goal

pub returns : goal.returns
returns c =
    let none = nothing_left c.loop-entry.entry-iterator.rest.items (sym c.in-None.ensures.steps.0 ∙ c.loop-entry.entry-iterator.rest.ok.0) in
    ap (λ es. landed (state_of c.loop-entry.walker) es) (sym none) ∙ c.loop-entry.invariant
