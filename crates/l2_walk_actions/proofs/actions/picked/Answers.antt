use Rattle.std.proofs.Common.{arith, ◌∙◌, ap, sym, ◌+◌, ◌∷◌, drop}
use Rattle.std.proofs.lemmas.List.{drop_all, drop_more}
use Rattle.l2_ssa.specs.Walks.{read_steps}
use Rattle.l2_walker.specs.Made.{state_of, extended}
use Rattle.l2_walk_actions.proofs.Picking.{read_more}
use Rattle.l2_walk_actions.proofs.actions.picked.Goals as goal

pub loop-place-preserved : goal.loop-place-preserved
loop-place-preserved c =
    let i = c.loop-place.place-index in
    let ps = c.args.places.now in
    let dp = drop_more ps i c.place-item.result (omega arith) ∙ (λ j. sym c.place-item.is j ∷ drop (i + 1) ps) in
    read_more (state_of c.args.walker.now).walk (state_of c.loop-place.walker) (state_of c.pick.new.self) _ _ c.args.pointer c.args.ty c.place-item.result (drop (i + 1) ps) (drop i ps) c.loop-place.value c.in_ok-value.value
    c.path-path.result c.cell-there.result c.object-object.result c.offset-offset.result c.loop-place.invariant dp c.object-object.ensures c.offset-offset.ensures c.cell-there.ensures c.in_ok-value.ensures.name c.in_ok-value.ensures.steps

pub returns-clause-steps : goal.returns-clause-steps
returns-clause-steps c =
    let s = state_of c.loop-place.walker in
    ap (λ ps. extended s (read_steps (state_of c.args.walker.now).walk c.args.pointer c.args.ty ps c.loop-place.value s.names).steps) (sym (drop_all c.loop-place.place-index c.args.places.now (omega arith)))
    ∙ c.loop-place.invariant.1
