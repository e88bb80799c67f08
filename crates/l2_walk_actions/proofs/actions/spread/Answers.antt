use Rattle.std.proofs.Common.{arith, ◌∙◌, ap, sym, ◌+◌, ◌∷◌, drop}
use Rattle.std.proofs.lemmas.List.{drop_all, drop_more}
use Rattle.l2_ssa.specs.Walks.{write_steps}
use Rattle.l2_walker.specs.Made.{state_of, written}
use Rattle.l2_walk_actions.proofs.Picking.{write_more}
use Rattle.l2_walk_actions.proofs.actions.spread.Goals as goal

pub loop-place-preserved : goal.loop-place-preserved
loop-place-preserved c =
    let i = c.loop-place.place-index in
    let ps = c.args.places.now in
    let dp = drop_more ps i c.place-item.result (omega arith) ∙ (λ j. sym c.place-item.is j ∷ drop (i + 1) ps) in
    write_more (state_of c.loop-place.walker) (state_of c.pick.new.self) (state_of c.set_cell.new.self) _ c.args.pointer c.args.ty c.args.value c.place-item.result (drop (i + 1) ps) (drop i ps)
    c.path-path.result c.in_ok-cell.cell c.cell-elsewhere.result c.object-object.result c.offset-offset.result c.loop-place.invariant dp c.object-object.ensures c.offset-offset.ensures c.cell-elsewhere.ensures
    c.in_ok-cell.ensures.name c.in_ok-cell.ensures.steps c.set_cell.ensures

pub returns : goal.returns
returns c =
    let s = state_of c.loop-place.walker in
    ap (λ ps. written s (write_steps c.args.pointer c.args.ty c.args.value ps s.names s.walk)) (sym (drop_all c.loop-place.place-index c.args.places.now (omega arith)))
    ∙ c.loop-place.invariant.0
