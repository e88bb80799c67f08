use Rattle.std.proofs.Common.{arith, ◌≡◌, ◌∙◌, ap, sym, ◌+◌, ◌∷◌, suc, drop}
use Rattle.std.proofs.lemmas.List.{drop_all, drop_more}
use Rattle.l2_ssa.specs.Walks.{scatter_cells}
use Rattle.l2_walker.specs.Made.{state_of, setting, moved}
use Rattle.l2_walk_turns.proofs.Rows.{cells_more}
use Rattle.l2_walk_turns.proofs.heads.scatter_cells.Goals as goal

pub loop-ty-preserved : goal.loop-ty-preserved
loop-ty-preserved c =
    let s = state_of c.loop-ty.walker in
    let i = c.loop-ty.ty-index in
    let ts = c.args.types.now in
    let f = c.loop-ty.offset in
    let p = c.args.path in
    let b = c.args.back in
    let o = c.args.object in
    let dt = drop_more ts i c.ty-item.result (omega arith) ∙ (λ j. sym c.ty-item.is j ∷ drop (i + 1) ts) in
    let k = c.in_ok-scatter_one.ensures in
    let one : f + 1 ≡ suc f = omega arith in
    (λ j. moved (k j) (scatter_cells (setting (k j)) p b o (one j) (drop (i + 1) ts) ((k j).names) ((k j).walk)))
    ∙ sym (cells_more s p b o f c.ty-item.result (drop (i + 1) ts))
    ∙ (λ j. moved s (scatter_cells (setting s) p b o f (sym dt j) s.names s.walk))
    ∙ c.loop-ty.invariant

pub returns : goal.returns
returns c =
    let s = state_of c.loop-ty.walker in
    ap (λ ts. moved s (scatter_cells (setting s) c.args.path c.args.back c.args.object c.loop-ty.offset ts s.names s.walk)) (sym (drop_all c.loop-ty.ty-index c.args.types.now (omega arith)))
    ∙ c.loop-ty.invariant
