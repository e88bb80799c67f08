use Rattle.std.proofs.Common.{arith, ◌∙◌, ap, sym, ◌+◌, drop}
use Rattle.std.specs.Prelude.{slice_index_or}
use Rattle.std.proofs.lemmas.List.{drop_all, drop_more}
use Rattle.l2_ssa.specs.Walks.{scatter, scatter_cells}
use Rattle.l2_walker.specs.Made.{state_of, setting, moved}
use Rattle.l2_walk_turns.proofs.Rows.{scatter_more}
use Rattle.l2_walk_turns.proofs.heads.scatter.Goals as goal

pub loop-object-preserved : goal.loop-object-preserved
loop-object-preserved c =
    let s = state_of c.loop-object.walker in
    let i = c.loop-object.object-index in
    let os = c.args.mods.now in
    let p = c.args.path in
    let b = c.args.back in
    let o = slice_index_or os i 0 in
    let dm = drop_more os i 0 (omega arith) in
    let k = c.in_ok-scatter_cells.ensures ∙ (λ j. moved s (scatter_cells (setting s) p b o 0 (c.types-types.ensures j) s.names s.walk)) in
    (λ j. moved (k j) (scatter (setting (k j)) p b (drop (i + 1) os) ((k j).names) ((k j).walk)))
    ∙ sym (scatter_more s p b o (drop (i + 1) os))
    ∙ (λ j. moved s (scatter (setting s) p b (sym dm j) s.names s.walk))
    ∙ c.loop-object.invariant

pub returns : goal.returns
returns c =
    let s = state_of c.loop-object.walker in
    ap (λ os. moved s (scatter (setting s) c.args.path c.args.back os s.names s.walk)) (sym (drop_all c.loop-object.object-index c.args.mods.now (omega arith)))
    ∙ c.loop-object.invariant
