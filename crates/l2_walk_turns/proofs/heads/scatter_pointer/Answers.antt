use Rattle.std.proofs.Common.{◌∙◌}
use Rattle.l2_code.specs.declared.action.Operand.TheVariants.{Temp}
use Rattle.l2_runs.specs.declared.cells.CellType.TheVariants.{Pointer}
use Rattle.l2_code.specs.Sets.{family}
use Rattle.l2_ssa.specs.Steps.{Half, Point, Among, Merge, But}
use Rattle.l2_ssa.specs.Walks.{with_cell, with_path}
use Rattle.l2_walker.specs.Made.{emitted, standing}
use Rattle.l2_walk_turns.proofs.heads.scatter_pointer.Goals as goal

pub returns : goal.returns
returns c =
    let p = c.args.path in
    let b = c.args.back in
    let o = c.args.object in
    let f = c.args.offset in
    let k1 = c.in_ok-selector.ensures.steps in
    let a1 = c.in_ok-selector.ensures.name in
    let k2 = c.in_ok-place.ensures.steps ∙ (λ i. emitted (k1 i) (Half p)) in
    let a2 = c.in_ok-place.ensures.name ∙ (λ i. Temp ((k1 i).names)) in
    let k3 = c.in_ok-pointer.ensures.steps ∙ (λ i. emitted (k2 i) (Point p (a1 i) (a2 i))) in
    let a3 = c.in_ok-pointer.ensures.name ∙ (λ i. Temp ((k2 i).names)) in
    let k4 = c.in_ok-cell.ensures.steps ∙ (λ i. emitted (k3 i) (Merge p b Pointer (a3 i) (c.cell-own.ensures i))) in
    let a4 = c.in_ok-cell.ensures.name ∙ (λ i. Temp ((k3 i).names)) in
    let k5 = c.in_ok-among.ensures.steps ∙ (λ i. emitted (k4 i) (Among p (a1 i) (a2 i) ((family ((k4 i).sets)).object o))) in
    let a5 = c.in_ok-among.ensures.name ∙ (λ i. Temp ((k4 i).names)) in
    let k6 = c.in_ok-bad.ensures.steps ∙ (λ i. emitted (k5 i) (But b (a5 i))) in
    let a6 = c.in_ok-bad.ensures.name ∙ (λ i. Temp ((k5 i).names)) in
    let k7 = c.in_ok-on.ensures.steps ∙ (λ i. emitted (k6 i) (But (c.path-here.ensures i) (a6 i))) in
    let a7 = c.in_ok-on.ensures.name ∙ (λ i. Temp ((k6 i).names)) in
    let k8 = c.set_cell.ensures ∙ (λ i. standing (k7 i) (with_cell ((k7 i).walk) o f (a4 i))) in
    c.set_path.ensures ∙ (λ i. standing (k8 i) (with_path ((k8 i).walk) (a7 i)))
