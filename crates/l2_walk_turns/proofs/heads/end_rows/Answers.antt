use Rattle.std.proofs.Common.{arith, ◌≡◌, ◌∙◌, ap, sym}
use Rattle.l2_ssa.specs.Walks.{end_rows}
use Rattle.l2_walker.specs.Made.{state_of, setting, put}
use Rattle.l2_walk_turns.proofs.heads.end_rows.Goals as goal

pub returns : goal.returns
returns c =
    let s = state_of c.loop-left.walker in
    let none : c.loop-left.left ≡ 0 = omega (arith, c.loop-left-test.false) in
    ap (λ n. put s (end_rows (setting s) c.args.path c.args.counting c.args.l c.loop-left.row n s.names s.walk)) (sym none)
    ∙ c.loop-left.invariant
