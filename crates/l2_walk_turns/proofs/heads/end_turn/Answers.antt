use Rattle.std.proofs.Common.{◌≡◌, ◌∙◌, sym, subst, Some}
use Rattle.std.specs.Result.{OnOk}
use Rattle.l2_ssa.specs.Walks.{nothing, end_rows, end_rank, end_turn}
use Rattle.l2_ssa.specs.Views.{kind_of}
use Rattle.l2_walker.specs.Made.{state_of, setting, put}
use Rattle.l2_walker.proofs.States.{put_joined}
use Rattle.l2_walk_turns.proofs.heads.end_turn.Goals as goal

pub returns-in_ok-end_rows-in-Rows : goal.returns-in_ok-end_rows-in-Rows
returns-in_ok-end_rows-in-Rows c =
    let s = state_of c.args.walker.now in
    let k = c.in_ok-end_rows-in-Rows.ensures ∙ (λ i. put s (end_rows (setting s) (c.path-path.ensures i) c.args.counting c.args.l 1 c.in-Rows.rows s.names s.walk)) in
    let o = end_rows (setting s) s.walk.path c.args.counting c.args.l 1 c.in-Rows.rows s.names s.walk in
    let s1 = put s o in
    subst (λ t. OnOk c.end_rank.result (state_of c.end_rank.new.walker ≡ t))
    ((λ i. put (k i) (end_rank (setting (k i)) ((k i).ranks) (c.path-path.ensures i) c.args.counting c.args.l c.args.old.now ((k i).names) ((k i).walk)))
    ∙ sym (put_joined s nothing o (end_rank (setting s) s.ranks s.walk.path c.args.counting c.args.l c.args.old.now s1.names s1.walk))
    ∙ (λ i. put s (end_turn (setting s) (kind_of (Some (sym c.in-Rows.is i))) c.args.counting c.args.l c.args.old.now s.names s.walk)))
    c.end_rank.ensures
