use Rattle.std.proofs.Common.{◌+◌, ◌*◌, sym, ap, ◌∙◌}
use Rattle.l2_code.specs.Trees.{code_of, tree_of, items_of}
use Rattle.l2_code.specs.Sets.{family}
use Rattle.l2_code.specs.Sizes.{node_size, nodes_size, head_weight, end_weight}
use Rattle.l2_code.proofs.Items.{tree_of-Loop}
use Rattle.l2_size.specs.Capped.{capped}
use Rattle.l2_size.proofs.Saturation.{loop_is}
use Rattle.l2_size.proofs.sizes.+sizes.Goals as goal

pub node_size-returns-in_ok-turn-in-Loop-clause-is : goal.node_size-returns-in_ok-turn-in-Loop-clause-is
node_size-returns-in_ok-turn-in-Loop-clause-is t c =
    let s = c.args.s.now in
    let code = code_of s.code in
    let f = family s.sets in
    let l = c.in-Loop.l in
    let same = c.nodes_size-in-Loop.ensures.same in
    let turn = c.in_ok-turn-in-Loop.turn in
    loop_is (head_weight code l) (nodes_size code f s.copies s.rows (items_of c.in-Loop.items.items)) (end_weight s.rows l) s.copies
    c.head_weight-head.result turn c.saturating_add.result c.saturating_mul.result c.saturating_add-in-Loop.result
    (c.head_weight-head.ensures ∙ ap (λ x. capped (head_weight (code_of x.code) l)) same)
    (c.in_ok-turn-in-Loop.ensures.is ∙ ap (λ xs. capped (nodes_size code f s.copies s.rows (items_of xs))) c.deref-in-Loop.ensures.value)
    (c.saturating_add.ensures ∙ ap (λ n. capped (turn + n)) (c.end_weight-end.ensures ∙ ap (λ x. end_weight x.rows l) same))
    (c.saturating_mul.ensures ∙ ap (λ n. capped (c.saturating_add.result * n)) (c.copies.ensures ∙ ap (λ x. x.copies) same))
    c.saturating_add-in-Loop.ensures
    ∙ ap (λ x. capped (node_size code f s.copies s.rows x)) (sym (ap tree_of c.in-Loop.is ∙ tree_of-Loop l c.in-Loop.items))
