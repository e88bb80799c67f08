use Rattle.std.proofs.Common.{arith, ◌∙◌, ap, sym, ◌++◌, ◌+◌, ◌-◌, suc, zero}
use Rattle.std.proofs.lemmas.List.{append_assoc}
use Rattle.l2_ssa.specs.Walks.{candidates}
use Rattle.l2_walker.specs.Made.{state_of, setting}
use Rattle.l2_walker.proofs.Looking.{candidates_more}
use Rattle.l2_walker.proofs.walker.Walker.candidates.Goals as goal

pub loop-left-preserved : goal.loop-left-preserved
loop-left-preserved c =
    let g = setting (state_of c.args.self.now) in
    let set = g.family.temp c.args.temp in
    let o = c.loop-left.object in
    let n = c.loop-left.left in
    ap (λ t. t ++ candidates g set c.args.ty (o + 1) (n - 1)) c.in_ok-push_object.ensures
    ∙ append_assoc c.loop-left.list.items (candidates g set c.args.ty o (suc zero)) (candidates g set c.args.ty (o + 1) (n - 1))
    ∙ ap (λ t. c.loop-left.list.items ++ t) (sym (candidates_more g set c.args.ty o n (omega (arith, c.loop-left-test.true))))
    ∙ c.loop-left.invariant
