use Rattle.std.proofs.Common.{arith, ◌∙◌, ap, sym, ◌++◌, ◌+◌, ◌-◌, suc, zero}
use Rattle.std.proofs.lemmas.List.{append_assoc}
use Rattle.l2_code.specs.Sets.{may_be}
use Rattle.l2_ssa.specs.Walks.{flags_of}
use Rattle.l2_ssa.specs.Views as views
use Rattle.l2_walker.specs.Made.{state_of, setting}
use Rattle.l2_walker.proofs.Looking.{flags_more}
use Rattle.l2_walker.proofs.walker.Walker.flags.Goals as goal

pub loop-left-preserved : goal.loop-left-preserved
loop-left-preserved c =
    let set = may_be (setting (state_of c.args.self.now)).family c.args.pointer in
    let slots = (state_of c.args.self.now).walk.slots in
    let o = c.loop-left.object in
    let n = c.loop-left.left in
    ap (λ t. t ++ flags_of set slots (o + 1) (n - 1)) c.in_ok-push_flag.ensures
    ∙ append_assoc (views.flags_of c.loop-left.list.items) (flags_of set slots o (suc zero)) (flags_of set slots (o + 1) (n - 1))
    ∙ ap (λ t. views.flags_of c.loop-left.list.items ++ t) (sym (flags_more set slots o n (omega (arith, c.loop-left-test.true))))
    ∙ c.loop-left.invariant
