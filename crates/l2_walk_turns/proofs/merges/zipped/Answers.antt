use Rattle.std.proofs.Common.{arith, ◌∙◌, sym, ap, ◌++◌}
use Rattle.std.proofs.lemmas.List.{drop_all}
use Rattle.l2_walk_turns.specs.Labels.{zipped}
use Rattle.l2_walk_turns.proofs.Merging.{none_zipped}
use Rattle.l2_walk_turns.proofs.merges.zipped.Goals as goal

pub loop-list-preserved : goal.loop-list-preserved
loop-list-preserved c =
    let e = drop_all c.loop-list.index c.args.flags.now (omega (arith, c.if-index-flags.false)) in
    ap (λ fs. c.loop-list.slots.items ++ zipped c.next.new.self.rest.items fs) e
    ∙ ap (λ t. c.loop-list.slots.items ++ t) (none_zipped c.next.new.self.rest.items ∙ sym (none_zipped c.loop-list.list-iterator.rest.items))
    ∙ ap (λ fs. c.loop-list.slots.items ++ zipped c.loop-list.list-iterator.rest.items fs) (sym e)
    ∙ c.loop-list.invariant
