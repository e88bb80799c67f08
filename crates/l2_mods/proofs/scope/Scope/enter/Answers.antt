use Rattle.std.proofs.Common.{◌+◌, subst, sym, ◌∙◌, arith}
use Rattle.std.specs.Prelude.{slice_set}
use Rattle.std.proofs.lemmas.List.{get_or_default}
use Rattle.l2_mods.specs.Counts.{AreCounted}
use Rattle.l2_mods.proofs.Counting.{few_times, counted_more}
use Rattle.l2_mods.proofs.scope.Scope.enter.Goals as goal

pub overflow_add-index_mut : goal.overflow_add-index_mut
overflow_add-index_mut c =
    let room = c.in_ok-grow.ensures.room in
    let now = c.index_mut.ensures.value ∙ get_or_default c.grow.new.counts.items c.args.object c.index_mut.result.now 0 room ∙ c.grow.ensures.same c.args.object ∙ c.self.invariant c.args.object in
    let few = few_times c.self.inside.objects.items c.args.object in
    let small = c.self.inside.objects.small in
    grind arith

pub invariant_of-self-2 : goal.invariant_of-self-2
invariant_of-self-2 c =
    let room = c.in_ok-grow.ensures.room in
    let now = c.index_mut.ensures.value ∙ get_or_default c.grow.new.counts.items c.args.object c.index_mut.result.now 0 room in
    subst (λ ms. AreCounted ms (slice_set c.grow.new.counts.items c.args.object (c.index_mut.result.now + 1))) (sym c.in_ok-push.ensures.items)
    (counted_more c.self.inside.objects.items c.grow.new.counts.items c.args.object (c.index_mut.result.now + 1) room (omega arith) (λ n. c.grow.ensures.same n ∙ c.self.invariant n))
