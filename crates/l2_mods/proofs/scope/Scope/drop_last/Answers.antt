use Rattle.std.proofs.Common.{subst, ◌∙◌, arith}
use Rattle.std.proofs.lemmas.List.{get_or_default}
use Rattle.l2_mods.specs.Counts.{AreCounted}
use Rattle.l2_mods.proofs.Counting.{last_counted, has_room, counted_less}
use Rattle.l2_mods.proofs.scope.Scope.drop_last.Goals as goal

pub index_mut-requires : goal.index_mut-requires
index_mut-requires c =
    let last = last_counted c.self.inside.objects.items c.pop.new.self.items c.self.inside.counts.items c.in-Some.object c.in-Some.ensures.items c.self.invariant in
    let room = has_room c.self.inside.counts.items c.in-Some.object last in
    omega (arith, c.self.inside.counts.ok)

pub overflow_sub-index_mut : goal.overflow_sub-index_mut
overflow_sub-index_mut c =
    let last = last_counted c.self.inside.objects.items c.pop.new.self.items c.self.inside.counts.items c.in-Some.object c.in-Some.ensures.items c.self.invariant in
    let room = has_room c.self.inside.counts.items c.in-Some.object last in
    let now = c.index_mut.ensures.value ∙ get_or_default c.self.inside.counts.items c.in-Some.object c.index_mut.result.now 0 room in
    omega arith

pub invariant_of-self : goal.invariant_of-self
invariant_of-self c =
    let last = last_counted c.self.inside.objects.items c.pop.new.self.items c.self.inside.counts.items c.in-Some.object c.in-Some.ensures.items c.self.invariant in
    let room = has_room c.self.inside.counts.items c.in-Some.object last in
    let now = c.index_mut.ensures.value ∙ get_or_default c.self.inside.counts.items c.in-Some.object c.index_mut.result.now 0 room in
    counted_less c.pop.new.self.items c.self.inside.counts.items c.in-Some.object _ room (omega arith) (subst (λ ms. AreCounted ms c.self.inside.counts.items) c.in-Some.ensures.items c.self.invariant)
