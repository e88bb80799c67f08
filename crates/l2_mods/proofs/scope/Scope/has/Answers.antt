use Rattle.std.proofs.Common.{◌∙◌, ap}
use Rattle.std.specs.Prelude.{nat_eq, not}
use Rattle.l2_meaning.specs.Changes.{is_one_of}
use Rattle.l2_mods.specs.Counts.{count_at}
use Rattle.l2_mods.proofs.Counting.{has_counted}
use Rattle.l2_mods.proofs.scope.Scope.has.Goals as goal

pub returns : goal.returns
returns c =
    ap (λ k. not (nat_eq k 0)) c.count_at.ensures
    ∙ ap (λ xs. not (nat_eq (count_at xs c.args.object) 0)) c.deref.ensures.value
    ∙ has_counted c.self.inside.objects.items c.self.inside.counts.items c.args.object c.self.invariant
    ∙ ap (λ ms. is_one_of ms c.args.object) c.self.view_is
