use Rattle.std.proofs.Common.{◌∙◌, ap, ◌++◌, ◌∷◌, [], pos, negsuc}
use Rattle.std.specs.Prelude.{flat_map}
use Rattle.std.specs.Ordering.{int_cmp}
use Rattle.std.proofs.lemmas.List.Filters.{dedup_is}
use Rattle.l2_meaning.specs.Rising.{in_order}
use Rattle.l2_meaning.specs.Thresholds.{near}
use Rattle.l2_thresholds.proofs.Firsts.{pushed}
use Rattle.l2_thresholds.proofs.Sorting.{sorted_numbers}
use Rattle.l2_thresholds.proofs.bounds.thresholds.Goals as goal

pub returns : goal.returns
returns c =
    dedup_is _ _ _ c.dedup.ensures.filtered
    ∙ sorted_numbers _ _ c.sort_unstable.ensures.permutation c.sort_unstable.ensures.sorted
    ∙ ap (in_order int_cmp) (
    pushed c.in_ok-all.all.items (negsuc 0 ∷ pos 0 ∷ []) c.push-2.new.self.items c.push-3.new.self.items (pos 1)
    (pushed c.in_ok-all.all.items (negsuc 0 ∷ []) c.push.new.self.items c.push-2.new.self.items (pos 0) c.in_ok-push.ensures.items c.in_ok-push-2.ensures.items)
    c.in_ok-push-3.ensures.items
    ∙ ap (λ xs. xs ++ negsuc 0 ∷ pos 0 ∷ pos 1 ∷ []) (c.in_ok-all.ensures ∙ ap (flat_map near) (c.deref.ensures.value ∙ c.in_ok-constants.ensures)))
