use Rattle.std.proofs.Common.{◌∙◌, ap}
use Rattle.std.proofs.lemmas.List.Filters.{dedup_is}
use Rattle.l2_meaning.specs.Rising.{rising}
use Rattle.l2_mods.proofs.Lists.{sorted_numbers}
use Rattle.l2_mods.proofs.numbers.rising.Goals as goal

pub returns : goal.returns
returns c = dedup_is _ _ _ c.dedup.ensures.filtered ∙ sorted_numbers _ _ c.sort_unstable.ensures.permutation c.sort_unstable.ensures.sorted ∙ ap rising (c.in_ok-all.ensures.items_if_clones_equal (λ x y e. e))
