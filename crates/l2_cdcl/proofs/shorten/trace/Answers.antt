use Rattle.std.proofs.Common.{◌<◌, ◌∙◌, length, reverse, arith, sym, subst}
use Rattle.std.specs.Prelude.{pos, neg_ℤ, Contains}
use Rattle.std.proofs.lemmas.List.{get_or_default}
use Rattle.l2_cdcl.proofs.Analyses.{start_within}
use Rattle.l2_cdcl.proofs.Shortenings.{more_point, more_chain}
use Rattle.l2_cdcl.proofs.shorten.trace.Goals as goal

pub redundant_places-requires-clause-false_ones : goal.redundant_places-requires-clause-false_ones
redundant_places-requires-clause-false_ones c = λ m h.
    let b = c.args.watch.now in
    let trail = b.past.literals in
    let (j, low, e) = c.in_ok-point.ensures.put.below m (subst (λ x. Contains x m) c.as_slice.ensures h) in
    let within : j < length trail = omega (arith, low, start_within b c.facts.ensures c.args.at.low c.args.at.start c.requires.level) in
    (j, within, get_or_default trail j (neg_ℤ m) (pos 0) within ∙ e)

pub shorten-requires-clause-point : goal.shorten-requires-clause-point
shorten-requires-clause-point c =
    let b = c.args.watch.now in
    more_point b.clauses b.past.literals c.args.at.low c.args.at.start c.in_ok-point.point c.take_all_in.new.marks c.analyse.new.aside.items c.take_all_in.new.aside.items c.in_ok-point.ensures.point c.in_ok-take_all_in.ensures.more.put c.in_ok-take_all_in.ensures.put c.in_ok-take_all_in.ensures.known

pub shorten-requires-clause-chain : goal.shorten-requires-clause-chain
shorten-requires-clause-chain c = λ kept.
    let b = c.args.watch.now in
    more_chain b.clauses b.past.literals c.args.at.low c.in_ok-point.point c.analyse.new.aside.items c.take_all_in.new.aside.items (reverse c.analyse.new.hints.numbers) c.in_ok-take_all_in.ensures.more.put (c.in_ok-point.ensures.chain (sym c.in_ok-point.ensures.kept ∙ kept))
