use Rattle.std.proofs.Common.{◌<◌, ◌-◌, pos, true, length, sym, ap, ◌∙◌, subst, arith}
use Rattle.std.specs.Prelude.{slice_index_or, slice_set}
use Rattle.l2_strategy.specs.Asking.{IsAskable}
use Rattle.l2_strategy.specs.Places.{Spot}
use Rattle.l2_strategy.proofs.Raising.{Stepped, failed_at, reach_step, raise_step, spot_same, can, can_ask, steps_there}
use Rattle.l2_strategy.proofs.Steps.{step_counted, steps_counted, steps_left, none_asked}
use Rattle.l2_strategy.proofs.search.raise.Goals as goal
use Rattle.l2_strategy.proofs.search.raise.Given as given

-- the loop leaves Bottom
reach : (g : given.Over) (c : goal.After-places-1 g) → Stepped (g.A.Asks.infers (g.A.Asks.problem c.args.engine.now)) c.args.bounds.now c.args.places.now.items (slice_set c.args.places.now.items (c.args.broken.at - 1) c.reach.new.self) 1
reach g c =
    let old : Spot = c.index_mut.result.now in
    let here = failed_at c.args.bounds.now c.args.places.now.items old (g.A.Asks.exceeds (g.A.Asks.problem c.args.engine.now) c.args.point.now) c.args.point.now c.args.broken.at c.args.broken.row c.requires.point c.requires.failed in
    let same = spot_same c.args.places.now.items (c.args.broken.at - 1) old c.index.result.now here.0 c.index_mut.ensures.value c.index.ensures in
    reach_step c.args.bounds.now c.requires.rises (g.A.Asks.infers (g.A.Asks.problem c.args.engine.now)) (g.A.Asks.exceeds (g.A.Asks.problem c.args.engine.now))
    (g.met.A.Asks.lower_law (g.A.Asks.problem c.args.engine.now)) (g.met.A.Asks.below_law (g.A.Asks.problem c.args.engine.now))
    c.args.places.now.items c.requires.searching old c.reach.new.self c.args.point.now c.args.broken.at c.args.broken.row c.requires.point c.requires.failed
    (c.reach.ensures ∙ ap (λ (s : Spot). record s { reached = true }) c.index_mut.ensures.value)
    (sym (ap (λ (s : Spot). s.reached) c.index_mut.ensures.value) ∙ ap (λ (s : Spot). s.reached) same ∙ sym c.if-not-is_reached.ensures)

pub returns-then-not-is_reached-clause-searching : goal.returns-then-not-is_reached-clause-searching
returns-then-not-is_reached-clause-searching g c = (reach g c).searching

pub returns-then-not-is_reached-clause-forms : goal.returns-then-not-is_reached-clause-forms
returns-then-not-is_reached-clause-forms g c = (reach g c).forms

pub returns-then-not-is_reached-clause-left : goal.returns-then-not-is_reached-clause-left
returns-then-not-is_reached-clause-left g c = let k = (reach g c).left in omega (arith, k)

-- a row is raised
lift : (g : given.Over) (c : goal.After-places-2-1 g) → Stepped (g.A.Asks.infers (g.A.Asks.problem c.args.engine.now)) c.args.bounds.now c.args.places.now.items (slice_set c.args.places.now.items (c.args.broken.at - 1) c.raise.new.self) (c.in_ok-to.to - c.index-from.result)
lift g c =
    let old : Spot = c.index_mut-2.result.now in
    let here = failed_at c.args.bounds.now c.args.places.now.items old (g.A.Asks.exceeds (g.A.Asks.problem c.args.engine.now) c.args.point.now) c.args.point.now c.args.broken.at c.args.broken.row c.requires.point c.requires.failed in
    let same = spot_same c.args.places.now.items (c.args.broken.at - 1) old c.index.result.now here.0 c.index_mut-2.ensures.value c.index.ensures in
    let again = spot_same c.args.places.now.items (c.args.broken.at - 1) old c.index-2.result.now here.0 c.index_mut-2.ensures.value c.index-2.ensures in
    let index = ap (λ (s : Spot). slice_index_or s.indexes (c.args.broken.row - 1) 0) (sym c.index_mut-2.ensures.value ∙ again) ∙ sym c.index-from.ensures in
    subst (λ n. Stepped (g.A.Asks.infers (g.A.Asks.problem c.args.engine.now)) c.args.bounds.now c.args.places.now.items (slice_set c.args.places.now.items (c.args.broken.at - 1) c.raise.new.self) (c.in_ok-to.to - n)) index
    (raise_step c.args.bounds.now c.requires.rises (g.A.Asks.infers (g.A.Asks.problem c.args.engine.now)) (g.A.Asks.exceeds (g.A.Asks.problem c.args.engine.now))
    (g.met.A.Asks.lower_law (g.A.Asks.problem c.args.engine.now)) (g.met.A.Asks.below_law (g.A.Asks.problem c.args.engine.now))
    c.args.places.now.items c.requires.searching old c.raise.new.self c.args.point.now c.args.broken.at c.args.broken.row c.in_ok-to.to c.requires.point c.requires.failed
    (sym (ap (λ (s : Spot). s.reached) c.index_mut-2.ensures.value) ∙ ap (λ (s : Spot). s.reached) same ∙ sym c.if-not-is_reached.ensures)
    (omega (arith, index, c.in_ok-to.ensures.later)) c.in_ok-to.ensures.within c.in_ok-to.ensures.exceeded
    (c.raise.ensures ∙ ap (λ (s : Spot). record s { indexes = slice_set s.indexes (c.args.broken.row - 1) c.in_ok-to.to }) c.index_mut-2.ensures.value))

pub returns-then-not-is_reached-clause-counted : goal.returns-then-not-is_reached-clause-counted
returns-then-not-is_reached-clause-counted g c = λ b h. step_counted (g.A.Asks.asked c.args.engine.now) _ _ b (reach g c).left

pub returns-then-not-is_reached-clause-asked : goal.returns-then-not-is_reached-clause-asked
returns-then-not-is_reached-clause-asked g c = λ b h. let k = (reach g c).left in steps_left (g.A.Asks.asked c.args.engine.now) _ 1 _ b (none_asked _ 1 b (omega arith)) (omega (arith, k))

pub returns-clause-counted : goal.returns-clause-counted
returns-clause-counted g c = λ b h. steps_counted (g.A.Asks.asked c.args.engine.now) _ (c.in_ok-to.to - c.index-from.result) _ _ b (c.in_ok-to.ensures.counted b h) (lift g c).left

pub returns-clause-asked : goal.returns-clause-asked
returns-clause-asked g c = λ b h. steps_left (g.A.Asks.asked c.args.engine.now) _ (length c.args.bounds.now - c.index-from.result) _ b (c.in_ok-to.ensures.asked b h)
    (steps_there c.args.bounds.now (g.A.Asks.exceeds (g.A.Asks.problem c.args.engine.now) c.args.point.now) c.args.places.now.items c.args.point.now c.args.broken.at c.args.broken.row c.index.result.now c.index-2.result.now
    c.requires.point c.requires.failed c.index.ensures c.index-2.ensures c.if-not-is_reached.ensures c.index-from.result c.index-from.ensures)

pub returns-in_err-to-clause-asked : goal.returns-in_err-to-clause-asked
returns-in_err-to-clause-asked g c = λ b h. steps_left (g.A.Asks.asked c.args.engine.now) _ (length c.args.bounds.now - c.index-from.result) _ b (c.in_err-to.ensures.asked b h)
    (steps_there c.args.bounds.now (g.A.Asks.exceeds (g.A.Asks.problem c.args.engine.now) c.args.point.now) c.args.places.now.items c.args.point.now c.args.broken.at c.args.broken.row c.index.result.now c.index-2.result.now
    c.requires.point c.requires.failed c.index.ensures c.index-2.ensures c.if-not-is_reached.ensures c.index-from.result c.index-from.ensures)

pub rise-requires-clause-askable : goal.rise-requires-clause-askable
rise-requires-clause-askable g c =
    let k = can_ask c.args.bounds.now (g.A.Asks.exceeds (g.A.Asks.problem c.args.engine.now) c.args.point.now) c.args.places.now.items c.args.point.now c.args.broken.at c.args.broken.row c.index.result.now c.index-2.result.now
    c.requires.point c.requires.failed c.index.ensures c.index-2.ensures c.if-not-is_reached.ensures in
    subst (λ j. IsAskable c.args.point.now c.args.broken.at c.args.broken.row (slice_index_or c.args.bounds.now j (pos 0))) (sym c.index-from.ensures) k

pub returns-clause-searching : goal.returns-clause-searching
returns-clause-searching g c = (lift g c).searching

pub returns-clause-forms : goal.returns-clause-forms
returns-clause-forms g c = (lift g c).forms

pub returns-clause-left : goal.returns-clause-left
returns-clause-left g c = let k = (lift g c).left in let l = c.in_ok-to.ensures.later in omega (arith, k, l)

pub overflow_sub-r : goal.overflow_sub-r
overflow_sub-r g c =
    (can c.args.bounds.now (g.A.Asks.exceeds (g.A.Asks.problem c.args.engine.now) c.args.point.now) c.args.places.now.items c.args.point.now c.args.broken.at c.args.broken.row c.index.result.now c.index.result.now
    c.requires.point c.requires.failed c.index.ensures c.index.ensures c.if-not-is_reached.ensures).some

pub index-from-requires : goal.index-from-requires
index-from-requires g c =
    (can c.args.bounds.now (g.A.Asks.exceeds (g.A.Asks.problem c.args.engine.now) c.args.point.now) c.args.places.now.items c.args.point.now c.args.broken.at c.args.broken.row c.index.result.now c.index-2.result.now
    c.requires.point c.requires.failed c.index.ensures c.index-2.ensures c.if-not-is_reached.ensures).inside

pub rise-requires-clause-inside : goal.rise-requires-clause-inside
rise-requires-clause-inside g c =
    let k = can c.args.bounds.now (g.A.Asks.exceeds (g.A.Asks.problem c.args.engine.now) c.args.point.now) c.args.places.now.items c.args.point.now c.args.broken.at c.args.broken.row c.index.result.now c.index-2.result.now
    c.requires.point c.requires.failed c.index.ensures c.index-2.ensures c.if-not-is_reached.ensures in
    subst (λ j. j < length c.args.bounds.now) (sym c.index-from.ensures) k.bounded

pub rise-requires-clause-exceeded : goal.rise-requires-clause-exceeded
rise-requires-clause-exceeded g c =
    let k = can c.args.bounds.now (g.A.Asks.exceeds (g.A.Asks.problem c.args.engine.now) c.args.point.now) c.args.places.now.items c.args.point.now c.args.broken.at c.args.broken.row c.index.result.now c.index-2.result.now
    c.requires.point c.requires.failed c.index.ensures c.index-2.ensures c.if-not-is_reached.ensures in
    subst (λ j. g.A.Asks.exceeds (g.A.Asks.problem c.args.engine.now) c.args.point.now c.args.broken.at c.args.broken.row (slice_index_or c.args.bounds.now j (pos 0))) (sym c.index-from.ensures) k.exceeded

pub raise-requires : goal.raise-requires
raise-requires g c =
    (can c.args.bounds.now (g.A.Asks.exceeds (g.A.Asks.problem c.args.engine.now) c.args.point.now) c.args.places.now.items c.args.point.now c.args.broken.at c.args.broken.row c.index.result.now c.index_mut-2.result.now
    c.requires.point c.requires.failed c.index.ensures c.index_mut-2.ensures.value c.if-not-is_reached.ensures).inside
