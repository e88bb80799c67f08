use Rattle.std.proofs.Common.{◌≢◌, ◌<◌, ◌-◌, ◌∙◌, [], length, get_or, sym, arith, subst}
use Rattle.std.specs.Prelude.{pos, neg_ℤ, Contains}
use Rattle.std.proofs.lemmas.List.{get_or_default}
use Rattle.l2_watch.specs.Past.{IsReason}
use Rattle.l2_watch.specs.Board.{HasCause}
use Rattle.l2_cdcl.proofs.Analyses.{cause_some, start_within}
use Rattle.l2_cdcl.proofs.shorten.take_in.Goals as goal
use Rattle.l2_cdcl.proofs.shorten.take_in.Goals.{After-reason-reason}

within : (c : After-reason-reason) → c.args.place < c.args.at.start → c.args.place < length c.args.watch.now.past.literals
within c h = omega (arith, h, start_within c.args.watch.now c.facts.ensures c.args.at.low c.args.at.start c.requires.level)

reasoned : (c : After-reason-reason) → c.args.place < c.args.at.start → c.reason-reason.result ≢ 0 → (c.reason-reason.result - 1 < length c.args.watch.now.clauses) × (IsReason c.args.watch.now.past.literals c.args.place (get_or c.args.watch.now.clauses (c.reason-reason.result - 1) []))
reasoned c h ne =
    let b = c.args.watch.now in
    cause_some b.clauses b.past.literals b.levels c.args.place c.reason-reason.result (subst (HasCause b.clauses b.past.literals b.levels c.args.place) (sym c.reason-reason.ensures) (c.facts.ensures.caused c.args.place (within c h))) ne

pub mark_others-requires-clause-false_ones : goal.mark_others-requires-clause-false_ones
mark_others-requires-clause-false_ones c = λ m h ne.
    let trail = c.args.watch.now.past.literals in
    let d = (goal.at.mark_others-requires-clause-false_ones c).After-reason-reason in
    let low : c.args.place < c.args.at.start = omega arith in
    let is = reasoned d low c.if-reason-eq0.false in
    let place = is.1.others m (subst (λ x. Contains x m) c.clause.ensures h) (λ e. ne (e ∙ sym c.literal-but.ensures)) in
    let here : place.0 < length trail = omega (arith, place.1, within d low) in
    (place.0, here, get_or_default trail place.0 (neg_ℤ m) (pos 0) here ∙ place.2)
