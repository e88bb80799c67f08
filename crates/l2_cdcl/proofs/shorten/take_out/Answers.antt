use Rattle.std.proofs.Common.{◌≡◌, ◌≢◌, ◌<◌, ◌-◌, ◌∙◌, ◌⊎◌, ℕ, [], length, reverse, get_or, set, List, refl, sym, ap, arith, subst, false}
use Rattle.std.specs.Prelude.{ℤ, pos, neg_ℤ, nat_abs, Contains}
use Rattle.std.proofs.lemmas.List.{get_or_default}
use Rattle.l2_watch.specs.Past.{IsReason}
use Rattle.l2_watch.specs.Watch.{Refutes}
use Rattle.l2_watch.specs.Board.{HasCause}
use Rattle.l2_cdcl.specs.Analysis.{IsMarked, IsFalseBefore}
use Rattle.l2_cdcl.specs.Chain.{Chain}
use Rattle.l2_cdcl.specs.Shortening.{IsKept, IsGone}
use Rattle.l2_cdcl.proofs.Analyses.{cause_some, start_within}
use Rattle.l2_cdcl.proofs.Shortenings.{skip_chain, take_refutes, take_chain}
use Rattle.l2_cdcl.proofs.shorten.take_out.Goals as goal
use Rattle.l2_cdcl.proofs.shorten.take_out.Goals.{After-reason-reason, After-are_covered, After-unmark}

pub returns-then-reason-eq0-clause-chain : goal.returns-then-reason-eq0-clause-chain
returns-then-reason-eq0-clause-chain c = λ kept. skip_chain c.args.watch.now.clauses c.args.watch.now.past.literals c.args.at.low c.args.last c.args.place c.args.at.start c.args.point c.args.marks.now (reverse c.args.hints.now.numbers) (omega (arith, c.requires.order)) (c.requires.chain kept)

pub returns-then-not-are_covered-clause-chain : goal.returns-then-not-are_covered-clause-chain
returns-then-not-are_covered-clause-chain c = λ kept. skip_chain c.args.watch.now.clauses c.args.watch.now.past.literals c.args.at.low c.args.last c.args.place c.args.at.start c.args.point c.args.marks.now (reverse c.args.hints.now.numbers) (omega (arith, c.requires.order)) (c.requires.chain kept)

within : (c : After-reason-reason) → c.args.place < length c.args.watch.now.past.literals
within c = omega (arith, c.requires.order, c.requires.last, start_within c.args.watch.now c.facts.ensures c.args.at.low c.args.at.start c.requires.level)

reasoned : (c : After-reason-reason) → c.reason-reason.result ≢ 0 → (c.reason-reason.result - 1 < length c.args.watch.now.clauses) × (IsReason c.args.watch.now.past.literals c.args.place (get_or c.args.watch.now.clauses (c.reason-reason.result - 1) []))
reasoned c ne =
    let b = c.args.watch.now in
    cause_some b.clauses b.past.literals b.levels c.args.place c.reason-reason.result (subst (HasCause b.clauses b.past.literals b.levels c.args.place) (sym c.reason-reason.ensures) (c.facts.ensures.caused c.args.place (within c))) ne

pub are_covered-requires-clause-false_ones : goal.are_covered-requires-clause-false_ones
are_covered-requires-clause-false_ones c = λ m h ne.
    let trail = c.args.watch.now.past.literals in
    let d = (goal.at.are_covered-requires-clause-false_ones c).After-reason-reason in
    let is = reasoned d c.if-reason-eq0.false in
    let place = is.1.others m (subst (λ x. Contains x m) c.clause.ensures h) (λ e. ne (e ∙ sym c.literal-but.ensures)) in
    let here : place.0 < length trail = omega (arith, place.1, within d) in
    (place.0, here, get_or_default trail place.0 (neg_ℤ m) (pos 0) here ∙ place.2)

-- the clause has them all
abbrev AreCovered : After-are_covered → List ℤ → ℤ → Type 0
AreCovered c clause but = (m : ℤ) → Contains clause m → m ≢ but → IsFalseBefore c.args.watch.now.past.literals c.args.at.low m ⊎ IsMarked c.args.marks.now (nat_abs m)

-- its other literals need no care or are marked
covered : (c : After-are_covered) → AreCovered c c.clause.result.now c.literal-but.result → AreCovered c (get_or c.args.watch.now.clauses (c.reason-reason.result - 1) []) (get_or c.args.watch.now.past.literals c.args.place (pos 0))
covered c all m h ne = all m (subst (λ x. Contains x m) (sym c.clause.ensures) h) (λ e. ne (e ∙ c.literal-but.ensures))

-- the literal's variable has room
room : (c : After-reason-reason) → nat_abs (get_or c.args.watch.now.past.literals c.args.place (pos 0)) < length c.args.marks.now
room c =
    let trail = c.args.watch.now.past.literals in
    let over = c.facts.ensures.literals_over (get_or trail c.args.place (pos 0)) (c.args.place, within c, get_or_default trail c.args.place _ _ (within c)) in
    omega (arith, over.1, c.requires.room)

unmarked : (c : After-unmark) → c.unmark.new.self ≡ set c.args.marks.now (nat_abs (get_or c.args.watch.now.past.literals c.args.place (pos 0))) false
unmarked c = c.unmark.ensures ∙ ap (λ v. set c.args.marks.now v false) (c.var-2.ensures.var ∙ ap nat_abs c.literal-but.ensures)

pub returns-clause-refutes : goal.returns-clause-refutes
returns-clause-refutes c =
    let b = c.args.watch.now in
    let trail = b.past.literals in
    let d = (goal.at.returns-clause-refutes c).After-reason-reason in
    let is = reasoned d c.if-reason-eq0.false in
    let r : ℕ = c.reason-reason.result - 1 in
    subst (λ x. Refutes b.clauses (IsKept trail c.args.at.low c.args.at.start c.args.point x)) (sym (unmarked c))
    (take_refutes b.clauses trail c.args.at.low c.args.at.start c.args.point c.args.place (get_or b.clauses r []) c.args.marks.now c.facts.ensures.apart
    (start_within b c.facts.ensures c.args.at.low c.args.at.start c.requires.level) c.requires.point (omega (arith, c.requires.order, c.requires.last)) is.1
    (covered (goal.at.returns-clause-refutes c).After-are_covered c.if-not-are_covered.ensures) (room d) (r, is.0, get_or_default b.clauses r _ _ is.0) c.requires.refutes)

pub returns-clause-chain : goal.returns-clause-chain
returns-clause-chain c = λ kept.
    let b = c.args.watch.now in
    let trail = b.past.literals in
    let d = (goal.at.returns-clause-chain c).After-reason-reason in
    let is = reasoned d c.if-reason-eq0.false in
    let r : ℕ = c.reason-reason.result - 1 in
    subst (λ x. Chain b.clauses (IsKept trail c.args.at.low c.args.at.start c.args.point x) (IsGone trail c.args.place c.args.at.start c.args.point x) (reverse c.note.new.self.numbers)) (sym (unmarked c))
    (subst (λ x. Chain b.clauses (IsKept trail c.args.at.low c.args.at.start c.args.point (set c.args.marks.now (nat_abs (get_or trail c.args.place (pos 0))) false)) (IsGone trail c.args.place c.args.at.start c.args.point (set c.args.marks.now (nat_abs (get_or trail c.args.place (pos 0))) false)) (reverse x)) (sym (c.in_ok-note.ensures.ok kept))
    (take_chain b.clauses trail c.args.at.low c.args.at.start c.args.point c.args.place (get_or b.clauses r []) c.args.marks.now c.facts.ensures.apart
    (start_within b c.facts.ensures c.args.at.low c.args.at.start c.requires.level) c.requires.point (omega (arith, c.requires.order, c.requires.last)) is.1
    (covered (goal.at.returns-clause-chain c).After-are_covered c.if-not-are_covered.ensures) (room d) c.args.last c.reason-reason.result c.args.hints.now.numbers c.requires.order c.if-reason-eq0.false is.0 refl (c.requires.chain kept)))
