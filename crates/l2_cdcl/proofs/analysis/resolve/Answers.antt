use Rattle.std.proofs.Common.{◌≡◌, ◌≢◌, ◌<◌, ◌-◌, ◌∙◌, inl, inr, ℕ, [], length, get_or, sym, arith, subst}
use Rattle.std.specs.Prelude.{ℤ, pos, neg_ℤ, Contains}
use Rattle.std.proofs.lemmas.List.{get_or_default}
use Rattle.l2_watch.specs.Past.{IsReason}
use Rattle.l2_watch.specs.Watch.{Refutes}
use Rattle.l2_watch.specs.Board.{HasCause}
use Rattle.l2_cdcl.specs.Analysis.{IsMarked, HasVariable, IsOpen, AreUnmarked}
use Rattle.l2_cdcl.proofs.Chains.{chain_point, chain_resolve}
use Rattle.l2_cdcl.proofs.Analyses.{cause_zero, cause_some, decided_first, first_point, trace_step, traced_to, some_open}
use Rattle.l2_cdcl.proofs.analysis.resolve.Goals as goal
use Rattle.l2_cdcl.proofs.analysis.resolve.Goals.{After-reason-reason, In_ok-more}

cause : (c : After-reason-reason) → HasCause c.args.watch.now.clauses c.args.watch.now.past.literals c.args.watch.now.levels c.args.traced.place c.reason-reason.result
cause c = subst (HasCause c.args.watch.now.clauses c.args.watch.now.past.literals c.args.watch.now.levels c.args.traced.place) (sym c.reason-reason.ensures) (c.facts.ensures.caused c.args.traced.place c.requires.traced.within)

-- what was decided opens the present level
undecided : (c : After-reason-reason) → c.reason-reason.result ≡ 0 → AreUnmarked c.args.watch.now.past.literals c.args.marks.now c.args.at.start c.args.traced.place
undecided c e =
    let b = c.args.watch.now in
    let decided = cause_zero b.clauses b.past.literals b.levels c.args.traced.place c.reason-reason.result (cause c) e in
    let first = decided_first b c.facts.ensures c.args.at.low c.args.at.start c.requires.level c.args.traced.place c.requires.traced.first decided.0 decided.1 decided.2 in
    λ j x y. absurd (omega (arith, first, x, y))

pub returns-then-reason-eq0-clause-next : goal.returns-then-reason-eq0-clause-next
returns-then-reason-eq0-clause-next c =
    let b = c.args.watch.now in
    let d = (goal.at.returns-then-reason-eq0-clause-next c).After-reason-reason in
    first_point b.clauses b.past.literals c.args.at.low c.args.at.start c.args.traced.place c.args.marks.now c.args.aside.now.items (undecided d c.if-reason-eq0.true) c.requires.traced

reasoned : (c : After-reason-reason) → c.reason-reason.result ≢ 0 → (c.reason-reason.result - 1 < length c.args.watch.now.clauses) × (IsReason c.args.watch.now.past.literals c.args.traced.place (get_or c.args.watch.now.clauses (c.reason-reason.result - 1) []))
reasoned c ne = cause_some c.args.watch.now.clauses c.args.watch.now.past.literals c.args.watch.now.levels c.args.traced.place c.reason-reason.result (cause c) ne

pub mark_others-requires-clause-false_ones : goal.mark_others-requires-clause-false_ones
mark_others-requires-clause-false_ones c = λ m h ne.
    let trail = c.args.watch.now.past.literals in
    let d = (goal.at.mark_others-requires-clause-false_ones c).After-reason-reason in
    let is = reasoned d c.if-reason-eq0.false in
    let place = is.1.others m (subst (λ x. Contains x m) c.clause.ensures h) (λ e. ne (e ∙ sym c.literal-but.ensures)) in
    let within : place.0 < length trail = omega (arith, place.1, c.requires.traced.within) in
    (place.0, within, get_or_default trail place.0 (neg_ℤ m) (pos 0) within ∙ place.2)

-- its other literals are open
opened : (c : In_ok-more) → (m : ℤ) → Contains (get_or c.args.watch.now.clauses (c.reason-reason.result - 1) []) m → m ≢ get_or c.args.watch.now.past.literals c.args.traced.place (pos 0) → IsOpen c.args.watch.now.past.literals c.args.at.low c.args.at.start (length c.args.watch.now.past.literals) c.mark_others.new.marks c.mark_others.new.aside.items m
opened c m h ne = c.in_ok-more.ensures.open m (subst (λ x. Contains x m) (sym c.clause.ensures) h) (λ e. ne (e ∙ c.literal-but.ensures))

-- each variable that is marked stands in a clause
known : (c : In_ok-more) → (c.reason-reason.result - 1 < length c.args.watch.now.clauses) × (IsReason c.args.watch.now.past.literals c.args.traced.place (get_or c.args.watch.now.clauses (c.reason-reason.result - 1) [])) → (v : ℕ) → IsMarked c.mark_others.new.marks v → HasVariable c.args.watch.now.clauses v
known c is v h = elim (c.in_ok-more.ensures.from v h) [
  | inl before ↦ c.requires.traced.known v before
  | inr (m, there, e) ↦
      let clauses = c.args.watch.now.clauses in
      let r : ℕ = c.reason-reason.result - 1 in
      (get_or clauses r [], (r, is.0, get_or_default clauses r _ _ is.0), (m, subst (λ x. Contains x m) c.clause.ensures there, e))
]

step_refutes : (c : In_ok-more) → (c.reason-reason.result - 1 < length c.args.watch.now.clauses) × (IsReason c.args.watch.now.past.literals c.args.traced.place (get_or c.args.watch.now.clauses (c.reason-reason.result - 1) []))
    → Refutes c.args.watch.now.clauses (IsOpen c.args.watch.now.past.literals c.args.at.low c.args.at.start c.args.traced.place c.mark_others.new.marks c.mark_others.new.aside.items)
step_refutes c is =
    let b = c.args.watch.now in
    let r : ℕ = c.reason-reason.result - 1 in
    let stands : Contains b.clauses (get_or b.clauses r []) = (r, is.0, get_or_default b.clauses r _ _ is.0) in
    trace_step b.clauses b.past.literals c.args.at.low c.args.at.start c.args.traced.place (get_or b.clauses r []) c.args.marks.now c.mark_others.new.marks c.args.aside.now.items c.mark_others.new.aside.items c.facts.ensures.apart c.requires.traced.within
    stands is.1 c.in_ok-more.ensures.more (opened c) c.requires.traced.refutes

pub last_open-place-requires-clause-some : goal.last_open-place-requires-clause-some
last_open-place-requires-clause-some c =
    let b = c.args.watch.now in
    let d = (goal.at.last_open-place-requires-clause-some c).After-reason-reason in
    let is = reasoned d c.if-reason-eq0.false in
    some_open b c.facts.ensures c.args.at.low c.args.at.start c.requires.level c.args.traced.place c.mark_others.new.marks c.mark_others.new.aside.items c.in_ok-more.ensures.put
    (step_refutes (goal.at.last_open-place-requires-clause-some c).In_ok-more is)

pub returns-clause-next : goal.returns-clause-next
returns-clause-next c =
    let b = c.args.watch.now in
    let d = (goal.at.returns-clause-next c).After-reason-reason in
    let is = reasoned d c.if-reason-eq0.false in (
      c.last_open-place.ensures.last,
      traced_to b c.facts.ensures c.args.at.low c.args.at.start c.requires.level c.last_open-place.result c.args.traced.place c.mark_others.new.marks c.mark_others.new.aside.items c.last_open-place.ensures.first
          c.last_open-place.ensures.last (omega (arith, c.requires.traced.within)) c.in_ok-more.ensures.put c.last_open-place.ensures.none c.last_open-place.ensures.here (known (goal.at.returns-clause-next c).In_ok-more is) (step_refutes (goal.at.returns-clause-next c).In_ok-more is),
    )

pub returns-then-reason-eq0-clause-chain : goal.returns-then-reason-eq0-clause-chain
returns-then-reason-eq0-clause-chain c = λ kept.
    let b = c.args.watch.now in
    let d = (goal.at.returns-then-reason-eq0-clause-chain c).After-reason-reason in
    chain_point b.clauses b.past.literals c.args.at.low c.args.at.start c.args.traced.place c.args.marks.now c.args.aside.now.items c.args.hints.now.numbers (undecided d c.if-reason-eq0.true) (c.requires.chain kept)

pub returns-clause-chain : goal.returns-clause-chain
returns-clause-chain c = λ kept.
    let b = c.args.watch.now in
    let d = (goal.at.returns-clause-chain c).After-reason-reason in
    let is = reasoned d c.if-reason-eq0.false in
    chain_resolve b.clauses b.past.literals c.args.at.low c.args.at.start c.args.traced.place c.last_open-place.result c.reason-reason.result c.args.marks.now c.mark_others.new.marks c.args.aside.now.items c.mark_others.new.aside.items c.args.hints.now.numbers c.note.new.self.numbers
    c.facts.ensures.apart c.requires.traced.within c.last_open-place.ensures.first c.last_open-place.ensures.last c.if-reason-eq0.false is.0 is.1 c.in_ok-more.ensures.more (opened (goal.at.returns-clause-chain c).In_ok-more) c.last_open-place.ensures.none (c.in_ok-note.ensures.ok kept) (c.requires.chain kept)
