use Rattle.std.proofs.Common.{◌≢◌, ◌<◌, ◌∙◌, length, sym, arith, subst}
use Rattle.std.specs.Prelude.{pos, neg_ℤ, Contains}
use Rattle.std.proofs.lemmas.List.{get_or_default}
use Rattle.l2_cnf.proofs.Laws.{nat_abs-neg_ℤ}
use Rattle.l2_watch.proofs.Moves.{code_parts}
use Rattle.l2_watch.specs.Board.{HasCause}
use Rattle.l2_cdcl.proofs.Analyses.{cause_some}
use Rattle.l2_cdcl.proofs.redundant.+redundant.Goals as goal

pub is_redundant-is_marked-requires : goal.is_redundant-is_marked-requires
is_redundant-is_marked-requires t c =
    let ne : c.args.literal ≢ c.args.but = code_parts c.args.literal c.args.but (sym c.eq.ensures ∙ c.if-eq.false) in
    omega (arith, (c.facts.ensures.literals_over (neg_ℤ c.args.literal) (c.requires.false_one ne)).1, nat_abs-neg_ℤ c.args.literal, c.requires.room, c.var-var.ensures.var)

pub is_implied-is_redundant-requires : goal.is_implied-is_redundant-requires
is_implied-is_redundant-requires t c =
    let b = c.args.watch.now in
    let trail = b.past.literals in
    let caused : HasCause b.clauses trail b.levels c.args.place c.reason-reason.result = subst (HasCause b.clauses trail b.levels c.args.place) (sym c.reason-reason.ensures) (c.facts.ensures.caused c.args.place c.requires.within) in
    let is = cause_some b.clauses trail b.levels c.args.place c.reason-reason.result caused c.if-reason-eq0.false in
    let stands : Contains c.clause-literal-items.result.now c.literal-item.result = (c.loop-literal.literal-index, c.loop-literal-test.true, sym c.literal-item.is) in (
      omega (arith, c.decreases, c.if-reach-eq0.false),
      (
        λ ne.
            let place = is.1.others c.literal-item.result (subst (λ x. Contains x c.literal-item.result) c.clause-literal-items.ensures stands) (λ e. ne (e ∙ sym c.literal-but.ensures)) in
            let here : place.0 < length trail = omega (arith, place.1, c.requires.within) in
            (place.0, here, get_or_default trail place.0 (neg_ℤ c.literal-item.result) (pos 0) here ∙ place.2),
        c.requires.room,
      ),
    )
