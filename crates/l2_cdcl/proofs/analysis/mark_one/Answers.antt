use Rattle.std.proofs.Common.{◌≡◌, ◌≢◌, ◌<◌, ◌∙◌, ℕ, List, length, get_or, sym, ap, arith, true, false, Bool}
use Rattle.std.specs.Prelude.{pos, neg_ℤ, nat_abs}
use Rattle.l2_cnf.proofs.Laws.{nat_abs-neg_ℤ}
use Rattle.l2_watch.proofs.Moves.{code_tells, code_parts}
use Rattle.l2_cdcl.specs.Analysis.{IsMarked}
use Rattle.l2_cdcl.proofs.Analyses.{marked_open, mark_here, mark_below}
use Rattle.l2_cdcl.proofs.analysis.mark_one.Goals as goal
use Rattle.l2_cdcl.proofs.analysis.mark_one.Goals.{After-place-place, Else-eq}

differs : (c : Else-eq) → c.args.literal ≢ c.args.but
differs c = code_parts c.args.literal c.args.but (sym c.eq.ensures ∙ c.if-eq.false)

there : (c : After-place-place) → get_or c.args.watch.now.past.literals c.place-place.result (pos 0) ≡ neg_ℤ c.args.literal
there c = c.place-place.ensures.there ∙ c.negated.ensures

room : (c : After-place-place) → c.args.literal ≢ c.args.but → nat_abs c.args.literal < length c.args.marks.now
room c ne = omega (arith, (c.facts.ensures.literals_over (neg_ℤ c.args.literal) (c.requires.false_one ne)).1, nat_abs-neg_ℤ c.args.literal, c.requires.room)

-- the variable wasn't marked
unmarked : (marks : List Bool) (v w : ℕ) (r : Bool) → r ≡ get_or marks w false → w ≡ v → r ≡ false → ¬ IsMarked marks v
unmarked marks v w r e f g is = let t : true ≡ false = sym is ∙ ap (λ x. get_or marks x false) (sym f) ∙ sym e ∙ g in cc

pub is_marked-requires : goal.is_marked-requires
is_marked-requires c = omega (arith, room (goal.at.is_marked-requires c).After-place-place (differs (goal.at.is_marked-requires c).Else-eq), c.var-var.ensures.var)

pub returns-then-is_marked-clause-open : goal.returns-then-is_marked-clause-open
returns-then-is_marked-clause-open c = λ ne.
    let d = (goal.at.returns-then-is_marked-clause-open c).After-place-place in
    let marked : IsMarked c.args.marks.now (nat_abs c.args.literal) = ap (λ v. get_or c.args.marks.now v false) (sym c.var-var.ensures.var) ∙ sym c.is_marked.ensures ∙ c.if-is_marked.true in
    marked_open c.args.watch.now.past.literals c.args.at.low c.args.at.start c.place-place.result c.args.marks.now c.args.aside.now.items c.args.literal c.place-place.ensures.within (there d) c.requires.put marked

pub mark-requires : goal.mark-requires
mark-requires c = omega (arith, room (goal.at.mark-requires c).After-place-place (differs (goal.at.mark-requires c).Else-eq), c.var-var.ensures.var)

pub mark-requires-2 : goal.mark-requires-2
mark-requires-2 c = omega (arith, room (goal.at.mark-requires-2 c).After-place-place (differs (goal.at.mark-requires-2 c).Else-eq), c.var-var.ensures.var)

pub returns-then-place-at-2-clause-put : goal.returns-then-place-at-2-clause-put
returns-then-place-at-2-clause-put c =
    let d = (goal.at.returns-then-place-at-2-clause-put c).After-place-place in
    rw (c.mark.ensures, c.var-var.ensures.var) ((mark_here c.args.watch.now.past.literals c.args.at.low c.args.at.start c.place-place.result c.args.marks.now c.args.aside.now.items c.args.literal c.place-place.ensures.within (there d) c.requires.put c.facts.ensures.apart c.requires.start (room d (differs (goal.at.returns-then-place-at-2-clause-put c).Else-eq)) c.if-place-at-2.true).1)

pub returns-then-place-at-2-clause-open : goal.returns-then-place-at-2-clause-open
returns-then-place-at-2-clause-open c = λ ne.
    let d = (goal.at.returns-then-place-at-2-clause-open c).After-place-place in
    rw (c.mark.ensures, c.var-var.ensures.var) ((mark_here c.args.watch.now.past.literals c.args.at.low c.args.at.start c.place-place.result c.args.marks.now c.args.aside.now.items c.args.literal c.place-place.ensures.within (there d) c.requires.put c.facts.ensures.apart c.requires.start (room d (differs (goal.at.returns-then-place-at-2-clause-open c).Else-eq)) c.if-place-at-2.true).2)

pub returns-clause-put : goal.returns-clause-put
returns-clause-put c =
    let d = (goal.at.returns-clause-put c).After-place-place in
    rw (c.mark-2.ensures, c.var-var.ensures.var, c.in_ok-push.ensures.ok) ((mark_below c.args.watch.now.past.literals c.args.at.low c.args.at.start c.place-place.result c.args.marks.now c.args.aside.now.items c.args.literal c.place-place.ensures.within (there d) c.requires.put c.facts.ensures.apart c.requires.start (room d (differs (goal.at.returns-clause-put c).Else-eq)) (unmarked c.args.marks.now (nat_abs c.args.literal) c.var-var.result c.is_marked.result c.is_marked.ensures c.var-var.ensures.var c.if-is_marked.false) (omega arith)).1)

pub returns-clause-open : goal.returns-clause-open
returns-clause-open c = λ ne.
    let d = (goal.at.returns-clause-open c).After-place-place in
    rw (c.mark-2.ensures, c.var-var.ensures.var, c.in_ok-push.ensures.ok) ((mark_below c.args.watch.now.past.literals c.args.at.low c.args.at.start c.place-place.result c.args.marks.now c.args.aside.now.items c.args.literal c.place-place.ensures.within (there d) c.requires.put c.facts.ensures.apart c.requires.start (room d (differs (goal.at.returns-clause-open c).Else-eq)) (unmarked c.args.marks.now (nat_abs c.args.literal) c.var-var.result c.is_marked.result c.is_marked.ensures c.var-var.ensures.var c.if-is_marked.false) (omega arith)).2)

pub returns-then-eq-clause-open : goal.returns-then-eq-clause-open
returns-then-eq-clause-open c = λ ne. absurd (ne (code_tells c.args.literal c.args.but (sym c.eq.ensures ∙ c.if-eq.true)))
