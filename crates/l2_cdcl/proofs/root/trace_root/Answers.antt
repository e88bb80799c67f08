use Rattle.std.proofs.Common.{◌∙◌, ◌-◌, ℕ, reverse, get_or, sym, ap, arith, subst}
use Rattle.std.specs.Prelude.{pos, nat_abs, Contains}
use Rattle.l2_cdcl.specs.Chain.{Chain, IsFrom, IsMarkedBefore}
use Rattle.l2_cdcl.proofs.Roots.{root_skip, root_step, root_reason, clause_over, is_unmarked}
use Rattle.l2_cdcl.proofs.root.trace_root.Goals as goal

pub returns-then-not-is_marked-clause-chain : goal.returns-then-not-is_marked-clause-chain
returns-then-not-is_marked-clause-chain c =
    let b = c.args.watch.now in
    let v : ℕ = nat_abs (get_or b.past.literals c.args.k (pos 0)) in
    root_skip b.clauses b.past.literals c.args.k c.args.marks.now (reverse c.args.hints.now.items)
    (is_unmarked c.args.marks.now v c.var.result c.is_marked.result c.is_marked.ensures (c.var.ensures.var ∙ ap nat_abs c.literal.ensures) c.if-not-is_marked.true) c.requires.chain

pub mark_all-requires : goal.mark_all-requires
mark_all-requires c =
    let b = c.args.watch.now in
    let cause = root_reason b c.args.k c.reason-reason.result c.facts.ensures c.requires.levels c.requires.within c.reason-reason.ensures in
    λ m h. (let most = clause_over b (c.reason-reason.result - 1) c.clause.result.now c.facts.ensures cause.1 c.clause.ensures m h in omega (arith, most, c.requires.room))

pub returns-clause-chain : goal.returns-clause-chain
returns-clause-chain c =
    let b = c.args.watch.now in
    let trail = b.past.literals in
    let reason : ℕ = c.reason-reason.result in
    let cause = root_reason b c.args.k reason c.facts.ensures c.requires.levels c.requires.within c.reason-reason.ensures in
    subst (λ x. Chain b.clauses (IsMarkedBefore trail c.args.k c.mark_all.new.marks) (IsFrom trail c.args.k) (reverse x)) (sym c.in_ok-push.ensures.items)
    (root_step b.clauses trail c.args.k reason c.args.marks.now c.mark_all.new.marks c.args.hints.now.items c.facts.ensures.apart c.requires.within cause.0 cause.1 cause.2 c.mark_all.ensures.more
    (λ m h. c.mark_all.ensures.all m (subst (λ x. Contains x m) (sym c.clause.ensures) h)) c.requires.chain)
