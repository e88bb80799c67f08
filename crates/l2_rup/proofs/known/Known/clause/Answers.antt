use Rattle.std.proofs.Common.{◌-◌, ◌++◌, length, ap, subst, arith}
use Rattle.std.proofs.lemmas.List.Elements.{Contains-append_left, Contains-append_right}
use Rattle.l2_cnf.specs.Logic.{IsWithin}
use Rattle.std.proofs.lemmas.List.{length-append}
use Rattle.l2_rup.specs.Checked.{known_of}
use Rattle.l2_cnf.proofs.Within.{stands_at}
use Rattle.l2_rup.proofs.known.Known.clause.Goals as goal

pub returns-then-i-first-clause-within : goal.returns-then-i-first-clause-within
returns-then-i-first-clause-within c =
    let base = c.self.inside.base.now in let last = c.self.inside.last in let steps = c.self.inside.steps.clauses in
    subst (λ n. IsWithin n c.clause.result.now) (ap (λ k. k.variables) c.self.view_is)
    (c.self.invariant.0 c.clause.result.now (Contains-append_left (base ++ last) steps c.clause.result.now (Contains-append_left base last c.clause.result.now
    (stands_at base c.args.i c.clause.result.now (omega (arith, c.if-i-first.true, c.len-first.ensures.len)) c.clause.ensures))))

pub returns-then-i-first-2-clause-within : goal.returns-then-i-first-2-clause-within
returns-then-i-first-2-clause-within c =
    let base = c.self.inside.base.now in let last = c.self.inside.last in let steps = c.self.inside.steps.clauses in
    let clause = c.clause-then-i-first-2.result.now in
    subst (λ n. IsWithin n clause) (ap (λ k. k.variables) c.self.view_is)
    (c.self.invariant.0 clause (Contains-append_left (base ++ last) steps clause (Contains-append_right base last clause
    (stands_at last (c.args.i - c.len-first.result) clause (omega (arith, c.if-i-first-2.true, c.len-second.ensures.len)) c.clause-then-i-first-2.ensures))))

pub returns-else-i-first-2-clause-within : goal.returns-else-i-first-2-clause-within
returns-else-i-first-2-clause-within c =
    let base = c.self.inside.base.now in let last = c.self.inside.last in let steps = c.self.inside.steps.clauses in
    let clause = c.clause-else-i-first-2.result.now in
    subst (λ n. IsWithin n clause) (ap (λ k. k.variables) c.self.view_is)
    (c.self.invariant.0 clause (Contains-append_right (base ++ last) steps clause
    (stands_at steps (c.args.i - c.len-first.result - c.len-second.result) clause (omega (arith, c.requires, ap (λ k. length (known_of k)) c.self.view_is, length-append (base ++ last) steps, length-append base last, c.len-first.ensures.len, c.len-second.ensures.len, c.if-i-first.false, c.if-i-first-2.false)) c.clause-else-i-first-2.ensures)))
