use Rattle.std.proofs.Common.{◌≡◌, ◌<◌, ◌≤◌, Bool, false, List, sym, ap, ◌∙◌, arith, length, get_or, subst}
use Rattle.std.specs.Prelude.{ℤ, IsTrue, ◌↔◌, Contains, nat_abs, neg_ℤ}
use Rattle.std.proofs.lemmas.List.{get_or_default}
use Rattle.l2_cnf.specs.Lit.{code_of}
use Rattle.l2_cnf.proofs.Laws.{nat_abs-neg_ℤ}
use Rattle.l2_watch.proofs.Moves.{code_within}
use Rattle.l2_watch.proofs.history.History.is_false.Goals as goal

pub returns : goal.returns
returns c =
    let truths : List Bool = c.self.inside.truths.items in
    let l : ℤ = neg_ℤ c.args.l in
    let over : nat_abs l ≤ c.self.inside.trail.variables = omega (arith, c.requires, ap (λ p. p.variables) c.self.view_is, nat_abs-neg_ℤ c.args.l) in
    let at : c.code.result ≡ code_of l = c.code.ensures.code ∙ ap code_of c.negated.ensures in
    let fits : c.code.result < length truths = omega (arith, code_within l c.self.inside.trail.variables over, at, c.self.invariant.1.room) in
    let read : c.index.result.now ≡ get_or truths (code_of l) false = c.index.ensures ∙ get_or_default truths c.code.result c.index.result.now false fits ∙ ap (λ k. get_or truths k false) at in
    let told : IsTrue c.index.result.now ↔ Contains c.self.inside.trail.literals l = subst (λ b. IsTrue b ↔ Contains c.self.inside.trail.literals l) (sym read) (c.self.invariant.1.told l) in
    subst (λ x. IsTrue c.index.result.now ↔ Contains x l) (ap (λ p. p.literals) c.self.view_is) told
