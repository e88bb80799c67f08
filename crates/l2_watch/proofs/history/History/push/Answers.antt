use Rattle.std.proofs.Common.{◌≡◌, ◌≤◌, sym, ap, subst, arith}
use Rattle.std.specs.Prelude.{nat_abs, Contains}
use Rattle.l2_watch.proofs.Moves.{code_within}
use Rattle.l2_watch.proofs.Pasts.{IsPlaced-push, AreTold-push}
use Rattle.l2_watch.proofs.history.History.push.Goals as goal

pub index_mut-requires-3 : goal.index_mut-requires-3
index_mut-requires-3 c = omega (arith, code_within c.args.l c.self.inside.trail.variables (omega (arith, c.requires.over, ap (λ p. p.variables) (sym c.self.view_is))), c.code.ensures.code, c.self.invariant.1.room)

pub invariant_of-self : goal.invariant_of-self
invariant_of-self c =
    let literals = c.self.inside.trail.literals in
    let same : c.args.self.now.literals ≡ literals = ap (λ p. p.literals) (sym c.self.view_is) in
    let vars : c.args.self.now.variables ≡ c.self.inside.trail.variables = ap (λ p. p.variables) (sym c.self.view_is) in
    let within : nat_abs c.args.l ≤ c.self.inside.trail.variables = omega (arith, c.requires.over, vars) in
    rw (c.push.ensures.literals, c.push.ensures.variables, c.var.ensures.var) (
      IsPlaced-push literals c.self.inside.reasons.items c.self.inside.places.items c.self.inside.trail.variables c.args.l c.args.reason c.len-at.result c.self.invariant.0 c.len-at.ensures.len within
          (λ m h e. c.requires.new m (subst (λ x. Contains x m) (sym same) h) e),
      AreTold-push literals c.self.inside.truths.items c.self.inside.trail.variables c.code.result c.args.l c.self.invariant.1 c.code.ensures.code within,
    )
