use Rattle.std.proofs.Common.{◌≡◌, ◌<◌, ◌-◌, ℕ, List, sym, ap, ◌∙◌, arith, length, get_or}
use Rattle.std.specs.Prelude.{ℤ, pos}
use Rattle.std.proofs.lemmas.List.{get_or_default}
use Rattle.l2_watch.proofs.Pasts.{IsPlaced-pop, AreTold-pop}
use Rattle.l2_watch.proofs.history.History.pop.Goals as goal

pub invariant_of-self : goal.invariant_of-self
invariant_of-self c =
    let literals : List ℤ = c.self.inside.trail.literals in
    let n : ℕ = c.self.inside.trail.variables in
    let some : 0 < length literals = omega (arith, c.requires, ap (λ p. length p.literals) c.self.view_is) in
    let is : get_or literals (length literals - 1) (pos 0) ≡ c.get-last.result = ap (λ k. get_or literals (k - 1) (pos 0)) (sym c.len.ensures.len) ∙ sym c.get-last.ensures in
    let within = c.len.ensures.over c.get-last.result (length literals - 1, omega (arith, some), get_or_default literals (length literals - 1) c.get-last.result (pos 0) (omega (arith, some)) ∙ is) in
    rw (c.pop.ensures.literals, c.pop.ensures.variables) (
      IsPlaced-pop literals c.self.inside.reasons.items c.self.inside.places.items n (length literals - 1) c.self.invariant.0 (omega arith),
      AreTold-pop literals c.self.inside.truths.items n c.code.result c.get-last.result c.self.invariant.1 c.len.ensures.apart some is c.code.ensures.code within.1,
    )
