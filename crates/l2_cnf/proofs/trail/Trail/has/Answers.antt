use Rattle.std.proofs.Common.{◌≡◌, ◌∙◌, Bool, true, refl, sym, ap, subst}
use Rattle.std.specs.Prelude.{nat_abs, Contains, Option, Some, None, is_some}
use Rattle.l2_cnf.specs.Lit.{positive}
use Rattle.l2_cnf.specs.Assignment.{value_of}
use Rattle.l2_cnf.proofs.Trails.{literal_with}
use Rattle.l2_cnf.proofs.trail.Trail.has.Goals as goal

some_value : (o : Option Bool) → is_some o ≡ true → (b : Bool) × (o ≡ Some b)
some_value None h = cc
some_value (Some b) h = (b, refl)

pub returns : goal.returns
returns c =
    let values = c.self.inside.values in
    let same : c.self.inside.literals.items ≡ c.args.self.now.literals = ap (λ p. p.literals) c.self.view_is in (
      (λ t.
          let value = some_value (value_of values c.args.var) (ap is_some (sym c.get.ensures) ∙ sym c.is_some.ensures ∙ t) in
          let found = literal_with values c.args.var value.0 value.1 in
          (found.0, subst (λ x. Contains x found.0) same (c.self.invariant.0.kept found.0 found.1), found.2)),
      (λ found.
          let made : value_of values (nat_abs found.0) ≡ Some (positive found.0) = c.self.invariant.0.made found.0 (subst (λ x. Contains x found.0) (sym same) found.1) in
          c.is_some.ensures ∙ ap is_some (c.get.ensures ∙ ap (value_of values) (sym found.2) ∙ made)),
    )
