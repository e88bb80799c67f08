use Rattle.std.proofs.Common.{◌+◌, ◌*◌, List, length, map, refl, sym, ap, ◌∙◌, subst}
use Rattle.std.specs.Prelude.{sum_by}
use Rattle.l2_templates.specs.declared.form.Form.{Form}
use Rattle.l2_templates.specs.declared.point.LoopPoint.{LoopPoint}
use Rattle.l2_strategy.specs.Places.{IsSearching, IsStrongestOf, Spot, forms_of, left, point_of}
use Rattle.l2_strategy.proofs.Raising.{starts, start_forms, ends}
use Rattle.l2_strategy.proofs.Steps.{of_none, bottoms, IsCounted, counted_first, left_start}
use Rattle.l2_strategy.proofs.search.strongest.Goals as goal

pub loop-places-init : goal.loop-places-init
loop-places-init g c =
    let all : List (List Form) = map (λ f. f.items) c.args.forms.now in
    let is = bottoms (λ f. f.items) c.args.forms.now ∙ sym c.in_ok-places.ensures in (
      refl,
      subst (λ (s : List Spot). IsSearching (g.A.Asks.infers (g.A.Asks.problem c.args.engine.now)) c.args.bounds.now s) is (starts c.args.bounds.now c.requires (g.A.Asks.infers (g.A.Asks.problem c.args.engine.now)) all),
      ap forms_of (sym is) ∙ start_forms c.args.bounds.now c.requires all,
      subst (λ n. IsCounted (g.A.Asks.asked c.args.engine.now) (g.A.Asks.asked c.args.engine.now) (length c.args.forms.now + sum_by (λ f. length f.items) c.args.forms.now * length c.args.bounds.now) n (length c.args.bounds.now))
          (sym (left_start (λ f. f.items) (length c.args.bounds.now) c.args.forms.now) ∙ ap (λ s. left (length c.args.bounds.now) s) (sym c.in_ok-places.ensures))
          (counted_first (g.A.Asks.asked c.args.engine.now) (length c.args.forms.now + sum_by (λ f. length f.items) c.args.forms.now * length c.args.bounds.now) (length c.args.bounds.now)),
    )

pub returns-in-None-clause-is : goal.returns-in-None-clause-is
returns-in-None-clause-is g c =
    let infers = subst (λ x. g.A.Asks.infers x c.in_ok-point.point) c.loop-places.invariant.0 (of_none c.in_ok-any.field-0 _ _ c.in_ok-any.ensures.is c.in-None.is) in
    let point = c.in_ok-point.ensures ∙ ap (λ (s : List Spot). point_of c.args.bounds.now s) c.as_slice.ensures.value in
    let here = subst (λ (q : List LoopPoint). g.A.Asks.infers (g.A.Asks.problem c.args.engine.now) q) point infers in
    let all = ends c.args.bounds.now c.requires (g.A.Asks.infers (g.A.Asks.problem c.args.engine.now)) c.loop-places.places.items c.loop-places.invariant.1 here in
    subst (λ (a : List (List Form)). IsStrongestOf (g.A.Asks.infers (g.A.Asks.problem c.args.engine.now)) c.args.bounds.now a c.in_ok-point.point) c.loop-places.invariant.2
    (subst (λ (q : List LoopPoint). IsStrongestOf (g.A.Asks.infers (g.A.Asks.problem c.args.engine.now)) c.args.bounds.now (forms_of c.loop-places.places.items) q) (sym point) all)
