use Rattle.std.proofs.Common.{◌≡◌, ◌++◌, ◌∷◌, [], true, sym, ap, ◌∙◌, subst}
use Rattle.std.specs.Prelude.{◌↔◌, IsTrue, List, slice_set}
use Rattle.l2_templates.specs.declared.form.Form.{Form}
use Rattle.l2_templates.specs.Forms.{form_at}
use Rattle.l2_rank.specs.Greedy.{IsFirstServing, NoneServes}
use Rattle.l2_rank.specs.Search.{AreMarked, IsBegun}
use Rattle.l2_rank.proofs.Searching.{begun_stuck, begun_greedy, begun_more, marked_more, of_none, of_some, not_so}
use Rattle.l2_rank.proofs.greedy.list_of.Goals as goal

pub returns-in-None-clause-is : goal.returns-in-None-clause-is
returns-in-None-clause-is g c =
    let e = c.loop-used.invariant.0 in
    let f = c.stay.ensures.same ∙ e in
    let stay = subst (λ x. g.T.Turns.stays x c.args.point.now c.args.at c.loop-used.list.items) e (subst (λ (l : List Form). g.T.Turns.stays (g.T.Turns.problem c.loop-used.engine) c.args.point.now c.args.at l) c.as_slice.ensures.value (c.in_ok-stay.ensures.is.0 c.if-branch.true)) in
    let none = subst (λ x. NoneServes (g.T.Turns.moves x c.args.point.now c.args.at) c.loop-used.list.items c.args.candidates.now) f
    (subst (λ (l : List Form). NoneServes (g.T.Turns.moves (g.T.Turns.problem c.stay.new.self) c.args.point.now c.args.at) l c.args.candidates.now) c.as_slice-in-loop-used.ensures.value (of_none c.in_ok-first_serving.field-0 _ _ c.in_ok-first_serving.ensures.is c.in-None.is)) in
    (c.loop-used.list.items, begun_stuck (g.T.Turns.moves (g.T.Turns.problem c.args.engine.now) c.args.point.now c.args.at) (g.T.Turns.stays (g.T.Turns.problem c.args.engine.now) c.args.point.now c.args.at) c.args.candidates.now c.loop-used.list.items c.loop-used.invariant.2 stay none)

pub loop-used-preserved : goal.loop-used-preserved
loop-used-preserved g c =
    let f = c.stay.ensures.same ∙ c.loop-used.invariant.0 in
    let found = of_some c.in_ok-first_serving.field-0 _ _ c.in-Some.i c.in_ok-first_serving.ensures.is c.in-Some.is in
    let first = subst (λ x. IsFirstServing (g.T.Turns.moves x c.args.point.now c.args.at) c.loop-used.list.items c.args.candidates.now (form_at c.args.candidates.now c.in-Some.i)) f
    (subst (λ (l : List Form). IsFirstServing (g.T.Turns.moves (g.T.Turns.problem c.stay.new.self) c.args.point.now c.args.at) l c.args.candidates.now (form_at c.args.candidates.now c.in-Some.i)) c.as_slice-in-loop-used.ensures.value found.2) in
    let pushed : c.push.new.self.items ≡ c.loop-used.list.items ++ form_at c.args.candidates.now c.in-Some.i ∷ [] = c.in_ok-push-in-Some.ensures.items ∙ ap (λ (x : Form). c.loop-used.list.items ++ x ∷ []) c.form_of-form.ensures in (
      c.first_serving.ensures.same ∙ f,
      subst (λ (l : List Form). AreMarked c.args.candidates.now l (slice_set c.loop-used.used.items c.in-Some.i true)) (sym pushed) (marked_more c.args.candidates.now c.loop-used.list.items c.loop-used.used.items c.in-Some.i found.0 c.loop-used.invariant.1),
      subst (λ (l : List Form). IsBegun (g.T.Turns.moves (g.T.Turns.problem c.args.engine.now) c.args.point.now c.args.at) (g.T.Turns.stays (g.T.Turns.problem c.args.engine.now) c.args.point.now c.args.at) c.args.candidates.now l) (sym pushed)
          (begun_more (g.T.Turns.moves (g.T.Turns.problem c.args.engine.now) c.args.point.now c.args.at) (g.T.Turns.stays (g.T.Turns.problem c.args.engine.now) c.args.point.now c.args.at) c.args.candidates.now c.loop-used.list.items (form_at c.args.candidates.now c.in-Some.i) c.loop-used.invariant.2 first),
    )

pub returns-clause-is : goal.returns-clause-is
returns-clause-is g c =
    begun_greedy (g.T.Turns.moves (g.T.Turns.problem c.args.engine.now) c.args.point.now c.args.at) (g.T.Turns.stays (g.T.Turns.problem c.args.engine.now) c.args.point.now c.args.at) c.args.candidates.now c.loop-used.list.items c.loop-used.invariant.2
    (not_so c.in_ok-stay.field-0 _ (subst (λ x. IsTrue c.in_ok-stay.field-0 ↔ g.T.Turns.stays x c.args.point.now c.args.at c.loop-used.list.items) c.loop-used.invariant.0
    (subst (λ (l : List Form). IsTrue c.in_ok-stay.field-0 ↔ g.T.Turns.stays (g.T.Turns.problem c.loop-used.engine) c.args.point.now c.args.at l) c.as_slice.ensures.value c.in_ok-stay.ensures.is)) c.if-branch.false)
