use Rattle.std.proofs.Common.{◌≡◌, ◌⊎◌, ◌<◌, ◌+◌, ◌∙◌, ℕ, length, get_or, sym, ap, arith, subst, inl, inr}
use Rattle.std.specs.Prelude.{pos, neg_ℤ, Contains}
use Rattle.std.proofs.lemmas.List.{get_or_default}
use borrow.Author.Count.{below_more}
use Rattle.l2_cdcl.specs.declared.target.Fallen.{Fallen}
use Rattle.l2_cdcl.specs.Analysis.{IsFalseBefore}
use Rattle.l2_cdcl.proofs.Targets.{later_false}
use Rattle.l2_cdcl.proofs.target.last_fallen.Goals as goal

-- what holds of both holds of the later one
chosen : (P : Fallen → Type 0) (a b r : Fallen) → (r ≡ a) ⊎ (r ≡ b) → P a → P b → P r
chosen P a b r (inl e) x y = subst P (sym e) x
chosen P a b r (inr e) x y = subst P (sym e) y

pub loop-literal-preserved : goal.loop-literal-preserved
loop-literal-preserved c =
    let trail = c.args.watch.now.past.literals in
    let aside = c.args.aside.now in
    let i : ℕ = c.loop-literal.literal-index in
    let last = c.loop-literal.last in
    let next = c.fall_of.result in
    let one = c.later-last.ensures.one in
    let item : Contains aside c.literal-item.result = (i, c.loop-literal-test.true, sym c.literal-item.is) in
    let read : c.literal-item.result ≡ get_or aside i (pos 0) = c.literal-item.is ∙ get_or_default aside i c.literal-item.result (pos 0) c.loop-literal-test.true in
    record {
      stands = chosen (λ f. Contains aside f.literal) last next c.later-last.result one c.loop-literal.invariant.stands (subst (Contains aside) (sym c.fall_of.ensures.literal) item);
      within = chosen (λ f. f.place < length trail) last next c.later-last.result one c.loop-literal.invariant.within c.fall_of.ensures.within;
      here = chosen (λ f. get_or trail f.place (pos 0) ≡ neg_ℤ f.literal) last next c.later-last.result one c.loop-literal.invariant.here (c.fall_of.ensures.here ∙ ap neg_ℤ (sym c.fall_of.ensures.literal));
      all = below_more (λ k. IsFalseBefore trail (c.later-last.result.place + 1) (get_or aside k (pos 0))) i
          (λ k h. later_false trail (last.place + 1) (c.later-last.result.place + 1) (get_or aside k (pos 0)) (omega (arith, c.later-last.ensures.first)) (c.loop-literal.invariant.all k h))
          (next.place, omega (arith, c.later-last.ensures.second), c.fall_of.ensures.here ∙ ap neg_ℤ read);
    }

pub returns : goal.returns
returns c = record {
  stands = c.loop-literal.invariant.stands;
  within = c.loop-literal.invariant.within;
  here = c.loop-literal.invariant.here;
  all = λ m (k, h, e). subst (IsFalseBefore c.args.watch.now.past.literals (c.loop-literal.last.place + 1)) (get_or_default c.args.aside.now k (pos 0) m h ∙ e) (c.loop-literal.invariant.all k (omega (arith, h)));
}
