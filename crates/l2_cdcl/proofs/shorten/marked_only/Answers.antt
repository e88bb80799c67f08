use Rattle.std.proofs.Common.{◌≡◌, ◌∙◌, ◌<◌, ℕ, length, get_or, sym, ap, arith, subst, inl, inr}
use Rattle.std.specs.Prelude.{pos, nat_abs, Contains}
use Rattle.std.proofs.lemmas.List.{get_or_default}
use borrow.Author.Count.{below_more}
use Rattle.l2_cdcl.specs.Analysis.{IsMarked}
use Rattle.l2_cdcl.proofs.shorten.marked_only.Goals as goal

pub loop-literal-preserved : goal.loop-literal-preserved
loop-literal-preserved c =
    let aside = c.args.aside.now in
    let i : ℕ = c.loop-literal.literal-index in
    let told = c.in_ok-keep.ensures in
    let read : c.literal-item.result ≡ get_or aside i (pos 0) = c.literal-item.is ∙ get_or_default aside i c.literal-item.result (pos 0) c.loop-literal-test.true in
    record {
      all = below_more (λ k. IsMarked c.args.marks.now (nat_abs (get_or aside k (pos 0))) → Contains c.keep.new.kept.items (get_or aside k (pos 0))) i
          (λ k h marked. told.more (get_or aside k (pos 0)) (c.loop-literal.invariant.all k h marked))
          (subst (λ x. IsMarked c.args.marks.now (nat_abs x) → Contains c.keep.new.kept.items x) read told.here);
      part = λ m h. elim (told.part m h) [
        | inl before ↦ (let (k, b, e, marked) = c.loop-literal.invariant.part m before in (k, omega (arith, b), e, marked))
        | inr (e, marked) ↦ (i, omega arith, sym read ∙ e, marked)
      ];
      apart = λ distinct. told.apart (c.loop-literal.invariant.apart distinct) (λ m h same.
          let (k, b, e, marked) = c.loop-literal.invariant.part m h in
          distinct k i b c.loop-literal-test.true (ap nat_abs e ∙ same ∙ ap nat_abs read));
    }

pub returns-clause-all : goal.returns-clause-all
returns-clause-all c = λ m (k, h, e) marked.
    let at : get_or c.args.aside.now k (pos 0) ≡ m = get_or_default c.args.aside.now k (pos 0) m h ∙ e in
    subst (Contains c.loop-literal.kept.items) at (c.loop-literal.invariant.all k (omega (arith, h)) (subst (λ x. IsMarked c.args.marks.now (nat_abs x)) (sym at) marked))

pub returns-clause-part : goal.returns-clause-part
returns-clause-part c = λ m h.
    let (k, b, e, marked) = c.loop-literal.invariant.part m h in
    let within : k < length c.args.aside.now = omega (arith, b) in
    ((k, within, get_or_default c.args.aside.now k m (pos 0) within ∙ e), marked)
