use Rattle.std.proofs.Common.{◌≡◌, ◌≢◌, ◌<◌, ◌∙◌, ℕ, length, get_or, sym, ap, arith, subst, inl, inr}
use Rattle.std.specs.Prelude.{pos, nat_abs}
use Rattle.std.proofs.lemmas.List.{get_or_default}
use borrow.Author.Count.{below_more}
use Rattle.l2_cdcl.specs.Analysis.{IsOpen}
use Rattle.l2_cdcl.proofs.Analyses.{open_more, more_then}
use Rattle.l2_cdcl.proofs.analysis.mark_others.Goals as goal

pub loop-literal-preserved : goal.loop-literal-preserved
loop-literal-preserved c =
    let clause = c.args.clause.now in
    let i : ℕ = c.loop-literal.literal-index in
    let told = c.in_ok-mark_one.ensures in
    let trail = c.args.watch.now.past.literals in
    let marks = c.mark_one.new.marks in
    let aside = c.mark_one.new.aside.items in
    let read : c.literal-item.result ≡ get_or clause i (pos 0) = c.literal-item.is ∙ get_or_default clause i c.literal-item.result (pos 0) c.loop-literal-test.true in
    record {
      len = told.len ∙ c.loop-literal.invariant.len;
      more = more_then c.args.marks.now c.loop-literal.marks marks c.args.aside.now.items c.loop-literal.aside.items aside c.loop-literal.invariant.more told.more;
      put = told.put;
      opened = below_more (λ k. get_or clause k (pos 0) ≢ c.args.but → IsOpen trail c.args.at.low c.args.at.start (length trail) marks aside (get_or clause k (pos 0))) i
          (λ k h ne. open_more trail c.args.at.low c.args.at.start (length trail) c.loop-literal.marks marks c.loop-literal.aside.items aside told.more (get_or clause k (pos 0)) (c.loop-literal.invariant.opened k h ne))
          (subst (λ x. x ≢ c.args.but → IsOpen trail c.args.at.low c.args.at.start (length trail) marks aside x) read told.open);
      from = λ v h. elim (told.from v h) [
        | inl before ↦ elim (c.loop-literal.invariant.from v before) [
          | inl old ↦ inl old
          | inr (k, b, e) ↦ inr (k, omega (arith, b), e)
        ]
        | inr here ↦ inr (i, omega arith, ap nat_abs (sym read) ∙ here)
      ];
    }

pub returns-clause-from : goal.returns-clause-from
returns-clause-from c = λ v h. elim (c.loop-literal.invariant.from v h) [
  | inl old ↦ inl old
  | inr (k, b, e) ↦
      let within : k < length c.args.clause.now = omega (arith, b) in
      inr (get_or c.args.clause.now k (pos 0), (k, within, get_or_default c.args.clause.now k _ _ within), e)
]

pub returns-clause-open : goal.returns-clause-open
returns-clause-open c = λ m (k, h, e) ne.
    let at : get_or c.args.clause.now k (pos 0) ≡ m = get_or_default c.args.clause.now k (pos 0) m h ∙ e in
    subst (IsOpen c.args.watch.now.past.literals c.args.at.low c.args.at.start (length c.args.watch.now.past.literals) c.loop-literal.marks c.loop-literal.aside.items) at
    (c.loop-literal.invariant.opened k (omega (arith, h)) (λ s. ne (sym at ∙ s)))
