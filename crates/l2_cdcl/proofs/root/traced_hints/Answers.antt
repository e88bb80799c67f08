use Rattle.std.proofs.Common.{◌≡◌, ◌∙◌, ◌++◌, ◌∷◌, ◌+◌, [], length, reverse, sym, ap, arith, subst}
use Rattle.std.specs.Prelude.{Contains}
use Rattle.l2_cdcl.specs.Chain.{Chain, IsFrom, IsMarkedBefore}
use Rattle.l2_cdcl.proofs.Roots.{root_begin, root_end, clause_over}
use Rattle.l2_cdcl.proofs.root.traced_hints.Goals as goal

pub mark_all-requires : goal.mark_all-requires
mark_all-requires c = λ m h. (let most = clause_over c.args.watch.now c.args.conflict c.clause.result.now c.facts.ensures c.requires.within c.clause.ensures m h in omega (arith, most, c.in_ok-marks.ensures))

pub loop-k-init : goal.loop-k-init
loop-k-init c =
    let b = c.args.watch.now in
    let trail = b.past.literals in
    let marks = c.mark_all.new.marks in
    record {
      most = omega (arith, c.len-k.ensures);
      room = omega (arith, c.in_ok-marks.ensures, c.mark_all.ensures.len);
      chain = subst (λ k. Chain b.clauses (IsMarkedBefore trail k marks) (IsFrom trail k) (reverse c.push.new.self.items)) (sym c.len-k.ensures)
          (subst (λ x. Chain b.clauses (IsMarkedBefore trail (length trail) marks) (IsFrom trail (length trail)) (reverse x)) (sym (c.in_ok-push.ensures.items ∙ ap (λ x. x ++ (c.args.conflict + 1) ∷ []) c.new-hints.ensures.items))
          (root_begin b.clauses trail c.args.conflict marks c.requires.within c.requires.false_ones (λ m h. c.mark_all.ensures.all m (subst (λ x. Contains x m) (sym c.clause.ensures) h))));
    }

pub returns : goal.returns
returns c =
    let b = c.args.watch.now in
    let trail = b.past.literals in
    let none : c.loop-k.k ≡ 0 = omega arith in
    root_end b.clauses trail c.loop-k.marks (reverse c.loop-k.hints.items) (subst (λ k. Chain b.clauses (IsMarkedBefore trail k c.loop-k.marks) (IsFrom trail k) (reverse c.loop-k.hints.items)) none c.loop-k.invariant.chain)
