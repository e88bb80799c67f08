use Rattle.std.proofs.Common.{◌≡◌, ◌++◌, ◌∷◌, [], sym, ◌∙◌, ap, subst, length, arith}
use Rattle.std.specs.Prelude.{Contains}
use Rattle.std.proofs.lemmas.List.{map_push, length_push}
use Rattle.l2_watch.specs.Visit.{items_of, entries_of, indices_of, list_of, AreAllEntries}
use Rattle.l2_watch.proofs.Moves.{widened_more}
use Rattle.l2_watch.proofs.Entries.{all_widened}
use Rattle.l2_watch.proofs.attach.widen.Goals as goal

pub loop-alloc-init : goal.loop-alloc-init
loop-alloc-init c = record { more = λ l r h. h; longer = omega arith; entered = λ clauses h. h }

pub loop-alloc-preserved : goal.loop-alloc-preserved
loop-alloc-preserved c =
    let old = c.loop-alloc.lists.items in
    let new : items_of c.push.new.self.items ≡ items_of old ++ indices_of c.new.result.items ∷ [] = ap items_of c.in_ok-push.ensures.items ∙ map_push (λ v. indices_of v.items) old c.new.result in
    let lists : entries_of c.push.new.self.items ≡ entries_of old ++ c.new.result.items ∷ [] = ap entries_of c.in_ok-push.ensures.items ∙ map_push (λ v. v.items) old c.new.result in
    record {
      more = λ l r h. subst (λ x. Contains (list_of x l) r) (sym new) (widened_more (items_of old) (indices_of c.new.result.items) l r (c.loop-alloc.invariant.more l r h));
      longer = omega (arith, ap length c.in_ok-push.ensures.items, length_push old c.new.result, c.loop-alloc.invariant.longer);
      entered = λ clauses h. subst (AreAllEntries clauses) (sym lists) (all_widened clauses (entries_of old) c.new.result.items c.new.ensures.items (c.loop-alloc.invariant.entered clauses h));
    }

pub returns-in_err-push-clause-more : goal.returns-in_err-push-clause-more
returns-in_err-push-clause-more c = λ l r h. subst (λ x. Contains (list_of (items_of x) l) r) (sym c.in_err-push.ensures.items) (c.loop-alloc.invariant.more l r h)

pub returns-in_err-push-clause-entered : goal.returns-in_err-push-clause-entered
returns-in_err-push-clause-entered c = λ clauses h. subst (λ x. AreAllEntries clauses (entries_of x)) (sym c.in_err-push.ensures.items) (c.loop-alloc.invariant.entered clauses h)

pub returns-clause-entered : goal.returns-clause-entered
returns-clause-entered c = c.loop-alloc.invariant.entered
