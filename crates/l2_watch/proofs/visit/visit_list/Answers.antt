use Rattle.std.proofs.Common.{◌≡◌, ◌<◌, sym, subst, ◌∙◌, ap, inr, ℕ, get_or, set, take, length, [], arith, List}
use Rattle.std.specs.Prelude.{ℤ, Contains}
use Rattle.std.proofs.lemmas.List.{get_or-map, length-set, length-map, map-set}
use Rattle.l2_cnf.specs.Trail.{AreOver}
use Rattle.l2_watch.specs.declared.entry.Entry.{Entry}
use Rattle.l2_watch.specs.Visit.{AreGuarded, ArePairs, indices_of}
use Rattle.l2_watch.specs.Handled.{IsHandled}
use Rattle.l2_watch.specs.declared.visit.Step.TheVariants.{Keeps, Moved}
use Rattle.l2_watch.proofs.Visits.{handled_consistent, visited_keeps, visited_moved, visited_listed, visited_gap, visited_all, visited_done, parts_then}
use Rattle.l2_watch.proofs.Entries.{entries_set, entries_take, entries_gap}
use Rattle.l2_watch.proofs.Pasts.{IsGrown-then, grown_part}
use Rattle.l2_watch.proofs.visit.visit_list.Goals as goal
use Rattle.l2_watch.proofs.visit.visit_list.Goals.{in-Keeps, in-Moved, After-handle}

pub loop-i-preserved : goal.loop-i-preserved
loop-i-preserved c =
    let clauses : List (List ℤ) = c.args.clauses.now in
    let list : List Entry = c.loop-i.list.items in
    let xs : List ℕ = indices_of list in
    let i : ℕ = c.loop-i.i in
    let kept : ℕ = c.loop-i.kept in
    let there : i < length list = omega arith in
    let within : i < length xs = omega (arith, there, length-map list (λ e. e.clause)) in
    let r : ℕ = c.index-entry.result.now.clause in
    let read : r ≡ get_or xs i 0 = ap (λ e. e.clause) c.index-entry.ensures ∙ sym (get_or-map (λ e. e.clause) list i c.index-entry.result.now 0 there) in
    let old : List ℤ = c.loop-i.history.literals in
    let new : List ℤ = c.handle.new.history.literals in
    let before : List (ℤ × ℤ) = c.loop-i.pairs.items in
    let after : List (ℤ × ℤ) = c.handle.new.pairs.items in
    let handled : IsHandled clauses old new before after c.args.a r c.in_ok-blocker.field-0 = c.in_ok-blocker.ensures.handled in
    let seen : take c.args.seen old ≡ take c.args.seen c.args.history.now.literals = grown_part clauses c.args.history.now c.loop-i.history c.args.seen c.loop-i.invariant.grown c.requires.seen in
    let vars : c.loop-i.history.variables ≡ c.args.history.now.variables = c.loop-i.invariant.grown.variables in
    record {
      kept = elim c.match-branch-2.branch [ in-Keeps w ↦ omega (arith, w.kept-is, c.loop-i.invariant.kept) | in-Moved w ↦ omega (arith, w.kept-is, c.loop-i.invariant.kept) ];
      len = elim c.match-branch-2.branch [ in-Keeps w ↦ (rw w.list-is (length-set list kept _ ∙ c.loop-i.invariant.len)) | in-Moved w ↦ (rw w.list-is c.loop-i.invariant.len) ];
      grown = IsGrown-then clauses c.args.history.now c.loop-i.history c.handle.new.history c.loop-i.invariant.grown c.handle.ensures.grown;
      consistent = handled_consistent clauses c.loop-i.history.variables old new before after c.args.a r c.in_ok-blocker.field-0 (λ x h. subst (λ n. AreOver n x) (sym vars) (c.loop-i.invariant.pairs.over x h)) c.loop-i.invariant.consistent handled;
      lists = omega (arith, c.handle.ensures.lists, c.loop-i.invariant.lists);
      pairs = subst (λ n. ArePairs clauses n after) vars c.handle.ensures.pairs;
      found = c.handle.ensures.found;
      guarded = subst (λ s. AreGuarded clauses after s new) seen c.handle.ensures.guarded;
      parts = parts_then clauses c.args.history.now c.loop-i.history c.args.pairs.now.items before after c.loop-i.invariant.grown c.loop-i.invariant.parts c.handle.ensures.parts;
      visited = elim c.match-branch-2.branch [
        | in-Keeps w ↦
            let b : ℤ = w.in-Keeps.blocker in
            let now : indices_of (set list kept (record { blocker = b; clause = r })) ≡ set xs kept r = map-set (λ e. e.clause) list kept (record { blocker = b; clause = r }) in
            rw (w.list-is, w.kept-is, now, read)
            (visited_keeps clauses old new before after c.args.a b xs i kept within c.loop-i.invariant.kept
            (subst (λ k. IsHandled clauses old new before after c.args.a k (Keeps b)) read (subst (IsHandled clauses old new before after c.args.a r) w.in-Keeps.is handled)) c.loop-i.invariant.visited)
        | in-Moved w ↦ (rw (w.list-is, w.kept-is)
            (visited_moved clauses old new before after c.args.a xs i kept within c.loop-i.invariant.pairs.count
            (subst (λ k. IsHandled clauses old new before after c.args.a k Moved) read (subst (IsHandled clauses old new before after c.args.a r) w.in-Moved.is handled)) c.loop-i.invariant.visited))
      ];
      entered = c.handle.ensures.entered;
      entries = elim c.match-branch-2.branch [
        | in-Keeps w ↦
            let b : ℤ = w.in-Keeps.blocker in
            let is : IsHandled clauses old new before after c.args.a r (Keeps b) = subst (IsHandled clauses old new before after c.args.a r) w.in-Keeps.is handled in
            rw w.list-is (entries_set clauses list kept (record { blocker = b; clause = r }) c.loop-i.invariant.entries (is.1, inr is.3))
        | in-Moved w ↦ (rw w.list-is c.loop-i.invariant.entries)
      ];
    }

pub handle-requires-clause-entry : goal.handle-requires-clause-entry
handle-requires-clause-entry c = c.loop-i.invariant.entries c.index-entry.result.now (c.loop-i.i, omega arith, sym c.index-entry.ensures)

pub returns-in_err-blocker-clause-listed : goal.returns-in_err-blocker-clause-listed
returns-in_err-blocker-clause-listed c =
    let list : List Entry = c.loop-i.list.items in
    rw c.in_err-blocker.ensures.same.1 (visited_listed c.args.clauses.now c.loop-i.pairs.items c.loop-i.history.literals c.args.a (indices_of list) c.loop-i.i c.loop-i.kept c.loop-i.invariant.visited (omega (arith, c.loop-i.invariant.kept, length-map list (λ e. e.clause))))

pub returns-in-Conflict-clause-listed : goal.returns-in-Conflict-clause-listed
returns-in-Conflict-clause-listed c =
    let list : List Entry = c.loop-i.list.items in
    let handled = subst (IsHandled c.args.clauses.now c.loop-i.history.literals c.handle.new.history.literals c.loop-i.pairs.items c.handle.new.pairs.items c.args.a c.index-entry.result.now.clause) c.in-Conflict.is c.in_ok-blocker.ensures.handled in
    rw handled.2 (visited_gap c.args.clauses.now c.loop-i.pairs.items c.loop-i.history.literals c.args.a list c.close_gap.new.list.items c.loop-i.i c.loop-i.kept c.close_gap.ensures c.loop-i.invariant.visited)

pub returns-in-Conflict-clause-entries : goal.returns-in-Conflict-clause-entries
returns-in-Conflict-clause-entries c = rw c.close_gap.ensures (entries_gap c.args.clauses.now c.loop-i.list.items c.loop-i.kept c.loop-i.i (omega (arith, c.loop-i.invariant.kept)) (omega arith) c.loop-i.invariant.entries)

pub returns-in-Conflict-clause-conflict : goal.returns-in-Conflict-clause-conflict
returns-in-Conflict-clause-conflict c = λ r e.
    let same : c.index-entry.result.now.clause ≡ r = cc in
    let handled = subst (IsHandled c.args.clauses.now c.loop-i.history.literals c.handle.new.history.literals c.loop-i.pairs.items c.handle.new.pairs.items c.args.a c.index-entry.result.now.clause) c.in-Conflict.is c.in_ok-blocker.ensures.handled in
    (omega (arith, handled.0, same), λ m h. rw handled.1 (handled.3 m (subst (λ k. Contains (get_or c.args.clauses.now k []) m) (sym same) h)))

pub returns-clause-none : goal.returns-clause-none
returns-clause-none c = λ e.
    let list : List Entry = c.loop-i.list.items in
    rw c.truncate.ensures.items (visited_all c.args.clauses.now c.loop-i.pairs.items c.loop-i.history.literals c.args.a list c.loop-i.i c.loop-i.kept (omega arith) c.loop-i.invariant.visited)

pub returns-clause-listed : goal.returns-clause-listed
returns-clause-listed c =
    let list : List Entry = c.loop-i.list.items in
    rw c.truncate.ensures.items (visited_done c.args.clauses.now c.loop-i.pairs.items c.loop-i.history.literals c.args.a (indices_of (take c.loop-i.kept list)) (visited_all c.args.clauses.now c.loop-i.pairs.items c.loop-i.history.literals c.args.a list c.loop-i.i c.loop-i.kept (omega arith) c.loop-i.invariant.visited))

pub returns-clause-entries : goal.returns-clause-entries
returns-clause-entries c = rw c.truncate.ensures.items (entries_take c.args.clauses.now c.loop-i.list.items c.loop-i.kept (omega (arith, c.loop-i.invariant.kept)) c.loop-i.invariant.entries)
