use Rattle.std.proofs.Common.{◌≡◌, ◌≤◌, ◌+◌, ◌*◌, ◌++◌, ◌∷◌, [], sym, ap, ◌∙◌, arith, length, subst, inl, inr}
use Rattle.std.specs.Prelude.{Contains}
use Rattle.l2_watch.proofs.Entries.{items_length}
use Rattle.l2_cnf.specs.Trail.{AreOver}
use Rattle.l2_cnf.proofs.Laws.{same_variable}
use Rattle.l2_watch.specs.Visit.{items_of}
use Rattle.l2_watch.specs.Board.{IsLearnt, AreStored}
use Rattle.l2_watch.proofs.Boards.{IsKept-learn, IsKept-more, AreStored-attach, learnt_pair, code_in}
use Rattle.l2_watch.proofs.Singles.{singles_more, singles_push}
use Rattle.l2_watch.proofs.board.Watch.learn.Goals as goal
use Rattle.l2_watch.proofs.board.Watch.learn.Goals.{After-len-r}

room : (c : After-len-r) → 2 * c.self.inside.variables + 2 ≤ length c.self.inside.lists.items
room c = omega (arith, c.self.invariant.0.stored.room, items_length c.self.inside.lists.items)

over : (c : After-len-r) → AreOver c.self.inside.variables c.args.clause.now
over c = subst (λ n. AreOver n c.args.clause.now) (sym (ap (λ b. b.variables) c.self.view_is)) c.requires.over

learnt : (c : After-len-r) → IsLearnt c.self.inside.history.literals c.self.inside.levels.items c.args.clause.now c.args.u c.args.w
learnt c = subst (λ b. IsLearnt b.past.literals b.levels c.args.clause.now c.args.u c.args.w) (sym c.self.view_is) c.requires.learnt

pub attach-requires-clause-first : goal.attach-requires-clause-first
attach-requires-clause-first c = (let d = (goal.at.attach-requires-clause-first c).After-len-r in code_in c.args.u c.self.inside.variables (length c.self.inside.lists.items) ((over d c.args.u (learnt d).first).1) (room d))

pub attach-requires-clause-second : goal.attach-requires-clause-second
attach-requires-clause-second c = (let d = (goal.at.attach-requires-clause-second c).After-len-r in code_in c.args.w c.self.inside.variables (length c.self.inside.lists.items) ((over d c.args.w (learnt d).second).1) (room d))

pub attach-requires-clause-first_small : goal.attach-requires-clause-first_small
attach-requires-clause-first_small c = (let d = (goal.at.attach-requires-clause-first_small c).After-len-r in omega (arith, (over d c.args.u (learnt d).first).1, c.self.invariant.0.stored.small))

pub attach-requires-clause-second_small : goal.attach-requires-clause-second_small
attach-requires-clause-second_small c = (let d = (goal.at.attach-requires-clause-second_small c).After-len-r in omega (arith, (over d c.args.w (learnt d).second).1, c.self.invariant.0.stored.small))

pub attach-requires-clause-stands : goal.attach-requires-clause-stands
attach-requires-clause-stands c = (let d = (goal.at.attach-requires-clause-stands c).After-len-r in inr ((learnt d).first, (learnt d).second))

pub attach-requires-clause-entered : goal.attach-requires-clause-entered
attach-requires-clause-entered c = c.self.invariant.1

pub invariant_of-self-in_err-attach : goal.invariant_of-self-in_err-attach
invariant_of-self-in_err-attach c =
    let was = c.self.inside in (
      rw ((c.in_err-attach.ensures.same).0, (c.in_err-attach.ensures.same).1)
          (IsKept-more was.clauses was.variables was.pairs.items (items_of was.lists.items) (items_of c.attach.new.lists.items) was.history was.levels.items was.seen was.ready c.self.invariant.0 c.attach.ensures.more
          (omega (arith, c.attach.ensures.len, items_length was.lists.items, items_length c.attach.new.lists.items))),
      c.attach.ensures.entered,
      rw c.in_err-attach.ensures.same.0 (singles_more was.clauses was.singles.items c.note_single.new.singles.items c.note_single.ensures.kept c.self.invariant.2),
    )

pub push-requires-clause-over : goal.push-requires-clause-over
push-requires-clause-over c =
    let d = (goal.at.push-requires-clause-over c).After-len-r in
    let vars : c.self.inside.history.variables ≡ c.self.inside.variables = (c.self.invariant.0.watched (ap (λ b. b.ready) c.self.view_is ∙ c.requires.ready)).same in
    omega (arith, vars, (over d c.args.u (learnt d).first).1)

pub push-requires-clause-new : goal.push-requires-clause-new
push-requires-clause-new c = λ m h e.
    let d = (goal.at.push-requires-clause-new c).After-len-r in
    elim (same_variable m c.args.u e) [
      | inl s ↦ (learnt d).unset (subst (Contains c.self.inside.history.literals) s h)
      | inr s ↦ (learnt d).live (subst (Contains c.self.inside.history.literals) s h)
    ]

pub invariant_of-self-2 : goal.invariant_of-self-2
invariant_of-self-2 c =
    let was = c.self.inside in
    let d = (goal.at.invariant_of-self-2 c).After-len-r in
    let told = c.in_ok-attach.ensures in
    let stored : AreStored (was.clauses ++ c.args.clause.now ∷ []) was.variables (was.pairs.items ++ (c.args.u, c.args.w) ∷ []) (items_of c.attach.new.lists.items) =
    AreStored-attach was.clauses was.variables was.pairs.items (items_of was.lists.items) (items_of c.attach.new.lists.items) c.args.clause.now (c.args.u, c.args.w) c.self.invariant.0.stored (over d)
    (inr (learnt_pair was.history.literals was.levels.items c.args.clause.now c.args.u c.args.w (learnt d))) c.attach.ensures.more
    (items_length c.attach.new.lists.items ∙ c.attach.ensures.len ∙ sym (items_length was.lists.items)) told.found.0 told.found.1 in (
      IsKept-learn was.clauses c.attach.new.clauses was.variables was.pairs.items c.attach.new.pairs.items (items_of was.lists.items) (items_of c.attach.new.lists.items) was.history c.push.new.self was.levels.items was.seen was.ready c.args.clause.now c.args.u c.args.w c.self.invariant.0
          (ap (λ b. b.seen) c.self.view_is ∙ c.requires.seen ∙ sym (ap (λ b. length b.past.literals) c.self.view_is)) (learnt d)
          (rw (told.clauses, told.pairs) stored) c.len-len.ensures.count told.clauses told.pairs c.push.ensures.literals
          (c.push.ensures.reasons ∙ ap (λ n. was.history.reasons ++ (n + 1) ∷ []) c.len-r.ensures.len) c.push.ensures.variables,
      c.attach.ensures.entered,
      rw told.clauses (singles_push was.clauses c.args.clause.now was.singles.items c.note_single.new.singles.items c.args.u c.args.w c.note_single.ensures.kept
          (λ e. subst (Contains c.note_single.new.singles.items) c.len-r.ensures.len (c.in_ok-note_single.ensures.noted e)) (λ single. single c.args.u c.args.w (learnt d).first (learnt d).second) c.self.invariant.2),
    )

pub invariant_of-self : goal.invariant_of-self
invariant_of-self c =
    let was = c.self.inside in
    (c.self.invariant.0, c.self.invariant.1, singles_more was.clauses was.singles.items c.note_single.new.singles.items c.note_single.ensures.kept c.self.invariant.2)
