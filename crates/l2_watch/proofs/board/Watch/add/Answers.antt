use Rattle.std.proofs.Common.{subst, inl, inr, ◌≡◌, ◌≤◌, ◌*◌, ◌+◌, sym, ap, ◌∙◌, arith, length, false, ◌++◌, ◌∷◌, []}
use Rattle.std.specs.Prelude.{nat_abs, Contains}
use Rattle.l2_watch.proofs.Entries.{items_length}
use Rattle.l2_cnf.specs.Trail.{AreOver}
use Rattle.l2_watch.specs.Visit.{items_of}
use Rattle.l2_watch.specs.Board.{AreStored}
use Rattle.l2_watch.proofs.Boards.{IsKept-more, IsKept-attach, AreStored-attach, code_in, pair_over, over_more}
use Rattle.l2_watch.proofs.Singles.{singles_more, singles_push, single_pair}
use Rattle.l2_watch.proofs.board.Watch.add.Goals as goal
use Rattle.l2_watch.proofs.board.Watch.add.Goals.{After-self}

room : (c : After-self) → 2 * c.self.inside.variables + 2 ≤ length c.self.inside.lists.items
room c = omega (arith, c.self.invariant.0.stored.room, items_length c.self.inside.lists.items)

within : (c : After-self) → c.greatest.result ≤ c.self.inside.variables
within c = omega (arith, c.in_ok-cover.ensures.over, ap (λ b. b.variables) c.self.view_is)

over : (c : After-self) → AreOver c.self.inside.variables c.args.clause.now
over c = over_more c.greatest.result c.self.inside.variables c.args.clause.now (within c) c.greatest.ensures.over

both : (c : After-self) → (nat_abs c.first_pair-a.result.0 ≤ c.self.inside.variables) × (nat_abs c.first_pair-a.result.1 ≤ c.self.inside.variables)
both c = pair_over c.self.inside.variables c.args.clause.now c.first_pair-a.result.0 c.first_pair-a.result.1 c.self.invariant.0.stored.some (over c) c.first_pair-a.ensures.pair c.first_pair-a.ensures.none

pub attach-requires-clause-first : goal.attach-requires-clause-first
attach-requires-clause-first c = (let d = (goal.at.attach-requires-clause-first c).After-self in code_in c.first_pair-a.result.0 c.self.inside.variables (length c.self.inside.lists.items) (both d).0 (room d))

pub attach-requires-clause-second : goal.attach-requires-clause-second
attach-requires-clause-second c = (let d = (goal.at.attach-requires-clause-second c).After-self in code_in c.first_pair-a.result.1 c.self.inside.variables (length c.self.inside.lists.items) (both d).1 (room d))

pub attach-requires-clause-first_small : goal.attach-requires-clause-first_small
attach-requires-clause-first_small c = (let d = (goal.at.attach-requires-clause-first_small c).After-self in omega (arith, (both d).0, c.self.invariant.0.stored.small))

pub attach-requires-clause-second_small : goal.attach-requires-clause-second_small
attach-requires-clause-second_small c = (let d = (goal.at.attach-requires-clause-second_small c).After-self in omega (arith, (both d).1, c.self.invariant.0.stored.small))

pub attach-requires-clause-stands : goal.attach-requires-clause-stands
attach-requires-clause-stands c = elim c.first_pair-a.ensures.pair [ inl none ↦ inl none | inr p ↦ inr (p.first, p.second) ]

pub attach-requires-clause-entered : goal.attach-requires-clause-entered
attach-requires-clause-entered c = c.self.invariant.1

pub invariant_of-self-in_err-attach : goal.invariant_of-self-in_err-attach
invariant_of-self-in_err-attach c =
    let was = c.self.inside in (
      rw ((c.in_err-attach.ensures.same).0, (c.in_err-attach.ensures.same).1)
          (IsKept-more was.clauses was.variables was.pairs.items (items_of was.lists.items) (items_of c.attach.new.lists.items) was.history was.levels.items was.seen was.ready c.self.invariant.0 c.attach.ensures.more
          (omega (arith, c.attach.ensures.len, items_length was.lists.items, items_length c.attach.new.lists.items))),
      c.attach.ensures.entered,
      rw c.in_err-attach.ensures.same.0 (singles_more was.clauses was.singles.items c.note_single.new.singles.items c.note_single.ensures.kept c.self.invariant.2),
    )

pub invariant_of-self-2 : goal.invariant_of-self-2
invariant_of-self-2 c =
    let was = c.self.inside in
    let d = (goal.at.invariant_of-self-2 c).After-self in
    let told = c.in_ok-attach.ensures in
    let idle : was.ready ≡ false = ap (λ b. b.ready) c.self.view_is ∙ c.cover.ensures.ready c.reset.ensures.ready in
    let stored : AreStored (was.clauses ++ c.args.clause.now ∷ []) was.variables (was.pairs.items ++ c.first_pair-a.result ∷ []) (items_of c.attach.new.lists.items) =
    AreStored-attach was.clauses was.variables was.pairs.items (items_of was.lists.items) (items_of c.attach.new.lists.items) c.args.clause.now c.first_pair-a.result c.self.invariant.0.stored (over d) c.first_pair-a.ensures.pair c.attach.ensures.more
    (items_length c.attach.new.lists.items ∙ c.attach.ensures.len ∙ sym (items_length was.lists.items)) told.found.0 told.found.1 in (
      IsKept-attach was.clauses c.attach.new.clauses was.variables was.pairs.items c.attach.new.pairs.items (items_of was.lists.items) (items_of c.attach.new.lists.items) was.history was.levels.items was.seen was.ready c.args.clause.now c.self.invariant.0 idle
          (rw (told.clauses, told.pairs) stored) told.clauses,
      c.attach.ensures.entered,
      rw told.clauses (singles_push was.clauses c.args.clause.now was.singles.items c.note_single.new.singles.items c.first_pair-a.result.0 c.first_pair-a.result.1 c.note_single.ensures.kept
          (λ e. subst (Contains c.note_single.new.singles.items) c.len-r.ensures.len (c.in_ok-note_single.ensures.noted e)) (single_pair c.args.clause.now c.first_pair-a.result.0 c.first_pair-a.result.1 c.first_pair-a.ensures.pair c.first_pair-a.ensures.none) c.self.invariant.2),
    )

pub invariant_of-self : goal.invariant_of-self
invariant_of-self c =
    let was = c.self.inside in
    (c.self.invariant.0, c.self.invariant.1, singles_more was.clauses was.singles.items c.note_single.new.singles.items c.note_single.ensures.kept c.self.invariant.2)
