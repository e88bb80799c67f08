use Rattle.std.proofs.Common.{◌≡◌, ◌≤◌, ◌<◌, ◌+◌, [], ℕ, sym, ap, ◌∙◌, arith, length, true, subst, get_or, set, take, Ok, None}
use Rattle.std.specs.Prelude.{pos, nat_abs, neg_ℤ, Contains}
use Rattle.std.proofs.lemmas.List.{map-set, get_or-map, get_or_default, length-set}
use lib.IntN.{neg_ℤ-neg_ℤ}
use Rattle.l2_cnf.specs.Lit.{code_of}
use Rattle.l2_cnf.proofs.Laws.{nat_abs-neg_ℤ}
use Rattle.l2_watch.specs.Visit.{items_of, entries_of, indices_of, list_of, ArePairs, AreFound, AreVisited, AreGuarded, AreEntries, AreAllEntries, HasSingles}
use Rattle.l2_watch.specs.Board.{IsKept, AreWatched}
use Rattle.l2_watch.proofs.Moves.{code_within}
use Rattle.l2_watch.proofs.Entries.{items_length, entered_with, no_entry}
use Rattle.l2_watch.proofs.Pasts.{grown_part, part_same}
use Rattle.l2_watch.proofs.Rounds.{found_without, visited_none, guarded_next}
use Rattle.l2_watch.proofs.Boards.{kept_round, apart_consistent, full_pair}
use Rattle.l2_watch.proofs.board.Watch.round.Goals as goal
use Rattle.l2_watch.proofs.board.Watch.round.Goals.{After-code-code, After-replace-list, After-visit_list-answer}

ready : (c : After-code-code) → c.self.inside.ready ≡ true
ready c = ap (λ b. b.ready) c.self.view_is ∙ c.requires.ready

watched : (c : After-code-code) → AreWatched c.self.inside.clauses c.self.inside.variables c.self.inside.pairs.items c.self.inside.history c.self.inside.levels.items c.self.inside.seen
watched c = c.self.invariant.0.watched (ready c)

more : (c : After-code-code) → c.self.inside.seen < length c.self.inside.history.literals
more c = omega (arith, c.requires.more, ap (λ b. b.seen) c.self.view_is, ap (λ b. length b.past.literals) c.self.view_is)

-- the literal that became false
away : (c : After-code-code) → get_or c.self.inside.history.literals c.self.inside.seen (pos 0) ≡ neg_ℤ c.negated-a.result
away c = sym (ap neg_ℤ c.negated-a.ensures ∙ neg_ℤ-neg_ℤ c.get.result ∙ c.get.ensures)

there : (c : After-code-code) → Contains c.self.inside.history.literals (neg_ℤ c.negated-a.result)
there c = (c.self.inside.seen, more c, get_or_default c.self.inside.history.literals c.self.inside.seen (neg_ℤ c.negated-a.result) (pos 0) (more c) ∙ away c)

within : (c : After-code-code) → nat_abs c.negated-a.result ≤ c.self.inside.variables
within c = omega (arith, (c.len-len.ensures.over (neg_ℤ c.negated-a.result) (there c)).1, nat_abs-neg_ℤ c.negated-a.result, c.self.invariant.0.within)

fits : (c : After-code-code) → c.code-code.result < length c.self.inside.lists.items
fits c = omega (arith, c.code-code.ensures.code, code_within c.negated-a.result c.self.inside.variables (within c), c.self.invariant.0.stored.room, items_length c.self.inside.lists.items)

pub index_mut-requires : goal.index_mut-requires
index_mut-requires c = omega (arith, fits (goal.at.index_mut-requires c).After-code-code)

pub visit_list-answer-requires-clause-false_one : goal.visit_list-answer-requires-clause-false_one
visit_list-answer-requires-clause-false_one c = there (goal.at.visit_list-answer-requires-clause-false_one c).After-code-code

pub visit_list-answer-requires-clause-consistent : goal.visit_list-answer-requires-clause-consistent
visit_list-answer-requires-clause-consistent c = apart_consistent c.self.inside.history.variables c.self.inside.history.literals c.len-len.ensures.over c.len-len.ensures.apart

pairs_are : (c : After-code-code) → ArePairs c.self.inside.clauses c.self.inside.history.variables c.self.inside.pairs.items
pairs_are c =
    let was = c.self.inside in
    let stored = c.self.invariant.0.stored in
    subst (λ n. ArePairs was.clauses n was.pairs.items) (sym (watched c).same) (record { count = stored.count; over = stored.over; pair = full_pair was.clauses was.variables was.pairs.items (items_of was.lists.items) stored (watched c).full })

pub visit_list-answer-requires-clause-pairs : goal.visit_list-answer-requires-clause-pairs
visit_list-answer-requires-clause-pairs c = pairs_are (goal.at.visit_list-answer-requires-clause-pairs c).After-code-code

pub visit_list-answer-requires-clause-found : goal.visit_list-answer-requires-clause-found
visit_list-answer-requires-clause-found c =
    let was = c.self.inside in
    let new : items_of (set was.lists.items c.code-code.result c.replace-list.new.dest) ≡ set (items_of was.lists.items) (code_of c.negated-a.result) [] =
    map-set (λ v. indices_of v.items) was.lists.items c.code-code.result c.replace-list.new.dest ∙ ap (λ x. set (items_of was.lists.items) c.code-code.result (indices_of x)) (ap (λ v. v.items) c.replace-list.ensures.after ∙ c.new.ensures.items) ∙ ap (λ k. set (items_of was.lists.items) k []) c.code-code.ensures.code in
    subst (λ x. AreFound was.pairs.items x c.negated-a.result) (sym new) (found_without was.pairs.items (items_of was.lists.items) c.negated-a.result c.self.invariant.0.stored.found)

pub visit_list-answer-requires-clause-visited : goal.visit_list-answer-requires-clause-visited
visit_list-answer-requires-clause-visited c =
    let was = c.self.inside in
    let d = (goal.at.visit_list-answer-requires-clause-visited c).After-code-code in
    let taken : list_of (items_of was.lists.items) c.negated-a.result ≡ indices_of c.replace-list.result.items =
    ap (λ k. get_or (items_of was.lists.items) k []) (sym c.code-code.ensures.code) ∙ get_or-map (λ v. indices_of v.items) was.lists.items c.code-code.result c.index_mut.result.now [] (fits d) ∙ ap (λ v. indices_of v.items) (sym c.index_mut.ensures.value) ∙ ap (λ v. indices_of v.items) (sym c.replace-list.ensures.value) in
    subst (λ x. AreVisited was.clauses was.pairs.items was.history.literals c.negated-a.result [] x) taken (visited_none was.clauses was.pairs.items (items_of was.lists.items) was.history.literals c.negated-a.result c.self.invariant.0.stored.found)

pub visit_list-answer-requires-clause-small : goal.visit_list-answer-requires-clause-small
visit_list-answer-requires-clause-small c = omega (arith, c.self.invariant.0.within, c.self.invariant.0.stored.small)

pub visit_list-answer-requires-clause-entered : goal.visit_list-answer-requires-clause-entered
visit_list-answer-requires-clause-entered c =
    let was = c.self.inside in
    let none : c.replace-list.new.dest.items ≡ [] = ap (λ v. v.items) c.replace-list.ensures.after ∙ c.new.ensures.items in
    entered_with was.clauses was.lists.items c.code-code.result c.replace-list.new.dest c.self.invariant.1 (rw none (no_entry was.clauses))

pub visit_list-answer-requires-clause-entries : goal.visit_list-answer-requires-clause-entries
visit_list-answer-requires-clause-entries c =
    let was = c.self.inside in
    let d = (goal.at.visit_list-answer-requires-clause-entries c).After-code-code in
    let taken : get_or (entries_of was.lists.items) c.code-code.result [] ≡ c.replace-list.result.items =
    get_or-map (λ v. v.items) was.lists.items c.code-code.result c.index_mut.result.now [] (fits d) ∙ ap (λ v. v.items) (sym c.index_mut.ensures.value) ∙ ap (λ v. v.items) (sym c.replace-list.ensures.value) in
    subst (AreEntries was.clauses) taken (c.self.invariant.1 c.code-code.result)

-- the lists were as many
same_count : (c : After-visit_list-answer) → length (items_of c.visit_list-answer.new.lists.items) ≡ length (items_of c.self.inside.lists.items)
same_count c = items_length c.visit_list-answer.new.lists.items ∙ c.visit_list-answer.ensures.lists ∙ length-set c.self.inside.lists.items c.code-code.result c.replace-list.new.dest ∙ sym (items_length c.self.inside.lists.items)

pub index_mut-requires-2 : goal.index_mut-requires-2
index_mut-requires-2 c =
    let d = (goal.at.index_mut-requires-2 c).After-visit_list-answer in
    omega (arith, fits (goal.at.index_mut-requires-2 c).After-code-code, same_count d, items_length c.visit_list-answer.new.lists.items, items_length c.self.inside.lists.items)

-- with the list put back
back_is : (c : After-visit_list-answer) → items_of (set c.visit_list-answer.new.lists.items c.code-code.result c.visit_list-answer.new.list) ≡ set (items_of c.visit_list-answer.new.lists.items) (code_of c.negated-a.result) (indices_of c.visit_list-answer.new.list.items)
back_is c = map-set (λ v. indices_of v.items) c.visit_list-answer.new.lists.items c.code-code.result c.visit_list-answer.new.list ∙ ap (λ k. set (items_of c.visit_list-answer.new.lists.items) k (indices_of c.visit_list-answer.new.list.items)) c.code-code.ensures.code

-- what is kept where so many literals were looked at
kept : (c : After-visit_list-answer) → c.self.inside.ready ≡ true → nat_abs c.negated-a.result ≤ c.self.inside.variables → (seen : ℕ) → seen ≤ length c.visit_list-answer.new.history.literals → AreGuarded c.self.inside.clauses c.visit_list-answer.new.pairs.items (take seen c.visit_list-answer.new.history.literals) c.visit_list-answer.new.history.literals
    → (IsKept c.self.inside.clauses c.self.inside.variables c.visit_list-answer.new.pairs.items (items_of (set c.visit_list-answer.new.lists.items c.code-code.result c.visit_list-answer.new.list)) c.visit_list-answer.new.history c.self.inside.levels.items seen c.self.inside.ready)
    × (AreAllEntries c.self.inside.clauses (entries_of (set c.visit_list-answer.new.lists.items c.code-code.result c.visit_list-answer.new.list)))
    × (HasSingles c.self.inside.clauses c.self.inside.singles.items)
kept c is over seen looked guarded =
    let was = c.self.inside in
    let now = c.visit_list-answer.new in (
      subst (λ x. IsKept was.clauses was.variables now.pairs.items x now.history was.levels.items seen was.ready) (sym (back_is c))
          (kept_round was.clauses was.variables was.pairs.items now.pairs.items (items_of was.lists.items) (items_of now.lists.items) (indices_of now.list.items) was.history now.history was.levels.items was.seen seen was.ready c.negated-a.result c.self.invariant.0 is over (same_count c)
          c.visit_list-answer.ensures.grown c.visit_list-answer.ensures.pairs c.visit_list-answer.ensures.found c.visit_list-answer.ensures.listed c.visit_list-answer.ensures.parts looked guarded),
      entered_with was.clauses now.lists.items c.code-code.result now.list c.visit_list-answer.ensures.entered c.visit_list-answer.ensures.entries,
      c.self.invariant.2,
    )

still : (c : After-visit_list-answer) → c.self.inside.seen < length c.self.inside.history.literals → (take c.self.inside.seen c.visit_list-answer.new.history.literals ≡ take c.self.inside.seen c.self.inside.history.literals) × (c.self.inside.seen < length c.visit_list-answer.new.history.literals)
still c h = (grown_part c.self.inside.clauses c.self.inside.history c.visit_list-answer.new.history c.self.inside.seen c.visit_list-answer.ensures.grown (omega (arith, h)), omega (arith, h, c.visit_list-answer.ensures.grown.longer))

guarded_still : (c : After-visit_list-answer) → c.self.inside.seen < length c.self.inside.history.literals → AreGuarded c.self.inside.clauses c.visit_list-answer.new.pairs.items (take c.self.inside.seen c.visit_list-answer.new.history.literals) c.visit_list-answer.new.history.literals
guarded_still c h = subst (λ t. AreGuarded c.self.inside.clauses c.visit_list-answer.new.pairs.items t c.visit_list-answer.new.history.literals) (sym (still c h).0) c.visit_list-answer.ensures.guarded

pub invariant_of-self-in-None : goal.invariant_of-self-in-None
invariant_of-self-in-None c =
    let d = (goal.at.invariant_of-self-in-None c).After-code-code in
    let e = (goal.at.invariant_of-self-in-None c).After-visit_list-answer in
    let now = c.visit_list-answer.new in
    let seen : ℕ = c.self.inside.seen in
    let here : get_or now.history.literals seen (pos 0) ≡ neg_ℤ c.negated-a.result =
    part_same (length c.self.inside.history.literals) c.self.inside.history.literals now.history.literals c.visit_list-answer.ensures.grown.literals seen (more d) ∙ away d in
    let none : c.visit_list-answer.result ≡ Ok None = c.in_ok-r.was ∙ ap Ok c.in-None.is in
    kept e (ready d) (within d) (seen + 1) (omega (arith, (still e (more d)).1))
    (guarded_next c.self.inside.clauses now.pairs.items now.history.literals seen c.negated-a.result (indices_of now.list.items) (still e (more d)).1 here (guarded_still e (more d)) (c.visit_list-answer.ensures.none none))

pub invariant_of-self-in-Some : goal.invariant_of-self-in-Some
invariant_of-self-in-Some c =
    let d = (goal.at.invariant_of-self-in-Some c).After-code-code in
    let e = (goal.at.invariant_of-self-in-Some c).After-visit_list-answer in
    kept e (ready d) (within d) c.self.inside.seen (omega (arith, (still e (more d)).1)) (guarded_still e (more d))

pub invariant_of-self : goal.invariant_of-self
invariant_of-self c =
    let d = (goal.at.invariant_of-self c).After-code-code in
    let e = (goal.at.invariant_of-self c).After-visit_list-answer in
    kept e (ready d) (within d) c.self.inside.seen (omega (arith, (still e (more d)).1)) (guarded_still e (more d))

pub returns-in-Some-clause-conflict : goal.returns-in-Some-clause-conflict
returns-in-Some-clause-conflict c = λ r e. c.visit_list-answer.ensures.conflict r (c.in_ok-r.was ∙ ap Ok c.in-Some.is ∙ e)
