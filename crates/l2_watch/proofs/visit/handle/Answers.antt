use Rattle.std.proofs.Common.{◌≡◌, ◌≢◌, ◌<◌, ◌≤◌, inl, inr, sym, subst, ◌∙◌, ℕ, get_or, set, take, length, [], ◌∷◌, ◌++◌, arith, refl, ap, List, true, false}
use Rattle.std.specs.Prelude.{ℤ, neg_ℤ, nat_abs, Contains}
use Rattle.l2_cnf.specs.Lit.{code_of}
use Rattle.std.proofs.lemmas.List.{get_or_default, length-set}
use Rattle.std.proofs.lemmas.List.Elements.{Contains-push}
use Rattle.l2_cnf.proofs.Laws.{same_variable}
use Rattle.l2_watch.specs.declared.entry.Entry.{Entry}
use Rattle.l2_watch.specs.Visit.{pair_of, IsOther, items_of, entries_of, AreFound, AreGuarded}
use Rattle.l2_watch.proofs.Moves.{other_stands, other_differs, moved_pairs, moved_guarded, moved_found, moved_apart, moved_parts, guarded_more, read_pair, Contains-take, code_within}
use Rattle.l2_watch.proofs.Entries.{entry_stands, items_entered, items_same, items_length, all_entered}
use Rattle.l2_watch.proofs.Pasts.{IsGrown-push}
use Rattle.l2_watch.proofs.visit.handle.Goals as goal
use Rattle.l2_watch.proofs.visit.handle.Goals.{In-Some, After-clause, In-Moves, In-Implies}

pub is_true-requires : goal.is_true-requires
is_true-requires c =
    let r : ℕ = c.args.entry.clause in
    let there = entry_stands c.args.clauses.now c.args.history.now.variables c.args.pairs.now.items c.args.entry c.requires.pairs c.requires.entry in
    rw c.literal.ensures (c.requires.pairs.over (get_or c.args.clauses.now r []) (r, c.requires.entry.0, get_or_default c.args.clauses.now r _ _ c.requires.entry.0) c.args.entry.blocker there).1

pub returns-then-is_true-clause-handled : goal.returns-then-is_true-clause-handled
returns-then-is_true-clause-handled c =
    let there = entry_stands c.args.clauses.now c.args.history.now.variables c.args.pairs.now.items c.args.entry c.requires.pairs c.requires.entry in
    (refl, c.requires.entry.0, inl refl, there, subst (Contains c.args.history.now.literals) c.literal.ensures (c.is_true.ensures.0 c.if-is_true.true))

small : (c : In-Some) → c.args.entry.clause < length c.args.clauses.now
small c = c.requires.entry.0

-- the clause's index is one of a pair
within : (c : In-Some) → c.args.entry.clause < length c.args.pairs.now.items
within c = omega (arith, small c, c.requires.pairs.count)

role : (c : In-Some) → IsOther (pair_of c.args.pairs.now.items c.args.entry.clause) c.args.a c.in-Some.other
role c =
    let it : IsOther c.index.result.now c.args.a c.in-Some.other = c.in-Some.ensures in
    subst (λ p. IsOther p c.args.a c.in-Some.other) (read_pair c.args.pairs.now.items c.args.entry.clause c.index.result.now (within c) c.index.ensures) it

stands : (c : In-Some) → Contains (get_or c.args.clauses.now c.args.entry.clause []) c.in-Some.other
stands c = other_stands (get_or c.args.clauses.now c.args.entry.clause []) (pair_of c.args.pairs.now.items c.args.entry.clause) c.args.a c.in-Some.other (c.requires.pairs.pair c.args.entry.clause (small c)) (role c)

over_one : (c : In-Some) (l : ℤ) → Contains (get_or c.args.clauses.now c.args.entry.clause []) l → nat_abs l ≤ c.args.history.now.variables
over_one c l h = (c.requires.pairs.over (get_or c.args.clauses.now c.args.entry.clause []) (c.args.entry.clause, small c, get_or_default c.args.clauses.now c.args.entry.clause _ _ (small c)) l h).1

pub of-blocker-requires : goal.of-blocker-requires
of-blocker-requires c =
    let d = (goal.at.of-blocker-requires c).In-Some in
    omega (arith, over_one d c.in-Some.other (stands d), c.requires.small)

pub is_true-requires-2 : goal.is_true-requires-2
is_true-requires-2 c = over_one (goal.at.is_true-requires-2 c).In-Some c.in-Some.other (stands (goal.at.is_true-requires-2 c).In-Some)

apart_from : (c : In-Some) → c.in-Some.other ≢ c.args.a
apart_from c = other_differs (get_or c.args.clauses.now c.args.entry.clause []) (take c.args.seen c.args.history.now.literals) c.args.history.now.literals (pair_of c.args.pairs.now.items c.args.entry.clause) c.args.a c.in-Some.other
    c.requires.consistent c.requires.false_one (role c) (c.requires.guarded c.args.entry.clause (within c))

pub returns-then-is_true-2-clause-handled : goal.returns-then-is_true-2-clause-handled
returns-then-is_true-2-clause-handled c =
    let d = (goal.at.returns-then-is_true-2-clause-handled c).In-Some in
    rw c.of-blocker.ensures (refl, small d, inl refl, stands d, c.is_true-2.ensures.0 c.if-is_true-2.true)

pub look_at-requires-clause-over : goal.look_at-requires-clause-over
look_at-requires-clause-over c =
    let b = small (goal.at.look_at-requires-clause-over c).In-Some in
    c.requires.pairs.over c.clause.result.now (c.args.entry.clause, b, get_or_default c.args.clauses.now c.args.entry.clause c.clause.result.now [] b ∙ sym c.clause.ensures)

pub look_at-requires-clause-stands : goal.look_at-requires-clause-stands
look_at-requires-clause-stands c = rw c.clause.ensures (stands (goal.at.look_at-requires-clause-stands c).In-Some)

pub push-requires-clause-over : goal.push-requires-clause-over
push-requires-clause-over c = over_one (goal.at.push-requires-clause-over c).In-Some c.in-Some.other (stands (goal.at.push-requires-clause-over c).In-Some)

unset : (c : In-Implies) → ¬ Contains c.args.history.now.literals c.in-Some.other
unset c h = let t : c.is_true-2.result ≡ true = c.is_true-2.ensures.1 h in let f : c.is_true-2.result ≡ false = c.if-is_true-2.false in cc

pub push-requires-clause-new : goal.push-requires-clause-new
push-requires-clause-new c = λ m h e.
    let d = (goal.at.push-requires-clause-new c).In-Implies in
    elim (same_variable m c.in-Some.other e) [
      | inl s ↦ unset d (subst (Contains c.args.history.now.literals) s h)
      | inr s ↦ c.in-Implies.ensures.0 (subst (Contains c.args.history.now.literals) s h)
    ]

pub add_to-requires : goal.add_to-requires
add_to-requires c =
    let d = (goal.at.add_to-requires c).In-Some in
    let m_in : Contains (get_or c.args.clauses.now c.args.entry.clause []) c.in-Moves.m = subst (λ x. Contains x c.in-Moves.m) c.clause.ensures c.in-Moves.ensures.0 in
    omega (arith, code_within c.in-Moves.m c.args.history.now.variables (over_one d c.in-Moves.m m_in), c.code.ensures.code, c.requires.lists)

pub of-requires : goal.of-requires
of-requires c =
    let d = (goal.at.of-requires c).In-Some in
    let m_in : Contains (get_or c.args.clauses.now c.args.entry.clause []) c.in-Moves.m = subst (λ x. Contains x c.in-Moves.m) c.clause.ensures c.in-Moves.ensures.0 in
    omega (arith, over_one d c.in-Moves.m m_in, c.requires.small)

pub returns-in_err-add_to-in-Moves-clause-found : goal.returns-in_err-add_to-in-Moves-clause-found
returns-in_err-add_to-in-Moves-clause-found c = subst (λ x. AreFound c.args.pairs.now.items x c.args.a) (sym (items_same c.args.lists.now.items c.add_to.new.lists.items c.in_err-add_to-in-Moves.ensures.err)) c.requires.found

pub returns-in_err-add_to-in-Moves-clause-entered : goal.returns-in_err-add_to-in-Moves-clause-entered
returns-in_err-add_to-in-Moves-clause-entered c = rw c.in_err-add_to-in-Moves.ensures.err c.requires.entered

pub returns-in-Conflict-clause-handled : goal.returns-in-Conflict-clause-handled
returns-in-Conflict-clause-handled c = (c.requires.entry.0, refl, refl, (λ m h. c.in-Conflict.ensures m (rw c.clause.ensures h)))

-- the other literals are false
others_false : (c : In-Implies) → (m : ℤ) → Contains (get_or c.args.clauses.now c.args.entry.clause []) m → m ≢ c.in-Some.other → Contains c.args.history.now.literals (neg_ℤ m)
others_false c m h ne = c.in-Implies.ensures.1 m (rw c.clause.ensures h) ne

pub returns-in-Implies-clause-grown : goal.returns-in-Implies-clause-grown
returns-in-Implies-clause-grown c =
    let d = (goal.at.returns-in-Implies-clause-grown c).In-Some in
    let e = (goal.at.returns-in-Implies-clause-grown c).In-Implies in
    IsGrown-push c.args.clauses.now c.args.history.now c.push.new.self c.in-Some.other c.args.entry.clause c.requires.count (small d) (stands d) (others_false e) c.push.ensures.literals c.push.ensures.reasons c.push.ensures.variables

pub returns-in-Implies-clause-handled : goal.returns-in-Implies-clause-handled
returns-in-Implies-clause-handled c =
    let d = (goal.at.returns-in-Implies-clause-handled c).In-Some in
    let e = (goal.at.returns-in-Implies-clause-handled c).In-Implies in
    let o_in : Contains c.push.new.self.literals c.in-Some.other = rw c.push.ensures.literals (Contains-push c.args.history.now.literals c.in-Some.other) in
    rw c.of-blocker.ensures (
      refl,
      small d,
      inr (c.in-Some.other, c.push.ensures.literals, unset e, c.in-Implies.ensures.0, stands d, others_false e),
      stands d,
      o_in,
    )

pub returns-in-Implies-clause-guarded : goal.returns-in-Implies-clause-guarded
returns-in-Implies-clause-guarded c = subst (AreGuarded c.args.clauses.now c.args.pairs.now.items (take c.args.seen c.args.history.now.literals)) (sym c.push.ensures.literals)
    (guarded_more c.args.clauses.now c.args.pairs.now.items (take c.args.seen c.args.history.now.literals) c.args.history.now.literals c.in-Some.other c.requires.guarded)

m_apart : (c : In-Moves) → c.in-Moves.m ≢ c.args.a
m_apart c = λ e. c.in-Moves.ensures.2 (subst (λ x. Contains c.args.history.now.literals (neg_ℤ x)) (sym e) c.requires.false_one)

pub returns-in_ok-add_to-in-Moves-clause-handled : goal.returns-in_ok-add_to-in-Moves-clause-handled
returns-in_ok-add_to-in-Moves-clause-handled c =
    let d = (goal.at.returns-in_ok-add_to-in-Moves-clause-handled c).In-Some in
    let e = (goal.at.returns-in_ok-add_to-in-Moves-clause-handled c).In-Moves in
    let parts = moved_apart c.args.pairs.now.items c.args.entry.clause c.args.a c.in-Some.other c.in-Moves.m (within d) (apart_from d) (m_apart e) in
    rw (c.of-blocker.ensures, c.of.ensures) (refl, length-set c.args.pairs.now.items c.args.entry.clause (c.in-Some.other, c.in-Moves.m), parts.0, (λ b. parts.1), (λ b. parts.2))

pub returns-in_ok-add_to-in-Moves-clause-pairs : goal.returns-in_ok-add_to-in-Moves-clause-pairs
returns-in_ok-add_to-in-Moves-clause-pairs c =
    let d = (goal.at.returns-in_ok-add_to-in-Moves-clause-pairs c).In-Some in
    let m_in : Contains (get_or c.args.clauses.now c.args.entry.clause []) c.in-Moves.m = subst (λ x. Contains x c.in-Moves.m) c.clause.ensures c.in-Moves.ensures.0 in
    rw (c.of-blocker.ensures, c.of.ensures) (moved_pairs c.args.clauses.now c.args.history.now.variables c.args.pairs.now.items c.args.entry.clause c.in-Some.other c.in-Moves.m c.requires.pairs (small d) (stands d) m_in c.in-Moves.ensures.1)

pub returns-in_ok-add_to-in-Moves-clause-found : goal.returns-in_ok-add_to-in-Moves-clause-found
returns-in_ok-add_to-in-Moves-clause-found c =
    let d = (goal.at.returns-in_ok-add_to-in-Moves-clause-found c).In-Some in
    let lists : List (List ℕ) = items_of c.args.lists.now.items in
    let r : ℕ = c.args.entry.clause in
    let entry : Entry = record { blocker = c.of-blocker.result; clause = r } in
    let m_in : Contains (get_or c.args.clauses.now r []) c.in-Moves.m = subst (λ x. Contains x c.in-Moves.m) c.clause.ensures c.in-Moves.ensures.0 in
    let room : code_of c.in-Moves.m < length c.args.lists.now.items = omega (arith, code_within c.in-Moves.m c.args.history.now.variables (over_one d c.in-Moves.m m_in), c.requires.lists) in
    let fits : code_of c.in-Moves.m < length lists = omega (arith, room, items_length c.args.lists.now.items) in
    let new : items_of c.add_to.new.lists.items ≡ set lists (code_of c.in-Moves.m) (get_or lists (code_of c.in-Moves.m) [] ++ r ∷ []) =
    items_entered c.args.lists.now.items c.add_to.new.lists.items c.code.result entry (omega (arith, room, c.code.ensures.code)) c.in_ok-add_to-in-Moves.ensures.ok ∙ ap (λ k. set lists k (get_or lists k [] ++ r ∷ [])) c.code.ensures.code in
    rw (c.of-blocker.ensures, c.of.ensures) (moved_found c.args.pairs.now.items lists (items_of c.add_to.new.lists.items) r c.args.a c.in-Some.other c.in-Moves.m c.requires.found (within d) (role d) (apart_from d) fits new)

pub returns-in_ok-add_to-in-Moves-clause-guarded : goal.returns-in_ok-add_to-in-Moves-clause-guarded
returns-in_ok-add_to-in-Moves-clause-guarded c =
    let d = (goal.at.returns-in_ok-add_to-in-Moves-clause-guarded c).In-Some in
    rw (c.of-blocker.ensures, c.of.ensures) (moved_guarded c.args.clauses.now c.args.pairs.now.items (take c.args.seen c.args.history.now.literals) c.args.history.now.literals c.args.history.now.literals c.args.entry.clause c.args.a c.in-Some.other c.in-Moves.m
    (λ m h. Contains-take c.args.seen c.args.history.now.literals m c.requires.seen h) (within d) (role d) c.requires.guarded c.in-Moves.ensures.1 c.in-Moves.ensures.2)

pub returns-in_ok-add_to-in-Moves-clause-parts : goal.returns-in_ok-add_to-in-Moves-clause-parts
returns-in_ok-add_to-in-Moves-clause-parts c =
    let d = (goal.at.returns-in_ok-add_to-in-Moves-clause-parts c).In-Some in
    rw (c.of-blocker.ensures, c.of.ensures) (moved_parts c.args.clauses.now c.args.pairs.now.items c.args.history.now.literals c.args.entry.clause c.args.a c.in-Some.other c.in-Moves.m (within d) (role d) c.in-Moves.ensures.1 c.in-Moves.ensures.2)

pub returns-in_ok-add_to-in-Moves-clause-entered : goal.returns-in_ok-add_to-in-Moves-clause-entered
returns-in_ok-add_to-in-Moves-clause-entered c =
    let d = (goal.at.returns-in_ok-add_to-in-Moves-clause-entered c).In-Some in
    let r : ℕ = c.args.entry.clause in
    let entry : Entry = record { blocker = c.of-blocker.result; clause = r } in
    rw c.in_ok-add_to-in-Moves.ensures.ok
    (all_entered c.args.clauses.now (entries_of c.args.lists.now.items) c.code.result entry c.requires.entered (small d, inr (subst (Contains (get_or c.args.clauses.now r [])) (sym c.of-blocker.ensures) (stands d))))
