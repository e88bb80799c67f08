use Rattle.std.proofs.Common.{◌<◌, ◌-◌, ◌+◌, ◌∙◌, ◌++◌, ◌∷◌, inl, inr, ℕ, [], length, get_or, sym, ap, arith, subst}
use Rattle.std.specs.Prelude.{ℤ, pos, Contains}
use Rattle.std.proofs.lemmas.List.{get_or_default}
use Rattle.l2_watch.specs.Watch.{Refutes}
use Rattle.l2_cdcl.specs.Analysis.{IsMarked, IsOpen, HasVariable}
use Rattle.l2_cdcl.proofs.Analyses.{Refutes-more, traced_to, some_open, some_literal}
use Rattle.l2_cdcl.proofs.Chains.{chain_begin}
use Rattle.l2_watch.proofs.Closed.{Refutes-clause}
use Rattle.l2_cdcl.proofs.analysis.begin.Goals as goal
use Rattle.l2_cdcl.proofs.analysis.begin.Goals.{In_ok-open}

-- the clause of the conflict
stands : (c : In_ok-open) → Contains c.args.watch.now.clauses (get_or c.args.watch.now.clauses c.args.conflict [])
stands c = (c.args.conflict, c.requires.conflict, get_or_default c.args.watch.now.clauses c.args.conflict _ _ c.requires.conflict)

-- each variable that is marked stands in it
known : (c : In_ok-open) → (v : ℕ) → IsMarked c.mark_others.new.marks v → HasVariable c.args.watch.now.clauses v
known c v h = elim (c.in_ok-open.ensures.from v h) [
  | inl before ↦ absurd (c.clear.ensures.none v before)
  | inr (m, there, e) ↦ (get_or c.args.watch.now.clauses c.args.conflict [], stands c, (m, subst (λ x. Contains x m) c.clause.ensures there, e))
]

-- its literals are open
others : (c : In_ok-open) → (m : ℤ) → Contains (get_or c.args.watch.now.clauses c.args.conflict []) m → IsOpen c.args.watch.now.past.literals c.args.at.low c.args.at.start (length c.args.watch.now.past.literals) c.mark_others.new.marks c.mark_others.new.aside.items m
others c m h =
    let b = c.args.watch.now in
    let some : 0 < length b.past.literals = some_literal b c.facts.ensures c.args.at.low c.args.at.start c.requires.level (get_or b.clauses c.args.conflict []) (stands c) c.requires.false_ones in
    let last : c.len.result - 1 < length b.past.literals = omega (arith, c.len.ensures, some) in
    let but : Contains b.past.literals c.literal-but.result = (c.len.result - 1, last, get_or_default b.past.literals (c.len.result - 1) c.literal-but.result (pos 0) last ∙ sym c.literal-but.ensures) in
    c.in_ok-open.ensures.open m (rw c.clause.ensures h) (λ e. c.facts.ensures.consistent m (subst (Contains b.past.literals) (sym e) but) (c.requires.false_ones m h))

refuted : (c : In_ok-open) → Refutes c.args.watch.now.clauses (IsOpen c.args.watch.now.past.literals c.args.at.low c.args.at.start (length c.args.watch.now.past.literals) c.mark_others.new.marks c.mark_others.new.aside.items)
refuted c =
    let b = c.args.watch.now in
    Refutes-more b.clauses (Contains (get_or b.clauses c.args.conflict [])) (IsOpen b.past.literals c.args.at.low c.args.at.start (length b.past.literals) c.mark_others.new.marks c.mark_others.new.aside.items) (others c) (Refutes-clause b.clauses (get_or b.clauses c.args.conflict []) (stands c))

pub last_open-place-requires-clause-some : goal.last_open-place-requires-clause-some
last_open-place-requires-clause-some c =
    let b = c.args.watch.now in
    rw c.len-2.ensures (some_open b c.facts.ensures c.args.at.low c.args.at.start c.requires.level (length b.past.literals) c.mark_others.new.marks c.mark_others.new.aside.items c.in_ok-open.ensures.put (refuted (goal.at.last_open-place-requires-clause-some c).In_ok-open))

pub returns-clause-traced : goal.returns-clause-traced
returns-clause-traced c =
    let b = c.args.watch.now in
    traced_to b c.facts.ensures c.args.at.low c.args.at.start c.requires.level c.last_open-place.result (length b.past.literals) c.mark_others.new.marks c.mark_others.new.aside.items c.last_open-place.ensures.first
    (omega (arith, c.last_open-place.ensures.last, c.len-2.ensures)) (omega arith) c.in_ok-open.ensures.put (rw (sym c.len-2.ensures) c.last_open-place.ensures.none) c.last_open-place.ensures.here (known (goal.at.returns-clause-traced c).In_ok-open) (refuted (goal.at.returns-clause-traced c).In_ok-open)

pub returns-clause-chain : goal.returns-clause-chain
returns-clause-chain c = λ kept.
    let b = c.args.watch.now in
    chain_begin b.clauses b.past.literals c.args.at.low c.args.at.start c.last_open-place.result c.args.conflict c.mark_others.new.marks c.mark_others.new.aside.items c.note.new.self.numbers c.requires.conflict c.last_open-place.ensures.first
    (rw (sym c.len-2.ensures) c.last_open-place.ensures.none) (others (goal.at.returns-clause-chain c).In_ok-open) (c.in_ok-note.ensures.ok kept ∙ ap (λ x. x ++ (c.args.conflict + 1) ∷ []) c.requires.hints)
