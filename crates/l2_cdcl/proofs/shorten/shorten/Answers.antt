use Rattle.std.proofs.Common.{◌∙◌, ◌<◌, length, refl, reverse, arith, subst, sym}
use Rattle.std.specs.Prelude.{ℤ, pos, neg_ℤ, nat_abs, Contains}
use Rattle.std.proofs.lemmas.List.{get_or_default}
use Rattle.l2_cnf.proofs.Laws.{nat_abs-neg_ℤ}
use Rattle.l2_cnf.specs.Trail.{AreApart}
use Rattle.l2_cdcl.specs.Analysis.{IsMarked}
use Rattle.l2_cdcl.proofs.Analyses.{start_within}
use Rattle.l2_cdcl.proofs.Shortenings.{start_refutes, start_chain, end_point, end_chain}
use Rattle.l2_cdcl.proofs.shorten.shorten.Goals as goal
use Rattle.l2_cdcl.proofs.shorten.shorten.Goals.{In_ok-kept}

pub loop-place-init : goal.loop-place-init
loop-place-init c =
    let b = c.args.watch.now in
    record {
      most = omega arith;
      len = refl;
      less = λ v h. h;
      kept = refl;
      refutes = start_refutes b.clauses b.past.literals c.args.at.low c.args.at.start c.args.point c.args.marks.now c.args.aside.now.items c.requires.put c.requires.point.refutes;
      chain = λ kept. start_chain b.clauses b.past.literals c.args.at.low c.args.at.start c.args.point c.args.marks.now c.args.aside.now.items (reverse c.args.hints.now.numbers) c.requires.put (c.requires.chain kept);
    }

pub marked_only-requires : goal.marked_only-requires
marked_only-requires c = λ m h.
    let b = c.args.watch.now in
    let (j, low, e) = c.requires.put.below m (subst (λ x. Contains x m) c.as_slice.ensures h) in
    let within : j < length b.past.literals = omega (arith, low, start_within b c.facts.ensures c.args.at.low c.args.at.start c.requires.level) in
    omega (arith, (c.facts.ensures.literals_over (neg_ℤ m) (j, within, get_or_default b.past.literals j (neg_ℤ m) (pos 0) within ∙ e)).1, nat_abs-neg_ℤ m, c.requires.room, c.loop-place.invariant.len)

-- what is left of the literals that were put aside
all : (c : In_ok-kept) (m : ℤ) → Contains c.args.aside.now.items m → IsMarked c.loop-place.marks (nat_abs m) → Contains c.in_ok-kept.kept.items m
all c m h marked = c.in_ok-kept.ensures.all m (subst (λ x. Contains x m) (sym c.as_slice.ensures) h) marked

part : (c : In_ok-kept) (m : ℤ) → Contains c.in_ok-kept.kept.items m → (Contains c.args.aside.now.items m) × (IsMarked c.loop-place.marks (nat_abs m))
part c m h = let (put, marked) = c.in_ok-kept.ensures.part m h in (subst (λ x. Contains x m) c.as_slice.ensures put, marked)

pub returns-clause-point : goal.returns-clause-point
returns-clause-point c =
    let b = c.args.watch.now in
    let d = (goal.at.returns-clause-point c).In_ok-kept in
    end_point b.clauses b.past.literals c.args.at.low c.args.at.start c.args.point c.args.marks.now c.loop-place.marks c.args.aside.now.items c.in_ok-kept.kept.items c.requires.put c.loop-place.invariant.less (all d) (part d) c.requires.point c.loop-place.invariant.refutes
    (c.in_ok-kept.ensures.apart (subst AreApart (sym c.as_slice.ensures) c.requires.put.apart))

pub returns-clause-chain : goal.returns-clause-chain
returns-clause-chain c = λ kept.
    let b = c.args.watch.now in
    let d = (goal.at.returns-clause-chain c).In_ok-kept in
    end_chain b.clauses b.past.literals c.args.at.low c.args.at.start c.args.point c.args.marks.now c.loop-place.marks c.args.aside.now.items c.in_ok-kept.kept.items c.requires.put c.loop-place.invariant.less (all d) (part d) c.loop-place.last (reverse c.loop-place.hints.numbers) c.requires.point.first
    (c.loop-place.invariant.chain (c.loop-place.invariant.kept ∙ kept))
