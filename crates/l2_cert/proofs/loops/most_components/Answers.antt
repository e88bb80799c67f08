use Rattle.std.proofs.Common.{◌≡◌, ◌-◌, ℕ, zero, suc, List, [], ◌∷◌, length, refl, sym, subst, ◌∙◌, arith}
use Rattle.l2_templates.specs.declared.point.LoopPoint.{LoopPoint}
use Rattle.l2_templates.specs.declared.point.LoopPoint.TheVariants.{Bottom, Rows}
use Rattle.l2_templates.specs.Points.{loop_at}
use Rattle.l2_cert.specs.Certificate.{RanksMay}
use Rattle.l2_cert.specs.Machine.{last_loop}
use Rattle.l2_cert.proofs.loops.most_components.Goals as goal

last_at : (point : List LoopPoint) (i : ℕ) → length point ≡ suc i → last_loop point ≡ loop_at point i
last_at [] i is = absurd (omega (arith, is))
last_at (p ∷ []) zero is = refl
last_at (p ∷ []) (suc i) is = absurd (omega (arith, is))
last_at (p ∷ q ∷ point) zero is = absurd (omega (arith, is))
last_at (p ∷ q ∷ point) (suc i) is = let less : length (q ∷ point) ≡ suc i = omega (arith, is) in last_at (q ∷ point) i less

pub returns-in-Bottom : goal.returns-in-Bottom
returns-in-Bottom c = λ n.
    let last : last_loop c.args.point.now ≡ Bottom = last_at c.args.point.now (c.len-loops.result - 1) (omega (arith, c.len-loops.ensures, c.if-loops-eq0.false)) ∙ sym c.get.ensures ∙ c.in-Bottom.is in (
      λ none. (omega (arith, none), subst (λ p. RanksMay p n) (sym last) (omega (arith, none))),
      λ small may. let none : n ≡ 0 = subst (λ p. RanksMay p n) last may in omega (arith, none),
    )

pub returns-in-Rows : goal.returns-in-Rows
returns-in-Rows c = λ n.
    let last : last_loop c.args.point.now ≡ Rows c.in-Rows.field-0 = last_at c.args.point.now (c.len-loops.result - 1) (omega (arith, c.len-loops.ensures, c.if-loops-eq0.false)) ∙ sym c.get.ensures ∙ c.in-Rows.is in
    (λ few. (omega (arith, few, c.from.ensures), subst (λ p. RanksMay p n) (sym last) tt), λ small may. omega (arith, small, c.from.ensures))
