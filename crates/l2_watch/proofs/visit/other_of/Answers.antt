use Rattle.std.proofs.Common.{inl, inr, sym, ◌∙◌}
use Rattle.l2_watch.proofs.Moves.{code_tells, code_parts}
use Rattle.l2_watch.proofs.visit.other_of.Goals as goal

pub returns-then-eq : goal.returns-then-eq
returns-then-eq c = inl (sym c.literal-first.ensures ∙ code_tells c.literal-first.result c.args.a (sym c.eq.ensures ∙ c.if-eq.true), c.literal-second.ensures)

pub returns-then-eq-2 : goal.returns-then-eq-2
returns-then-eq-2 c = inr (sym c.literal-second.ensures ∙ code_tells c.literal-second.result c.args.a (sym c.eq-else-eq.ensures ∙ c.if-eq-2.true), c.literal-first.ensures)

pub returns-else-eq-2 : goal.returns-else-eq-2
returns-else-eq-2 c = ((λ e. code_parts c.literal-first.result c.args.a (sym c.eq.ensures ∙ c.if-eq.false) (c.literal-first.ensures ∙ e)), (λ e. code_parts c.literal-second.result c.args.a (sym c.eq-else-eq.ensures ∙ c.if-eq-2.false) (c.literal-second.ensures ∙ e)))
