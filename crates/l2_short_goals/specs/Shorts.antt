-- The formulas of short runs: those of a code where no loop has rows and none starts back.
use Rattle.std.specs.Prelude.{ℕ, false, List, map}
use Rattle.l2_code.specs.Trees.{CodeTree}
use Rattle.l2_code.specs.Sets.{Family}
use Rattle.l2_gates.specs.Gates.{T, known}
use Rattle.l2_ssa.specs.declared.goal.Kind.{Kind}
use Rattle.l2_ssa.specs.declared.goal.Kind.TheVariants.{Plain}
use Rattle.l2_blast.specs.Words.{Fill}
use Rattle.l2_goals.specs.Formulas.{Formulas, formulas_with}

-- what is asked of rows and rankings holds; no step asks
abbrev pub no_fill : Fill
no_fill = record { row = λ l i words m. known T m; lower = λ l old new m. known T m }

-- each loop of a code may be entered alone, and each of its turns may end
abbrev pub plain_kinds : CodeTree → List Kind
plain_kinds c = map (λ l. Plain) c.loops

abbrev pub short_formulas : CodeTree → Family → ℕ → Formulas
short_formulas c f k = formulas_with c f k (plain_kinds c) false no_fill
