-- What fills no rows gives rows that always hold.
use Rattle.std.proofs.Common.{true}
use Rattle.l2_code.specs.Trees.{CodeTree}
use Rattle.l2_ssa.specs.Law.{RowsOf, RanksOf}
use Rattle.l2_gates.specs.Gates.{T, known}
use Rattle.l2_gates.specs.Models.{Sound, Makes}
use Rattle.l2_gates.proofs.Made.{ext_refl}
use Rattle.l2_gates.specs.Gates.{Made}
use Rattle.l2_goal_laws.specs.Models.{Fills}
use Rattle.l2_short_goals.specs.Shorts.{no_fill}

abbrev pub each_row : RowsOf
each_row l i vs = true

abbrev pub each_rank : RanksOf
each_rank l old new = true

truth_made : (m : Made) → Sound m → Makes m (known T m)
truth_made m so = record { bit = so.some; extends = ext_refl m so }

pub no_fill_fills : (c : CodeTree) → Fills c no_fill each_row each_rank
no_fill_fills c = record {
  made = record { row = λ l i words m so below. truth_made m so; lower = λ l old new m so a b. truth_made m so };
  means = λ v one. record { row = λ l i words values made shows ok. record { before = ok; is = one }; lower = λ l before after old new made a b ok. record { before = ok; is = one } };
}
