-- What fills the rows of grown equations.
use Rattle.std.proofs.Common.{◌≡◌, ℕ, zero, suc, Bool, true, false, not, ℤ, List, map, ap}
use Rattle.l2_runs.specs.declared.cells.CellValue.TheVariants.{Number}
use Rattle.l2_templates.specs.declared.point.LoopPoint.{LoopPoint}
use Rattle.l2_cuts.specs.Points.{point_at}
use Rattle.l2_code.specs.Trees.{CodeTree}
use Rattle.l2_code.specs.Modes.{types_of}
use Rattle.l2_renumber_laws.specs.Fronted.{has_rows}
use Rattle.l2_ssa.specs.Law.{RanksOf}
use Rattle.l2_ssa_points.specs.Places.{vars_of}
use Rattle.l2_ssa_points.specs.Meanings.{rows_say}
use Rattle.l2_gates.specs.Gates.{Lit, T, F, Made, known}
use Rattle.l2_gates.specs.Models.{value, Below, Sound, Gives, Makes}
use Rattle.l2_gates.proofs.Made.{ext_refl}
use Rattle.l2_circuits.specs.Words.{literal_if}
use Rattle.l2_row_circuits.specs.Law.{WordsBelow}
use Rattle.l2_blast.specs.Words.{Fill}
use Rattle.l2_blast_laws.specs.Law.{IsMade, WordsShow, FillMeans}
use Rattle.l2_blast_laws.proofs.Making.{F_below, T_below, if_below}
use Rattle.l2_grown_models.specs.Asking.{meaning_at}
use Rattle.l2_grown_models.specs.Filling.{grown_row, grown_fill, GrownFills}

known_made : (m : Made) (l : Lit) → Sound m → Below m.next l → Makes m (known l m)
known_made m l s h = record { bit = h; extends = ext_refl m s }

row_made : (q : List LoopPoint) (fill : Fill) → IsMade fill → (l i : ℕ) (words : List (List Lit)) (m : Made) → Sound m → WordsBelow m.next words → Makes m (grown_row q fill l i words m)
row_made q fill made l zero words m s h = known_made m F s (F_below m s)
row_made q fill made l (suc zero) words m s h = known_made m (literal_if (has_rows (point_at q l))) s (if_below m s (has_rows (point_at q l)))
row_made q fill made l (suc (suc i)) words m s h = made.row l (suc i) words m s h

value_if : (v : ℕ → Bool) → v 0 ≡ true → (b : Bool) → value v (literal_if b) ≡ b
value_if v one true = one
value_if v one false = ap not one

module _ (c : CodeTree) (q : List LoopPoint) (fill : Fill) (lower : RanksOf) (v : ℕ → Bool) (one : v 0 ≡ true) (means : FillMeans v fill (record { types = types_of c; row = rows_say (vars_of c) q; lower = lower })) where
  row_means : (l i : ℕ) (words : List (List Lit)) (zs : List ℤ) (m : Made) → WordsShow v words zs → Gives v m ((meaning_at c q).row l i (map Number zs)) (grown_row q fill l i words m)
  row_means l zero words zs m h = λ ok. record { before = ok; is = ap not one }
  row_means l (suc zero) words zs m h = λ ok. record { before = ok; is = value_if v one (has_rows (point_at q l)) }
  row_means l (suc (suc i)) words zs m h = means.row l (suc i) words zs m h

  all_mean : FillMeans v (grown_fill q fill) (meaning_at c q)
  all_mean = record { row = row_means; lower = λ l before after old new m h k ok. record { before = ok; is = one } }

pub grown_fills : GrownFills
grown_fills = record {
  made = λ q fill made. record { row = row_made q fill made; lower = λ l old new m s h k. known_made m T s (T_below m s) };
  means = λ c q fill lower v one means. all_mean c q fill lower v one means;
}
