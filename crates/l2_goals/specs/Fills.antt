-- What a point and rankings fill the steps of rows and rankings with.
use Rattle.std.specs.Prelude.{ℕ, ◌-◌, pos, List, ◌++◌, length, replicate, Option}
use Rattle.l2_templates.specs.declared.form.Form.{Form}
use Rattle.l2_templates.specs.declared.point.LoopPoint.{LoopPoint}
use Rattle.l2_gates.specs.Gates.{Lit}
use Rattle.l2_circuits.specs.Words.{constant}
use Rattle.l2_row_circuits.specs.Rows.{wide, row_bit, lower_bit}
use Rattle.l2_blast.specs.Words.{Fill}
use Rattle.l2_ssa_points.specs.Places.{placed_row_at, placed_ranks_at}

-- so many words; those that lack are 0
abbrev pub enough : ℕ → List (List Lit) → List (List Lit)
enough n words = words ++ replicate (n - length words) (constant wide (pos 0))

-- these are the variables of each loop
abbrev pub fill_of : (ℕ → List ℕ) → List LoopPoint → Option (List (List Form)) → Fill
fill_of vars q ranks = record {
  row = λ l i words m. row_bit (placed_row_at vars q l i) (enough (length (vars l)) words) m;
  lower = λ l old new m. lower_bit (placed_ranks_at vars ranks l) (enough (length (vars l)) old) (enough (length (vars l)) new) m;
}
