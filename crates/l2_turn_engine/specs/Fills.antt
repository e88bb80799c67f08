-- What fills the steps of rankings where turns are asked for: the turns that are asked for are those that aren't lower.
use Rattle.std.specs.Prelude.{ℕ, Bool, true, false, not, ◌&&◌, ◌||◌, List, Some, None}
use Rattle.l2_templates.specs.declared.form.Form.{Form}
use Rattle.l2_templates.specs.declared.point.LoopPoint.{LoopPoint}
use Rattle.l2_gates.specs.Gates.{Lit, Made, Bit, negated, or}
use Rattle.l2_ssa.specs.Law.{RanksOf}
use Rattle.l2_ssa_points.specs.Meanings.{ranks_say}
use Rattle.l2_blast.specs.Words.{Fill}
use Rattle.l2_goals.specs.Fills.{fill_of}

-- ---- what is said

-- whether these lists of forms are lower at the second values, or, where the first is true, at the first
abbrev pub lower_in : Bool → (ℕ → List ℕ) → List (List Form) → RanksOf
lower_in true vars lists l old new = ranks_say vars (Some lists) l new old
lower_in false vars lists l old new = ranks_say vars (Some lists) l old new

-- all turns, but for those on which the longer lists go down and the shorter don't: there all forms but the last keep their values
abbrev pub unless_moved : Bool → (ℕ → List ℕ) → List (List Form) → List (List Form) → RanksOf
unless_moved up vars longer shorter l old new = not (lower_in up vars longer l old new && not (lower_in up vars shorter l old new))

-- the turns on which the lists go down or up: on all others their forms keep their values
abbrev pub unless_kept : (ℕ → List ℕ) → List (List Form) → RanksOf
unless_kept vars lists l old new = lower_in false vars lists l old new || lower_in true vars lists l old new

-- ---- as literals

abbrev pub lower_bit_in : Bool → Fill → ℕ → List (List Lit) → List (List Lit) → Made → Bit
lower_bit_in true fill l old new m = fill.lower l new old m
lower_bit_in false fill l old new m = fill.lower l old new m

abbrev pub moved_bit : Bool → Fill → Fill → ℕ → List (List Lit) → List (List Lit) → Made → Bit
moved_bit up longer shorter l old new m =
    let a = lower_bit_in up longer l old new m in
    let b = lower_bit_in up shorter l old new a.made in
    or (negated a.bit) b.bit b.made

abbrev pub kept_bit : Fill → ℕ → List (List Lit) → List (List Lit) → Made → Bit
kept_bit fill l old new m =
    let a = lower_bit_in false fill l old new m in
    let b = lower_bit_in true fill l old new a.made in
    or a.bit b.bit b.made

-- the rows are those of a point
abbrev pub moved_fill : Bool → (ℕ → List ℕ) → List LoopPoint → List (List Form) → List (List Form) → Fill
moved_fill up vars q longer shorter = record {
  row = (fill_of vars q None).row;
  lower = moved_bit up (fill_of vars q (Some longer)) (fill_of vars q (Some shorter));
}

abbrev pub kept_fill : (ℕ → List ℕ) → List LoopPoint → List (List Form) → Fill
kept_fill vars q lists = record {
  row = (fill_of vars q None).row;
  lower = kept_bit (fill_of vars q (Some lists));
}
