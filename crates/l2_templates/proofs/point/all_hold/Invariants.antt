use Rattle.std.proofs.Common.{◌≡◌, drop}
use Rattle.std.specs.List.{list_all}
use Rattle.l2_templates.specs.Forms.{row_holds}
use Rattle.l2_templates.proofs.point.all_hold.Given as goal

abbrev pub invariant-loop-row : goal.invariant-loop-row
invariant-loop-row l = list_all (λ row. row_holds row l.values) l.rows ≡ list_all (λ row. row_holds row l.values) (drop l.row-index l.rows)
