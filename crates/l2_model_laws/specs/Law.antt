-- What a point's rankings say of two stores.
use Rattle.std.specs.Prelude.{List, Some}
use Rattle.l2_templates.specs.declared.form.Form.{Form}
use Rattle.l2_templates.specs.declared.point.LoopPoint.{LoopPoint}
use Rattle.l2_code.specs.Trees.{CodeTree}
use Rattle.l2_cuts.specs.Points.{lowers}
use Rattle.l2_ssa_points.specs.Places.{vars_of}
use Rattle.l2_ssa_points.specs.Meanings.{ranks_say}
use Rattle.l2_ssa_points.specs.Law.{AreOver}
use Rattle.l2_goal_laws.specs.Models.{AreLower}

-- the rankings over the variables of a code's loops are lower where those over its objects are
abbrev pub RankingsSayLower : Type 0
RankingsSayLower =
    (c : CodeTree) (q : List LoopPoint) (ranks : List (List Form)) → AreOver c q (Some ranks) → AreLower c (ranks_say (vars_of c) (Some ranks)) (lowers ranks)
