use Rattle.std.proofs.Common.{ℕ, List, length, subst, sym, ap, ◌∙◌}
use Rattle.std.specs.List.{All}
use Rattle.l2_code.specs.declared.code.CodeObject.{CodeObject}
use Rattle.l2_code.specs.declared.sets.PointsTo.{PointsTo}
use Rattle.l2_code.specs.Trees.{code_of}
use Rattle.l2_inclusions.specs.declared.inclusion.Inclusion.{Inclusion}
use Rattle.l2_inclusions.specs.Inclusions.{IsClosed}
use Rattle.l2_inclusions.specs.Rows.{set_at}
use Rattle.l2_inclusions.specs.Closing.{AreForced}
use Rattle.l2_points.specs.Entries.{AreThose, NoneBeyond, IsThere}
use Rattle.l2_points.proofs.Handed.{Handed, handed_sets, handed_resolved, handed_least}
use Rattle.l2_points.proofs.answer.points.Goals as goal

handed : (c : goal.After-drop-inclusions-2) → Handed (code_of c.args.code.now) c.in_ok-rows.rows (record { sets = c.new.result; objects = c.new-2.result; temps = c.new-3.result })
handed c = record {
  rows = c.facts.ensures;
  closed = subst (λ (xs : List Inclusion). IsClosed (set_at c.in_ok-rows.rows) xs) (c.as_slice.ensures.value ∙ c.in_ok-inclusions.ensures) c.in_ok-rows.ensures.closed;
  forced = subst (λ (xs : List Inclusion). AreForced xs c.in_ok-rows.rows) (c.as_slice.ensures.value ∙ c.in_ok-inclusions.ensures) c.in_ok-rows.ensures.least;
  sets = c.new.ensures ∙ c.into_sets-sets.ensures;
  object_count = ap length c.new-2.ensures ∙ (c.in_ok-objects.ensures.count ∙ ap length c.as_slice-count.ensures);
  temp_count = ap length c.new-3.ensures ∙ c.in_ok-temps.ensures.count;
  objects = subst (AreThose c.in_ok-rows.rows 0) (sym c.new-2.ensures) c.in_ok-objects.ensures.those;
  temps = subst (AreThose c.in_ok-rows.rows 1) (sym c.new-3.ensures) c.in_ok-temps.ensures.those;
  no_object = subst (λ (n : ℕ). NoneBeyond c.in_ok-rows.rows 0 n) (ap length c.as_slice-count.ensures) (c.none_beyond.ensures c.if-not-none_beyond.false);
  no_temp = c.none_beyond-else-not-none_beyond.ensures c.if-not-none_beyond-2.false;
  over =
      subst (λ (sets : List PointsTo). All (λ (p : PointsTo). All (IsThere c.args.code.now.objects) p.members) sets) (c.as_slice-3.ensures.value ∙ sym c.new.ensures)
      (subst (λ (objects : List CodeObject). All (λ (p : PointsTo). All (IsThere objects) p.members) c.as_slice-3.result.now) c.as_slice-2.ensures (c.are_over.ensures c.if-not-are_over.false));
}

pub returns-clause-sets : goal.returns-clause-sets
returns-clause-sets c = handed_sets (handed c)

pub returns-clause-resolved : goal.returns-clause-resolved
returns-clause-resolved c = handed_resolved (handed c)

pub returns-clause-least : goal.returns-clause-least
returns-clause-least c = handed_least (handed c)
