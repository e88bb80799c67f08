use Rattle.std.proofs.Common.{◌≡◌, ℕ, ◌+◌, ◌<◌, ◌++◌, List, [], ◌∷◌, map, length, get_or, drop, sym, ap, ◌∙◌, append_assoc}
use Rattle.std.proofs.lemmas.List.{drop_more}
use Rattle.l2_code.specs.declared.sets.PointsTo.{PointsTo}
use Rattle.l2_size.specs.Capped.{capped}
use Rattle.l2_size.specs.Tables.{count_among, object_count, set_count}
use Rattle.l2_size.proofs.Counts.{set_count_is, rises_at}
use Rattle.l2_size.proofs.tables.counted.Goals as goal

-- one more set is counted
pushed : (f : PointsTo → ℕ) (sets : List PointsTo) (i : ℕ) (s : PointsTo) (old new : List ℕ) (x : ℕ)
    → new ≡ old ++ x ∷ [] → x ≡ f s → i < length sets → s ≡ get_or sets i s
    → old ++ map f (drop i sets) ≡ map f sets → new ++ map f (drop (i + 1) sets) ≡ map f sets
pushed f sets i s old new x n e h is before =
    ap (λ ys. ys ++ map f (drop (i + 1) sets)) n ∙ append_assoc old (x ∷ []) (map f (drop (i + 1) sets)) ∙ ap (λ y. old ++ (y ∷ map f (drop (i + 1) sets))) e
    ∙ sym (ap (λ ds. old ++ map f ds) (drop_more sets i s h ∙ ap (λ y. y ∷ drop (i + 1) sets) (sym is))) ∙ before

pub loop-set-preserved : goal.loop-set-preserved
loop-set-preserved c =
    let s = c.set-item.result in
    let objects = c.args.objects.now in
    let ty = c.args.ty in
    pushed (set_count objects ty) c.args.sets.now c.loop-set.set-index s c.loop-set.counts.items c.push.new.self.items c.count_among.result
    c.in_ok-push.ensures.items
    (c.count_among.ensures ∙ ap (λ each. capped (count_among each c.as_slice.result.now)) (c.deref.ensures.value ∙ c.in_ok-each.ensures)
    ∙ ap (λ ms. capped (count_among (map (object_count ty) objects) ms)) c.as_slice.ensures
    ∙ set_count_is ty objects s (rises_at c.args.sets.now c.loop-set.set-index s c.loop-set-test.true c.set-item.is c.requires))
    c.loop-set-test.true c.set-item.is c.loop-set.invariant
