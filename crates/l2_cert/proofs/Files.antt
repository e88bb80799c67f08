-- The lines of a certificate with one more loop, ranking or goal.
use Rattle.std.proofs.Common.{◌≡◌, ℕ, suc, ◌+◌, ◌≤◌, List, [], ◌∷◌, ◌++◌, length, refl, sym, ap, ◌∙◌, append_assoc, append-nil, arith}
use Rattle.l2_cnf.specs.Steps.{Step}
use Rattle.l2_templates.specs.declared.form.Form.{Form}
use Rattle.l2_templates.specs.declared.point.LoopPoint.{LoopPoint}
use Rattle.l2_cert.specs.declared.cert.CertKind.{CertKind}
use Rattle.l2_cert.specs.declared.cert.CertKind.TheVariants.{Safe, Terminating}
use Rattle.l2_cert.specs.Certificate.{loop_lines, rank_lines, loops_lines, goal_lines, goals_lines, AreRankings, IsRanking, RanksFit}

pub one_more_loop : (i j : ℕ) (point : List LoopPoint) (ranks : List (List Form)) (p : LoopPoint) → length ranks ≤ length point → j ≡ i + length point → loops_lines i (point ++ p ∷ []) ranks ≡ loops_lines i point ranks ++ loop_lines j p
one_more_loop i j [] [] p few is = let same : j ≡ i = omega (arith, is) in append-nil (loop_lines i p) ∙ ap (λ n. loop_lines n p) (sym same)
one_more_loop i j [] (r ∷ ranks) p few is = absurd (omega (arith, few))
one_more_loop i j (q ∷ point) [] p few is =
    let index : j ≡ suc i + length point = omega (arith, is) in
    ap (λ l. loop_lines i q ++ l) (one_more_loop (suc i) j point [] p (omega arith) index) ∙ sym (append_assoc (loop_lines i q) (loops_lines (suc i) point []) (loop_lines j p))
one_more_loop i j (q ∷ point) (r ∷ ranks) p few is =
    let index : j ≡ suc i + length point = omega (arith, is) in
    let fewer : length ranks ≤ length point = omega (arith, few) in
    ap (λ l. (loop_lines i q ++ rank_lines i r) ++ l) (one_more_loop (suc i) j point ranks p fewer index) ∙ sym (append_assoc (loop_lines i q ++ rank_lines i r) (loops_lines (suc i) point ranks) (loop_lines j p))

pub one_more_ranking : (i j : ℕ) (front : List LoopPoint) (p : LoopPoint) (ranks : List (List Form)) (forms : List Form) → AreRankings front ranks → j ≡ i + length front → loops_lines i (front ++ p ∷ []) (ranks ++ forms ∷ []) ≡ loops_lines i (front ++ p ∷ []) ranks ++ rank_lines j forms
one_more_ranking i j [] p [] forms all is =
    let same : j ≡ i = omega (arith, is) in
    append-nil (loop_lines i p ++ rank_lines i forms) ∙ ap (λ l. l ++ rank_lines i forms) (sym (append-nil (loop_lines i p))) ∙ ap (λ n. (loop_lines i p ++ []) ++ rank_lines n forms) (sym same)
one_more_ranking i j [] p (r ∷ ranks) forms all is = absurd all
one_more_ranking i j (q ∷ front) p [] forms all is = absurd all
one_more_ranking i j (q ∷ front) p (r ∷ ranks) forms all is =
    let index : j ≡ suc i + length front = omega (arith, is) in
    ap (λ l. (loop_lines i q ++ rank_lines i r) ++ l) (one_more_ranking (suc i) j front p ranks forms all.1 index) ∙ sym (append_assoc (loop_lines i q ++ rank_lines i r) (loops_lines (suc i) (front ++ p ∷ []) ranks) (rank_lines j forms))

pub one_more_goal : (i j : ℕ) (goals : List (List Step)) (steps : List Step) → j ≡ i + length goals → goals_lines i (goals ++ steps ∷ []) ≡ goals_lines i goals ++ goal_lines j steps
one_more_goal i j [] steps is = let same : j ≡ i = omega (arith, is) in append-nil (goal_lines i steps) ∙ ap (λ n. goal_lines n steps) (sym same)
one_more_goal i j (g ∷ goals) steps is =
    let index : j ≡ suc i + length goals = omega (arith, is) in
    ap (λ l. goal_lines i g ++ l) (one_more_goal (suc i) j goals steps index) ∙ sym (append_assoc (goal_lines i g) (goals_lines (suc i) goals) (goal_lines j steps))

-- ---- rankings

pub rankings_count : (point : List LoopPoint) (ranks : List (List Form)) → AreRankings point ranks → length ranks ≡ length point
rankings_count [] [] all = refl
rankings_count [] (r ∷ ranks) all = absurd all
rankings_count (p ∷ point) [] all = absurd all
rankings_count (p ∷ point) (r ∷ ranks) all = let rest = rankings_count point ranks all.1 in omega (arith, rest)

pub few_rankings : (kind : CertKind) (point : List LoopPoint) (ranks : List (List Form)) → RanksFit kind point ranks → length ranks ≤ length point
few_rankings Safe point ranks none = omega (arith, ap length none)
few_rankings Terminating point ranks all = omega (arith, rankings_count point ranks all)

pub rankings_more : (front : List LoopPoint) (p : LoopPoint) (ranks : List (List Form)) (forms : List Form) → AreRankings front ranks → IsRanking p forms → AreRankings (front ++ p ∷ []) (ranks ++ forms ∷ [])
rankings_more [] p [] forms all is = (is, tt)
rankings_more [] p (r ∷ ranks) forms all is = absurd all
rankings_more (q ∷ front) p [] forms all is = absurd all
rankings_more (q ∷ front) p (r ∷ ranks) forms all is = (all.0, rankings_more front p ranks forms all.1 is)
