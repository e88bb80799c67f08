-- Each certificate can be read to its end.
use Rattle.std.proofs.Common.{◌≡◌, inl, inr, ℕ, suc, List, [], ◌∷◌, ◌++◌, length, map, refl, sym, ap, subst, ◌∙◌, append_assoc, append-nil, arith}
use Rattle.std.specs.List.{All}
use Rattle.std.proofs.lemmas.List.Elements.{All-head, All-tail}
use Rattle.std.proofs.lemmas.List.{length-append}
use Rattle.l2_cnf.specs.Steps.{Step}
use Rattle.l2_templates.specs.declared.form.Form.{Form}
use Rattle.l2_templates.specs.declared.form.Row.{Row}
use Rattle.l2_templates.specs.declared.point.LoopPoint.{LoopPoint}
use Rattle.l2_templates.specs.declared.point.LoopPoint.TheVariants.{Bottom, Rows}
use Rattle.l2_cert.specs.declared.cert.Cert.{Cert}
use Rattle.l2_cert.specs.declared.cert.CertKind.{CertKind}
use Rattle.l2_cert.specs.declared.cert.CertKind.TheVariants.{Safe, Terminating}
use Rattle.l2_cert.specs.Words.{Word}
use Rattle.l2_cert.specs.Certificate.{head_lines, before_goals, row_line, rank_line, goals_line, step_line, end_line, file_lines, loop_lines, rank_lines, loops_lines, goal_lines, goals_lines, IsForm, IsRow, IsStep, IsLoop, IsGoal, IsRanking, AreRankings, RanksFit, RanksMay, InGrammar}
use Rattle.l2_cert.specs.Machine.{State, at, GoesBy, AtFirst, AtKind, AtChecks, AtCopies, AtLoops, AtRanks, AtGoals, AtEnd, Done, last_loop, loops_left, ranks_left, rows_left, forms_left, goals_left, steps_left, with_loop, nothing}
use Rattle.l2_cert.proofs.Goes.{last_is}

pub then_by : (s t u : State) (xs ys : List (List Word)) → GoesBy s xs t → GoesBy t ys u → GoesBy s (xs ++ ys) u
then_by s t u [] ys same next = subst (λ x. GoesBy x ys u) (sym same) next
then_by s t u (x ∷ xs) ys (mid, first, rest) next = (mid, first, then_by mid t u xs ys rest next)

assoc_by : {A : Type 0} (xs : List A) (x : A) (ys : List A) → xs ++ x ∷ ys ≡ (xs ++ x ∷ []) ++ ys
assoc_by xs x ys = sym (append_assoc xs (x ∷ []) ys)

rows_go : (n : ℕ) (c : Cert) (read rows : List Row) → All IsRow rows → GoesBy (rows_left n c (length rows) read) (map row_line rows) (with_loop n c (Rows (read ++ rows)))
rows_go n c read [] all = ap (λ rs. with_loop n c (Rows rs)) (sym (append-nil read))
rows_go n c read (row ∷ rows) all = (rows_left n c (length rows) (read ++ row ∷ []), (length rows, row, refl, All-head IsRow row rows all, refl, refl), subst (λ rs. GoesBy (rows_left n c (length rows) (read ++ row ∷ [])) (map row_line rows) (with_loop n c (Rows rs))) (sym (assoc_by read row rows)) (rows_go n c (read ++ row ∷ []) rows (All-tail IsRow row rows all)))

abbrev pub with_ranking : ℕ → Cert → List Form → State
with_ranking n c forms = at (loops_left n) (record c { ranks = c.ranks ++ forms ∷ [] })

forms_go : (n : ℕ) (c : Cert) (read forms : List Form) → All IsForm forms → GoesBy (forms_left n c (length forms) read) (map rank_line forms) (with_ranking n c (read ++ forms))
forms_go n c read [] all = ap (with_ranking n c) (sym (append-nil read))
forms_go n c read (f ∷ forms) all = (forms_left n c (length forms) (read ++ f ∷ []), (length forms, f, refl, All-head IsForm f forms all, refl, refl), subst (λ fs. GoesBy (forms_left n c (length forms) (read ++ f ∷ [])) (map rank_line forms) (with_ranking n c fs)) (sym (assoc_by read f forms)) (forms_go n c (read ++ f ∷ []) forms (All-tail IsForm f forms all)))

abbrev pub with_goal : ℕ → Cert → List Step → State
with_goal n c steps = at (goals_left n) (record c { goals = c.goals ++ steps ∷ [] })

steps_go : (n : ℕ) (c : Cert) (read steps : List Step) → All IsStep steps → GoesBy (steps_left n c (length steps) read) (map step_line steps) (with_goal n c (read ++ steps))
steps_go n c read [] all = ap (with_goal n c) (sym (append-nil read))
steps_go n c read (s ∷ steps) all = (steps_left n c (length steps) (read ++ s ∷ []), (length steps, s, refl, All-head IsStep s steps all, refl, refl), subst (λ ss. GoesBy (steps_left n c (length steps) (read ++ s ∷ [])) (map step_line steps) (with_goal n c ss)) (sym (assoc_by read s steps)) (steps_go n c (read ++ s ∷ []) steps (All-tail IsStep s steps all)))

-- one loop
loop_goes : (n : ℕ) (c : Cert) (p : LoopPoint) → IsLoop p → GoesBy (at (loops_left (suc n)) c) (loop_lines (suc (length c.point)) p) (with_loop n c p)
loop_goes n c Bottom is = (with_loop n c Bottom, (n, refl, inl (refl, refl)), refl)
loop_goes n c (Rows rows) is = (rows_left n c (length rows) [], (n, refl, inr (length rows, is.0, refl, refl)), rows_go n c [] rows is.1)

-- its ranking
ranking_goes : (n : ℕ) (c : Cert) (front : List LoopPoint) (p : LoopPoint) (forms : List Form) → c.point ≡ front ++ p ∷ [] → IsRanking p forms → GoesBy (at (AtRanks n) c) (rank_lines (length c.point) forms) (with_ranking n c forms)
ranking_goes n c front p forms whole is =
    let last : last_loop c.point ≡ p = ap last_loop whole ∙ last_is front p in
    (forms_left n c (length forms) [], (length forms, is.0, subst (λ q. RanksMay q (length forms)) (sym last) is.1, refl, refl), forms_go n c [] forms is.2)

abbrev pub with_all : Cert → List LoopPoint → List (List Form) → State
with_all c point ranks = at AtGoals (record c { point = c.point ++ point; ranks = c.ranks ++ ranks })

next_index : (c : Cert) (p : LoopPoint) → length (c.point ++ p ∷ []) ≡ suc (length c.point)
next_index c p = omega (arith, length-append c.point (p ∷ []))

-- all loops of a certificate of safety
safe_go : (c : Cert) (point : List LoopPoint) → c.kind ≡ Safe → All IsLoop point → GoesBy (at (loops_left (length point)) c) (loops_lines (suc (length c.point)) point []) (with_all c point [])
safe_go c [] safe all =
    let points : c.point ≡ c.point ++ [] = sym (append-nil c.point) in
    let ranks : c.ranks ≡ c.ranks ++ [] = sym (append-nil c.ranks) in
    λ i. at AtGoals (record c { point = points i; ranks = ranks i })
safe_go c (p ∷ point) safe all =
    let wider = record c { point = c.point ++ p ∷ [] } in
    let first : GoesBy (at (loops_left (suc (length point))) c) (loop_lines (suc (length c.point)) p) (at (loops_left (length point)) wider) = subst (λ k. GoesBy (at (loops_left (suc (length point))) c) (loop_lines (suc (length c.point)) p) (at (ranks_left k (length point)) wider)) safe (loop_goes (length point) c p (All-head IsLoop p point all)) in
    let rest = safe_go wider point safe (All-tail IsLoop p point all) in
    let placed : GoesBy (at (loops_left (length point)) wider) (loops_lines (suc (suc (length c.point))) point []) (with_all c (p ∷ point) []) =
    subst (λ ps. GoesBy (at (loops_left (length point)) wider) (loops_lines (suc (suc (length c.point))) point []) (at AtGoals (record c { point = ps; ranks = c.ranks ++ [] }))) (sym (assoc_by c.point p point))
    (subst (λ i. GoesBy (at (loops_left (length point)) wider) (loops_lines (suc i) point []) (with_all wider point [])) (next_index c p) rest) in
    then_by (at (loops_left (suc (length point))) c) (at (loops_left (length point)) wider) (with_all c (p ∷ point) []) (loop_lines (suc (length c.point)) p) (loops_lines (suc (suc (length c.point))) point []) first placed

-- and of one of termination
terminating_go : (c : Cert) (point : List LoopPoint) (ranks : List (List Form)) → c.kind ≡ Terminating → All IsLoop point → AreRankings point ranks → GoesBy (at (loops_left (length point)) c) (loops_lines (suc (length c.point)) point ranks) (with_all c point ranks)
terminating_go c [] [] kind all are =
    let points : c.point ≡ c.point ++ [] = sym (append-nil c.point) in
    let ranks : c.ranks ≡ c.ranks ++ [] = sym (append-nil c.ranks) in
    λ i. at AtGoals (record c { point = points i; ranks = ranks i })
terminating_go c [] (r ∷ ranks) kind all are = absurd are
terminating_go c (p ∷ point) [] kind all are = absurd are
terminating_go c (p ∷ point) (r ∷ ranks) kind all are =
    let start = at (loops_left (suc (length point))) c in
    let wider = record c { point = c.point ++ p ∷ [] } in
    let mid = at (AtRanks (length point)) wider in
    let ranked = record wider { ranks = c.ranks ++ r ∷ [] } in
    let next = at (loops_left (length point)) ranked in
    let index = suc (length c.point) in
    let first : GoesBy start (loop_lines index p) mid = subst (λ k. GoesBy start (loop_lines index p) (at (ranks_left k (length point)) wider)) kind (loop_goes (length point) c p (All-head IsLoop p point all)) in
    let second : GoesBy mid (rank_lines index r) next = subst (λ i. GoesBy mid (rank_lines i r) next) (next_index c p) (ranking_goes (length point) wider c.point p r refl are.0) in
    let rest = terminating_go ranked point ranks kind (All-tail IsLoop p point all) are.1 in
    let placed : GoesBy next (loops_lines (suc index) point ranks) (with_all c (p ∷ point) (r ∷ ranks)) =
    subst (λ ps. GoesBy next (loops_lines (suc index) point ranks) (at AtGoals (record c { point = ps; ranks = c.ranks ++ r ∷ ranks }))) (sym (assoc_by c.point p point))
    (subst (λ rs. GoesBy next (loops_lines (suc index) point ranks) (at AtGoals (record c { point = (c.point ++ p ∷ []) ++ point; ranks = rs }))) (sym (assoc_by c.ranks r ranks))
    (subst (λ i. GoesBy next (loops_lines (suc i) point ranks) (with_all ranked point ranks)) (next_index c p) rest)) in
    then_by start next (with_all c (p ∷ point) (r ∷ ranks)) (loop_lines index p ++ rank_lines index r) (loops_lines (suc index) point ranks) (then_by start mid next (loop_lines index p) (rank_lines index r) first second) placed

pub loops_go : (kind : CertKind) (c : Cert) (point : List LoopPoint) (ranks : List (List Form)) → c.kind ≡ kind → All IsLoop point → RanksFit kind point ranks → GoesBy (at (loops_left (length point)) c) (loops_lines (suc (length c.point)) point ranks) (with_all c point ranks)
loops_go Safe c point ranks kind all none = subst (λ rs. GoesBy (at (loops_left (length point)) c) (loops_lines (suc (length c.point)) point rs) (with_all c point rs)) (sym none) (safe_go c point kind all)
loops_go Terminating c point ranks kind all are = terminating_go c point ranks kind all are

abbrev pub with_goals : Cert → List (List Step) → State
with_goals c goals = at AtEnd (record c { goals = c.goals ++ goals })

pub goals_go : (c : Cert) (goals : List (List Step)) → All IsGoal goals → GoesBy (at (goals_left (length goals)) c) (goals_lines (suc (length c.goals)) goals) (with_goals c goals)
goals_go c [] all = ap (λ gs. at AtEnd (record c { goals = gs })) (sym (append-nil c.goals))
goals_go c (g ∷ goals) all =
    let start = at (goals_left (suc (length goals))) c in
    let wider = record c { goals = c.goals ++ g ∷ [] } in
    let next = at (goals_left (length goals)) wider in
    let index = suc (length c.goals) in
    let fits = All-head IsGoal g goals all in
    let first : GoesBy start (goal_lines index g) next = (steps_left (length goals) c (length g) [], (length goals, length g, refl, fits.0, refl, refl), steps_go (length goals) c [] g fits.1) in
    let rest = goals_go wider goals (All-tail IsGoal g goals all) in
    let count : length (c.goals ++ g ∷ []) ≡ suc (length c.goals) = omega (arith, length-append c.goals (g ∷ [])) in
    let placed : GoesBy next (goals_lines (suc index) goals) (with_goals c (g ∷ goals)) =
    subst (λ gs. GoesBy next (goals_lines (suc index) goals) (at AtEnd (record c { goals = gs }))) (sym (assoc_by c.goals g goals))
    (subst (λ i. GoesBy next (goals_lines (suc i) goals) (with_goals wider goals)) count rest) in
    then_by start next (with_goals c (g ∷ goals)) (goal_lines index g) (goals_lines (suc index) goals) first placed

pub file_goes : (c : Cert) → InGrammar c → GoesBy (at AtFirst nothing) (file_lines c) (at Done c)
file_goes c fits =
    let n = length c.point in
    let headed : Cert = record nothing { kind = c.kind; overflow = c.overflow; k = c.k } in
    let looped : Cert = record c { goals = [] } in
    let head : GoesBy (at AtFirst nothing) (head_lines c n) (at (loops_left n) headed) = (
      at AtKind nothing,
      (refl, refl),
      (
        at AtChecks (record nothing { kind = c.kind }),
        (c.kind, refl, refl),
        (
          at AtCopies (record nothing { kind = c.kind; overflow = c.overflow }),
          (c.overflow, refl, refl),
          (
            at AtLoops headed,
            (c.k, fits.some_copies, fits.most_copies, refl, refl),
            (at (loops_left n) headed, (n, fits.loops, refl, refl), refl),
          ),
        ),
      ),
    ) in
    let loops : GoesBy (at (loops_left n) headed) (loops_lines 1 c.point c.ranks) (at AtGoals looped) = loops_go c.kind headed c.point c.ranks refl fits.point fits.ranks in
    let goals : GoesBy (at AtGoals looped) (goals_line (length c.goals) ∷ []) (at (goals_left (length c.goals)) looped) = (at (goals_left (length c.goals)) looped, (length c.goals, fits.goal_count, refl, refl), refl) in
    let each : GoesBy (at (goals_left (length c.goals)) looped) (goals_lines 1 c.goals) (at AtEnd c) = goals_go looped c.goals fits.goals in
    let last : GoesBy (at AtEnd c) (end_line ∷ []) (at Done c) = (at Done c, (refl, refl), refl) in
    let before = then_by (at AtFirst nothing) (at (loops_left n) headed) (at AtGoals looped) (head_lines c n) (loops_lines 1 c.point c.ranks) head loops in
    let counted = then_by (at AtFirst nothing) (at AtGoals looped) (at (goals_left (length c.goals)) looped) (before_goals c) (goals_line (length c.goals) ∷ []) before goals in
    let all = then_by (at AtFirst nothing) (at (goals_left (length c.goals)) looped) (at AtEnd c) (before_goals c ++ goals_line (length c.goals) ∷ []) (goals_lines 1 c.goals) counted each in
    then_by (at AtFirst nothing) (at AtEnd c) (at Done c) ((before_goals c ++ goals_line (length c.goals) ∷ []) ++ goals_lines 1 c.goals) (end_line ∷ []) all last
