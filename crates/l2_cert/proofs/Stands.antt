-- What each line keeps: what was read is in range, and the line stands behind the lines that were read.
use Rattle.std.proofs.Common.{◌≡◌, ℕ, zero, suc, ◌+◌, ◌<◌, ◌^◌, List, [], ◌∷◌, ◌++◌, length, map, refl, sym, ap, subst, ◌∙◌, append_assoc, arith}
use Rattle.std.specs.List.{All}
use Rattle.std.proofs.lemmas.List.{length-append}
use Rattle.std.proofs.lemmas.List.Elements.{All-nil, All-cons, All-append}
use Rattle.l2_cnf.specs.Steps.{Step}
use Rattle.l2_templates.specs.declared.form.Form.{Form}
use Rattle.l2_templates.specs.declared.form.Row.{Row}
use Rattle.l2_templates.specs.declared.point.LoopPoint.{LoopPoint}
use Rattle.l2_templates.specs.declared.point.LoopPoint.TheVariants.{Rows}
use Rattle.l2_cert.specs.declared.cert.Cert.{Cert}
use Rattle.l2_cert.specs.declared.cert.CertKind.{CertKind}
use Rattle.l2_cert.specs.declared.cert.CertKind.TheVariants.{Safe, Terminating}
use Rattle.l2_cert.specs.Words.{Word}
use Rattle.l2_cert.specs.Certificate.{loop_lines, rank_lines, loops_lines, goal_lines, goals_lines, head_lines, before_goals, goals_line, row_line, rank_line, step_line, rows_line, ranks_line, goal_line, AreRankings, IsRanking, IsLoop, IsRow, IsForm, IsStep, IsGoal, RanksFit, RanksMay}
use Rattle.l2_cert.specs.Machine.{State, at, loops_left, ranks_left, rows_left, forms_left, goals_left, steps_left}
use Rattle.l2_cert.specs.Kept.{seen, Kept, loops_so_far, goals_so_far, HasLoops, HasGoals, LacksOne}
use Rattle.l2_cert.proofs.Files.{few_rankings, one_more_goal, one_more_loop, one_more_ranking, rankings_more}

-- what a state has read, and that it is kept
pub record Stands (s : State) (lines : List (List Word)) : Type 0 where
  pub kept : Kept s
  pub lines_are : seen s ≡ lines

add_nothing : (n : ℕ) → n + 0 ≡ n
add_nothing n = omega arith

-- ---- loops

no_loops_left : (c : Cert) → loops_so_far c 0 ≡ before_goals c
no_loops_left c = ap (λ n. head_lines c n ++ loops_lines 1 c.point c.ranks) (add_nothing (length c.point))

pub loops_stand : (n : ℕ) (c : Cert) → HasLoops c n → RanksFit c.kind c.point c.ranks → Stands (at (loops_left n) c) (loops_so_far c n)
loops_stand zero c has ranks = record { kept = (has, ranks); lines_are = sym (no_loops_left c) }
loops_stand (suc n) c has ranks = record { kept = (omega arith, has, ranks); lines_are = refl }

-- with one more loop, whose ranking isn't read yet
pub loop_stands : (kind : CertKind) (n : ℕ) (c : Cert) (p : LoopPoint) → c.kind ≡ kind → HasLoops c (suc n) → RanksFit c.kind c.point c.ranks → IsLoop p → Stands (at (ranks_left kind n) (record c { point = c.point ++ p ∷ [] })) (loops_so_far c (suc n) ++ loop_lines (suc (length c.point)) p)
loop_stands kind n c p is has ranks in_range = go kind is
  where
    wider : Cert
    wider = record c { point = c.point ++ p ∷ [] }

    count : length (c.point ++ p ∷ []) + n ≡ length c.point + suc n
    count = omega (arith, length-append c.point (p ∷ []))

    has_one : HasLoops wider n
    has_one = record { copies = has.copies; few = omega (arith, has.few, count); point = All-append IsLoop c.point (p ∷ []) has.point (All-cons IsLoop p [] in_range (All-nil IsLoop)); no_goal = has.no_goal }

    added : loops_so_far wider n ≡ loops_so_far c (suc n) ++ loop_lines (suc (length c.point)) p
    added =
        let index : suc (length c.point) ≡ 1 + length c.point = omega arith in
        ap (λ m. head_lines c m ++ loops_lines 1 (c.point ++ p ∷ []) c.ranks) count
        ∙ ap (λ l. head_lines c (length c.point + suc n) ++ l) (one_more_loop 1 (suc (length c.point)) c.point c.ranks p (few_rankings c.kind c.point c.ranks ranks) index)
        ∙ sym (append_assoc (head_lines c (length c.point + suc n)) (loops_lines 1 c.point c.ranks) (loop_lines (suc (length c.point)) p))

    go : (kind : CertKind) → c.kind ≡ kind → Stands (at (ranks_left kind n) wider) (loops_so_far c (suc n) ++ loop_lines (suc (length c.point)) p)
    go Safe safe =
        let none : c.ranks ≡ [] = subst (λ k. RanksFit k c.point c.ranks) safe ranks in
        let stands = loops_stand n wider has_one (subst (λ k. RanksFit k (c.point ++ p ∷ []) c.ranks) (sym safe) none) in
        record { kept = stands.kept; lines_are = stands.lines_are ∙ added }
    go Terminating terminating =
        record { kept = (has_one, record { kind = terminating; front = c.point; last = p; is = refl; ranks = subst (λ k. RanksFit k c.point c.ranks) terminating ranks }); lines_are = added }

pub rows_stand : (m n : ℕ) (c : Cert) (rows : List Row) → HasLoops c (suc n) → RanksFit c.kind c.point c.ranks → length rows + m < 2 ^ 32 → All IsRow rows → Stands (rows_left n c m rows) (loops_so_far c (suc n) ++ rows_line (suc (length c.point)) (length rows + m) ∷ map row_line rows)
rows_stand zero n c rows has ranks few all =
    let stands = loop_stands c.kind n c (Rows rows) refl has ranks (omega (arith, few), all) in
    record { kept = stands.kept; lines_are = stands.lines_are ∙ ap (λ r. loops_so_far c (suc n) ++ rows_line (suc (length c.point)) r ∷ map row_line rows) (sym (add_nothing (length rows))) }
rows_stand (suc m) n c rows has ranks few all = record { kept = (omega arith, has, ranks, few, all); lines_are = refl }

-- ---- rankings

pub forms_stand : (m n : ℕ) (c : Cert) (forms : List Form) → HasLoops c n → (lacks : LacksOne c) → length forms + m < 2 ^ 32 → RanksMay lacks.last (length forms + m) → All IsForm forms → Stands (forms_left n c m forms) (loops_so_far c n ++ ranks_line (length c.point) (length forms + m) ∷ map rank_line forms)
forms_stand zero n c forms has lacks few may all = record { kept = stands.kept; lines_are = stands.lines_are ∙ added }
  where
    wider : Cert
    wider = record c { ranks = c.ranks ++ forms ∷ [] }

    has_same : HasLoops wider n
    has_same = record { copies = has.copies; few = has.few; point = has.point; no_goal = has.no_goal }

    ranking : IsRanking lacks.last forms
    ranking = (omega (arith, few), subst (RanksMay lacks.last) (add_nothing (length forms)) may, all)

    fit : RanksFit c.kind c.point (c.ranks ++ forms ∷ [])
    fit = subst (λ k. RanksFit k c.point (c.ranks ++ forms ∷ [])) (sym lacks.kind) (subst (λ point. AreRankings point (c.ranks ++ forms ∷ [])) (sym lacks.is) (rankings_more lacks.front lacks.last c.ranks forms lacks.ranks ranking))

    stands : Stands (at (loops_left n) wider) (loops_so_far wider n)
    stands = loops_stand n wider has_same fit

    count : length c.point ≡ 1 + length lacks.front
    count = omega (arith, ap length lacks.is, length-append lacks.front (lacks.last ∷ []))

    lines : loops_lines 1 c.point (c.ranks ++ forms ∷ []) ≡ loops_lines 1 c.point c.ranks ++ rank_lines (length c.point) forms
    lines =
        ap (λ point. loops_lines 1 point (c.ranks ++ forms ∷ [])) lacks.is
        ∙ one_more_ranking 1 (length c.point) lacks.front lacks.last c.ranks forms lacks.ranks count
        ∙ ap (λ point. loops_lines 1 point c.ranks ++ rank_lines (length c.point) forms) (sym lacks.is)

    added : loops_so_far wider n ≡ loops_so_far c n ++ ranks_line (length c.point) (length forms + 0) ∷ map rank_line forms
    added =
        ap (λ l. head_lines c (length c.point + n) ++ l) lines
        ∙ sym (append_assoc (head_lines c (length c.point + n)) (loops_lines 1 c.point c.ranks) (rank_lines (length c.point) forms))
        ∙ ap (λ r. loops_so_far c n ++ ranks_line (length c.point) r ∷ map rank_line forms) (sym (add_nothing (length forms)))
forms_stand (suc m) n c forms has lacks few may all = record { kept = (omega arith, has, lacks, few, may, all); lines_are = refl }

-- ---- goals

pub goals_stand : (n : ℕ) (c : Cert) → HasGoals c n → Stands (at (goals_left n) c) (goals_so_far c n)
goals_stand zero c has = record { kept = has; lines_are = refl }
goals_stand (suc n) c has = record { kept = (omega arith, has); lines_are = refl }

pub steps_stand : (m n : ℕ) (c : Cert) (steps : List Step) → HasGoals c (suc n) → length steps + m < 2 ^ 62 → All IsStep steps → Stands (steps_left n c m steps) (goals_so_far c (suc n) ++ goal_line (suc (length c.goals)) (length steps + m) ∷ map step_line steps)
steps_stand zero n c steps has few all = record { kept = stands.kept; lines_are = stands.lines_are ∙ added }
  where
    wider : Cert
    wider = record c { goals = c.goals ++ steps ∷ [] }

    count : length (c.goals ++ steps ∷ []) + n ≡ length c.goals + suc n
    count = omega (arith, length-append c.goals (steps ∷ []))

    has_one : HasGoals wider n
    has_one = record { copies = has.copies; loops = has.loops; point = has.point; ranks = has.ranks; few = omega (arith, has.few, count); goals = All-append IsGoal c.goals (steps ∷ []) has.goals (All-cons IsGoal steps [] (omega (arith, few), all) (All-nil IsGoal)) }

    stands : Stands (at (goals_left n) wider) (goals_so_far wider n)
    stands = goals_stand n wider has_one

    added : goals_so_far wider n ≡ goals_so_far c (suc n) ++ goal_line (suc (length c.goals)) (length steps + 0) ∷ map step_line steps
    added =
        let index : suc (length c.goals) ≡ 1 + length c.goals = omega arith in
        ap (λ m. (before_goals c ++ goals_line m ∷ []) ++ goals_lines 1 (c.goals ++ steps ∷ [])) count
        ∙ ap (λ l. (before_goals c ++ goals_line (length c.goals + suc n) ∷ []) ++ l) (one_more_goal 1 (suc (length c.goals)) c.goals steps index)
        ∙ sym (append_assoc (before_goals c ++ goals_line (length c.goals + suc n) ∷ []) (goals_lines 1 c.goals) (goal_lines (suc (length c.goals)) steps))
        ∙ ap (λ r. goals_so_far c (suc n) ++ goal_line (suc (length c.goals)) r ∷ map step_line steps) (sym (add_nothing (length steps)))
steps_stand (suc m) n c steps has few all = record { kept = (omega arith, has, few, all); lines_are = refl }
