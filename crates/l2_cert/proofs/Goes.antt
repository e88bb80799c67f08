-- From line to line: what was read begins some certificate, and each certificate can be read.
use Rattle.std.proofs.Common.{◌≡◌, inl, inr, ℕ, suc, ◌+◌, List, [], ◌∷◌, ◌++◌, length, map, refl, sym, ap, subst, ◌∙◌, append_assoc, append-nil, arith}
use Rattle.std.specs.List.{All}
use Rattle.std.proofs.lemmas.List.{length-append, map-append}
use Rattle.std.proofs.lemmas.List.Elements.{All-nil, All-cons, All-append}
use Rattle.l2_templates.specs.declared.point.LoopPoint.{LoopPoint}
use Rattle.l2_templates.specs.declared.point.LoopPoint.TheVariants.{Bottom}
use Rattle.l2_cert.specs.declared.cert.Cert.{Cert}
use Rattle.l2_cert.specs.Words.{Word}
use Rattle.l2_cert.specs.declared.cert.CertKind.{CertKind}
use Rattle.l2_cert.specs.declared.cert.CertKind.TheVariants.{Safe, Terminating}
use Rattle.l2_cert.specs.Certificate.{bottom_line, loops_lines, goals_lines, head_lines, before_goals, goals_line, rows_line, ranks_line, goal_line, row_line, rank_line, step_line, end_line, IsGoal, IsLoop, IsRow, IsForm, IsStep, RanksFit, RanksMay}
use Rattle.l2_cert.specs.Machine.{Place, State, at, Goes, GoesBy, AtFirst, AtKind, AtChecks, AtCopies, AtLoops, AtLoop, AtRow, AtRanks, AtRank, AtGoals, AtGoal, AtStep, AtEnd, Done, last_loop}
use Rattle.l2_cert.specs.Kept.{seen, seen_at, Kept, KeptAt, loops_so_far, goals_so_far, HasLoops, HasGoals}
use Rattle.l2_cert.proofs.Stands.{Stands, loops_stand, loop_stands, rows_stand, forms_stand, goals_stand, steps_stand}

-- another state
moved : {s t : State} {lines : List (List Word)} → t ≡ s → Stands s lines → Stands t lines
moved {lines = lines} is stands = subst (λ x. Stands x lines) (sym is) stands

-- the same lines
counted : {s : State} {lines others : List (List Word)} → lines ≡ others → Stands s lines → Stands s others
counted {s = s} is stands = subst (Stands s) is stands

behind : (front : List (List Word)) (first : List Word) (xs : List (List Word)) (x : List Word) → front ++ first ∷ (xs ++ x ∷ []) ≡ (front ++ first ∷ xs) ++ x ∷ []
behind front first xs x = sym (append_assoc front (first ∷ xs) (x ∷ []))

one_more : {A : Type 0} (xs : List A) (x : A) (m : ℕ) → length xs + suc m ≡ length (xs ++ x ∷ []) + m
one_more xs x m = omega (arith, length-append xs (x ∷ []))

nothing_before : (n : ℕ) → 0 + n ≡ n
nothing_before n = omega arith

fits_none : (kind : CertKind) → RanksFit kind [] []
fits_none Safe = refl
fits_none Terminating = tt

pub last_is : (front : List LoopPoint) (p : LoopPoint) → last_loop (front ++ p ∷ []) ≡ p
last_is [] p = refl
last_is (q ∷ []) p = refl
last_is (q ∷ r ∷ front) p = last_is (r ∷ front) p

-- one more line is kept, and stands behind those that were read
pub goes_on : (place : Place) (c : Cert) (t : State) (line : List Word) → KeptAt place c → Goes (at place c) line t → Stands t (seen_at place c ++ line ∷ [])
goes_on AtFirst c t line fresh (is, next) = moved next (record { kept = record { no_loop = fresh.no_loop; no_ranking = fresh.no_ranking; no_goal = fresh.no_goal }; lines_are = ap (λ l. l ∷ []) (sym is) })
goes_on AtKind c t line fresh (kind, is, next) = moved next (record { kept = record { no_loop = fresh.no_loop; no_ranking = fresh.no_ranking; no_goal = fresh.no_goal }; lines_are = ap (λ l. seen_at AtKind c ++ l ∷ []) (sym is) })
goes_on AtChecks c t line fresh (overflow, is, next) = moved next (record { kept = record { no_loop = fresh.no_loop; no_ranking = fresh.no_ranking; no_goal = fresh.no_goal }; lines_are = ap (λ l. seen_at AtChecks c ++ l ∷ []) (sym is) })
goes_on AtCopies c t line fresh (k, some, most, is, next) = moved next (record { kept = (record { no_loop = fresh.no_loop; no_ranking = fresh.no_ranking; no_goal = fresh.no_goal }, (some, most)); lines_are = ap (λ l. seen_at AtCopies c ++ l ∷ []) (sym is) })
goes_on AtLoops c t line (fresh, copies) (n, small, is, next) =
    let has : HasLoops c n = record { copies = copies; few = omega (arith, small, ap length fresh.no_loop); point = subst (All IsLoop) (sym fresh.no_loop) (All-nil IsLoop); no_goal = fresh.no_goal } in
    let ranks : RanksFit c.kind c.point c.ranks = subst (λ point. RanksFit c.kind point c.ranks) (sym fresh.no_loop) (subst (RanksFit c.kind []) (sym fresh.no_ranking) (fits_none c.kind)) in
    moved next (counted
    (ap (λ point. head_lines c (length point + n) ++ loops_lines 1 point c.ranks) fresh.no_loop
    ∙ append-nil (head_lines c (0 + n))
    ∙ ap (head_lines c) (nothing_before n)
    ∙ ap (λ l. seen_at AtLoops c ++ l ∷ []) (sym is)) (loops_stand n c has ranks))
goes_on (AtLoop n) c t line (some, has, ranks) (m, left, inl (is, next)) =
    moved next (counted
    (ap (λ k. loops_so_far c k ++ bottom_line (suc (length c.point)) ∷ []) (sym left)
    ∙ ap (λ l. loops_so_far c n ++ l ∷ []) (sym is)) (loop_stands c.kind m c Bottom refl (subst (HasLoops c) left has) ranks tt))
goes_on (AtLoop n) c t line (some, has, ranks) (m, left, inr (r, small, is, next)) =
    moved next (counted
    (ap (λ k. loops_so_far c k ++ rows_line (suc (length c.point)) (0 + r) ∷ []) (sym left)
    ∙ ap (λ k. loops_so_far c n ++ rows_line (suc (length c.point)) k ∷ []) (nothing_before r)
    ∙ ap (λ l. loops_so_far c n ++ l ∷ []) (sym is)) (rows_stand r m c [] (subst (HasLoops c) left has) ranks (omega (arith, small)) (All-nil IsRow)))
goes_on (AtRow n r rows) c t line (some, has, ranks, few, all) (m, row, left, row_is, is, next) =
    let one : length rows + r ≡ length (rows ++ row ∷ []) + m = ap (λ k. length rows + k) left ∙ one_more rows row m in
    let stands = rows_stand m n c (rows ++ row ∷ []) has ranks (omega (arith, few, one)) (All-append IsRow rows (row ∷ []) all (All-cons IsRow row [] row_is (All-nil IsRow))) in
    moved next (counted
    (ap (λ k. loops_so_far c (suc n) ++ rows_line (suc (length c.point)) k ∷ map row_line (rows ++ row ∷ [])) (sym one)
    ∙ ap (λ l. loops_so_far c (suc n) ++ rows_line (suc (length c.point)) (length rows + r) ∷ l) (map-append row_line rows (row ∷ []))
    ∙ behind (loops_so_far c (suc n)) (rows_line (suc (length c.point)) (length rows + r)) (map row_line rows) (row_line row)
    ∙ ap (λ l. seen_at (AtRow n r rows) c ++ l ∷ []) (sym is)) stands)
goes_on (AtRanks n) c t line (has, lacks) (m, small, may, is, next) =
    let last : last_loop c.point ≡ lacks.last = ap last_loop lacks.is ∙ last_is lacks.front lacks.last in
    let stands = forms_stand m n c [] has lacks (omega (arith, small)) (subst (RanksMay lacks.last) (sym (nothing_before m)) (subst (λ p. RanksMay p m) last may)) (All-nil IsForm) in
    moved next (counted (ap (λ k. loops_so_far c n ++ ranks_line (length c.point) k ∷ []) (nothing_before m) ∙ ap (λ l. loops_so_far c n ++ l ∷ []) (sym is)) stands)
goes_on (AtRank n r forms) c t line (some, has, lacks, few, may, all) (m, f, left, f_is, is, next) =
    let one : length forms + r ≡ length (forms ++ f ∷ []) + m = ap (λ k. length forms + k) left ∙ one_more forms f m in
    let stands = forms_stand m n c (forms ++ f ∷ []) has lacks (omega (arith, few, one)) (subst (RanksMay lacks.last) one may) (All-append IsForm forms (f ∷ []) all (All-cons IsForm f [] f_is (All-nil IsForm))) in
    moved next (counted
    (ap (λ k. loops_so_far c n ++ ranks_line (length c.point) k ∷ map rank_line (forms ++ f ∷ [])) (sym one)
    ∙ ap (λ l. loops_so_far c n ++ ranks_line (length c.point) (length forms + r) ∷ l) (map-append rank_line forms (f ∷ []))
    ∙ behind (loops_so_far c n) (ranks_line (length c.point) (length forms + r)) (map rank_line forms) (rank_line f)
    ∙ ap (λ l. seen_at (AtRank n r forms) c ++ l ∷ []) (sym is)) stands)
goes_on AtGoals c t line (has, ranks) (n, small, is, next) =
    let has_none : HasGoals c n = record { copies = has.copies; loops = omega (arith, has.few); point = has.point; ranks = ranks; few = omega (arith, small, ap length has.no_goal); goals = subst (All IsGoal) (sym has.no_goal) (All-nil IsGoal) } in
    moved next (counted
    (ap (λ goals. (before_goals c ++ goals_line (length goals + n) ∷ []) ++ goals_lines 1 goals) has.no_goal
    ∙ append-nil (before_goals c ++ goals_line (0 + n) ∷ [])
    ∙ ap (λ k. before_goals c ++ goals_line k ∷ []) (nothing_before n)
    ∙ ap (λ l. before_goals c ++ l ∷ []) (sym is)) (goals_stand n c has_none))
goes_on (AtGoal n) c t line (some, has) (m, r, left, small, is, next) =
    moved next (counted
    (ap (λ k. goals_so_far c k ++ goal_line (suc (length c.goals)) (0 + r) ∷ []) (sym left)
    ∙ ap (λ k. goals_so_far c n ++ goal_line (suc (length c.goals)) k ∷ []) (nothing_before r)
    ∙ ap (λ l. goals_so_far c n ++ l ∷ []) (sym is)) (steps_stand r m c [] (subst (HasGoals c) left has) (omega (arith, small)) (All-nil IsStep)))
goes_on (AtStep n r steps) c t line (some, has, few, all) (m, s, left, s_is, is, next) =
    let one : length steps + r ≡ length (steps ++ s ∷ []) + m = ap (λ k. length steps + k) left ∙ one_more steps s m in
    let stands = steps_stand m n c (steps ++ s ∷ []) has (omega (arith, few, one)) (All-append IsStep steps (s ∷ []) all (All-cons IsStep s [] s_is (All-nil IsStep))) in
    moved next (counted
    (ap (λ k. goals_so_far c (suc n) ++ goal_line (suc (length c.goals)) k ∷ map step_line (steps ++ s ∷ [])) (sym one)
    ∙ ap (λ l. goals_so_far c (suc n) ++ goal_line (suc (length c.goals)) (length steps + r) ∷ l) (map-append step_line steps (s ∷ []))
    ∙ behind (goals_so_far c (suc n)) (goal_line (suc (length c.goals)) (length steps + r)) (map step_line steps) (step_line s)
    ∙ ap (λ l. seen_at (AtStep n r steps) c ++ l ∷ []) (sym is)) stands)
goes_on AtEnd c t line has (is, next) = moved next (record {
  kept = record { some_copies = has.copies.0; most_copies = has.copies.1; loops = has.loops; point = has.point; ranks = has.ranks; goal_count = omega (arith, has.few); goals = has.goals };
  lines_are =
      let all : length c.goals ≡ length c.goals + 0 = omega arith in
      ap (λ k. ((before_goals c ++ goals_line k ∷ []) ++ goals_lines 1 c.goals) ++ end_line ∷ []) all
      ∙ ap (λ l. goals_so_far c 0 ++ l ∷ []) (sym is);
})
goes_on Done c t line kept never = absurd never

pub goes_on_by : (s t : State) (lines : List (List Word)) → Kept s → GoesBy s lines t → Stands t (seen s ++ lines)
goes_on_by s t [] kept same = moved (sym same) (record { kept = kept; lines_are = sym (append-nil (seen s)) })
goes_on_by s t (line ∷ lines) kept (mid, first, then) =
    let stands = goes_on s.place s.cert mid line kept first in
    counted (ap (λ l. l ++ lines) stands.lines_are ∙ append_assoc (seen s) (line ∷ []) lines) (goes_on_by mid t lines stands.kept then)
