-- What was read can be finished, so it begins some certificate.
use Rattle.std.proofs.Common.{◌≡◌, inl, ℕ, zero, suc, ◌≤◌, true, false, List, [], ◌∷◌, ◌++◌, length, refl, arith, pos, Some}
use Rattle.std.proofs.lemmas.Int.{ints}
use Rattle.std.proofs.lemmas.List.Elements.{All-nil}
use Rattle.l2_cnf.specs.Steps.{Step}
use Rattle.l2_templates.specs.declared.form.Form.{Form}
use Rattle.l2_templates.specs.declared.form.Row.{Row}
use Rattle.l2_templates.specs.declared.point.LoopPoint.{LoopPoint}
use Rattle.l2_templates.specs.declared.point.LoopPoint.TheVariants.{Bottom, Rows}
use Rattle.l2_cert.specs.declared.cert.Cert.{Cert}
use Rattle.l2_cert.specs.declared.cert.CertKind.{CertKind}
use Rattle.l2_cert.specs.declared.cert.CertKind.TheVariants.{Safe, Terminating}
use Rattle.l2_cert.specs.Words.{Word}
use Rattle.l2_cert.specs.Certificate.{first_line, kind_line, checks_line, copies_line, loops_line, bottom_line, row_line, ranks_line, rank_line, goals_line, goal_line, step_line, end_line, file_lines, IsForm, IsRow, IsStep, IsLiteral, IsNumber, RanksMay, InGrammar}
use Rattle.l2_cert.specs.Machine.{State, at, Goes, GoesBy, AtFirst, AtKind, AtChecks, AtCopies, AtLoops, AtLoop, AtRow, AtRanks, AtRank, AtGoals, AtGoal, AtStep, AtEnd, Done, last_loop, loops_left, ranks_left, rows_left, forms_left, goals_left, steps_left, with_loop}
use Rattle.l2_cert.specs.Kept.{seen, Kept}
use Rattle.l2_cert.proofs.Goes.{goes_on_by}

pub record Finishes (s : State) : Type 0 where
  pub lines : List (List Word)
  pub cert : Cert
  pub goes : GoesBy s lines (at Done cert)

first_then : (s t : State) (line : List Word) → Goes s line t → Finishes t → Finishes s
first_then s t line goes rest = record { lines = line ∷ rest.lines; cert = rest.cert; goes = (t, goes, rest.goes) }

abbrev pub one_form : Form
one_form = record { first = 1; plus = true; second = 0; second_plus = true }

one_form_is : IsForm one_form
one_form_is = record { some = omega arith; first_small = omega arith; second_small = omega arith; second_is = refl }

abbrev pub one_row : Row
one_row = record { form = one_form; bound = Some (pos 0) }

one_row_is : IsRow one_row
one_row_is = record { bounded = (omega (arith, ints), omega (arith, ints)); formed = one_form_is }

abbrev pub one_step : Step
one_step = record { number = 1; clause = []; hints = [] }

one_step_is : IsStep one_step
one_step_is = record { number = (omega arith, omega arith); clause = All-nil IsLiteral; hints = All-nil IsNumber }

no_goal : (n : ℕ) (c : Cert) → Finishes (at (goals_left n) c)
no_goal zero c = record { lines = end_line ∷ []; cert = c; goes = (at Done c, (refl, refl), refl) }
no_goal (suc n) c = first_then (at (AtGoal (suc n)) c) (steps_left n c 0 []) (goal_line (suc (length c.goals)) 0) (n, 0, refl, omega arith, refl, refl) (no_goal n (record c { goals = c.goals ++ [] ∷ [] }))

steps_finish : (m n : ℕ) (c : Cert) (steps : List Step) → Finishes (steps_left n c m steps)
steps_finish zero n c steps = no_goal n (record c { goals = c.goals ++ steps ∷ [] })
steps_finish (suc m) n c steps = first_then (at (AtStep n (suc m) steps) c) (steps_left n c m (steps ++ one_step ∷ [])) (step_line one_step) (m, one_step, refl, one_step_is, refl, refl) (steps_finish m n c (steps ++ one_step ∷ []))

goals_finish : (c : Cert) → Finishes (at AtGoals c)
goals_finish c = first_then (at AtGoals c) (at AtEnd c) (goals_line 0) (0, omega arith, refl, refl) (no_goal 0 c)

may_be_none : (p : LoopPoint) → RanksMay p 0
may_be_none Bottom = refl
may_be_none (Rows rows) = tt

left_finish : (kind : CertKind) (n : ℕ) (c : Cert) → ((c : Cert) → Finishes (at (loops_left n) c)) → Finishes (at (ranks_left kind n) c)
left_finish Safe n c loops = loops c
left_finish Terminating n c loops = first_then (at (AtRanks n) c) (forms_left n c 0 []) (ranks_line (length c.point) 0) (0, omega arith, may_be_none (last_loop c.point), refl, refl) (loops (record c { ranks = c.ranks ++ [] ∷ [] }))

loops_finish : (n : ℕ) (c : Cert) → Finishes (at (loops_left n) c)
loops_finish zero c = goals_finish c
loops_finish (suc n) c = first_then (at (AtLoop (suc n)) c) (with_loop n c Bottom) (bottom_line (suc (length c.point))) (n, refl, inl (refl, refl)) (left_finish c.kind n (record c { point = c.point ++ Bottom ∷ [] }) (loops_finish n))

rows_finish : (m n : ℕ) (c : Cert) (rows : List Row) → Finishes (rows_left n c m rows)
rows_finish zero n c rows = left_finish c.kind n (record c { point = c.point ++ Rows rows ∷ [] }) (loops_finish n)
rows_finish (suc m) n c rows = first_then (at (AtRow n (suc m) rows) c) (rows_left n c m (rows ++ one_row ∷ [])) (row_line one_row) (m, one_row, refl, one_row_is, refl, refl) (rows_finish m n c (rows ++ one_row ∷ []))

forms_finish : (m n : ℕ) (c : Cert) (forms : List Form) → Finishes (forms_left n c m forms)
forms_finish zero n c forms = loops_finish n (record c { ranks = c.ranks ++ forms ∷ [] })
forms_finish (suc m) n c forms = first_then (at (AtRank n (suc m) forms) c) (forms_left n c m (forms ++ one_form ∷ [])) (rank_line one_form) (m, one_form, refl, one_form_is, refl, refl) (forms_finish m n c (forms ++ one_form ∷ []))

from_loops : (c : Cert) → Finishes (at AtLoops c)
from_loops c = first_then (at AtLoops c) (at AtGoals c) (loops_line 0) (0, omega arith, refl, refl) (goals_finish c)

from_copies : (c : Cert) → Finishes (at AtCopies c)
from_copies c = first_then (at AtCopies c) (at AtLoops (record c { k = 1 })) (copies_line 1) (1, omega arith, omega arith, refl, refl) (from_loops (record c { k = 1 }))

from_checks : (c : Cert) → Finishes (at AtChecks c)
from_checks c = first_then (at AtChecks c) (at AtCopies (record c { overflow = false })) (checks_line false) (false, refl, refl) (from_copies (record c { overflow = false }))

from_kind : (c : Cert) → Finishes (at AtKind c)
from_kind c = first_then (at AtKind c) (at AtChecks (record c { kind = Safe })) (kind_line Safe) (Safe, refl, refl) (from_checks (record c { kind = Safe }))

-- where something is left, its number isn't 0
some_left : (P : ℕ → Type 0) (n : ℕ) → 1 ≤ n → ((m : ℕ) → P (suc m)) → P n
some_left P zero some f = absurd (omega (arith, some))
some_left P (suc m) some f = f m

pub finishes : (s : State) → Kept s → Finishes s
finishes s kept = go s.place s.cert kept
  where
    go : (place : _) (c : Cert) → Kept (at place c) → Finishes (at place c)
    go AtFirst c kept = first_then (at AtFirst c) (at AtKind c) first_line (refl, refl) (from_kind c)
    go AtKind c kept = from_kind c
    go AtChecks c kept = from_checks c
    go AtCopies c kept = from_copies c
    go AtLoops c kept = from_loops c
    go (AtLoop n) c kept = some_left (λ n. Finishes (at (AtLoop n) c)) n kept.0 (λ m. loops_finish (suc m) c)
    go (AtRow n m rows) c kept = some_left (λ m. Finishes (at (AtRow n m rows) c)) m kept.0 (λ r. rows_finish (suc r) n c rows)
    go (AtRanks n) c kept = left_finish Terminating n c (loops_finish n)
    go (AtRank n m forms) c kept = some_left (λ m. Finishes (at (AtRank n m forms) c)) m kept.0 (λ r. forms_finish (suc r) n c forms)
    go AtGoals c kept = goals_finish c
    go (AtGoal n) c kept = some_left (λ n. Finishes (at (AtGoal n) c)) n kept.0 (λ m. no_goal (suc m) c)
    go (AtStep n m steps) c kept = some_left (λ m. Finishes (at (AtStep n m steps) c)) m kept.0 (λ r. steps_finish (suc r) n c steps)
    go AtEnd c kept = no_goal 0 c
    go Done c kept = record { lines = []; cert = c; goes = refl }

-- some certificate begins with what was read
pub begins : (s : State) → Kept s → (c : Cert) × (more : List (List Word)) × InGrammar c × (file_lines c ≡ seen s ++ more)
begins s kept =
    let end = finishes s kept in
    let stands = goes_on_by s (at Done end.cert) end.lines kept end.goes in
    (end.cert, end.lines, stands.kept, stands.lines_are)
