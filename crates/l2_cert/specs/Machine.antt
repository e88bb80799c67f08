-- A certificate that is being read, line by line: what comes next, and what each line makes of it.
use Rattle.std.specs.Prelude.{◌≡◌, ◌⊎◌, ℕ, zero, suc, ◌^◌, ◌<◌, ◌≤◌, Bool, false, List, [], ◌∷◌, ◌++◌, length}
use Rattle.l2_cnf.specs.Steps.{Step}
use Rattle.l2_templates.specs.declared.form.Form.{Form}
use Rattle.l2_templates.specs.declared.form.Row.{Row}
use Rattle.l2_templates.specs.declared.point.LoopPoint.{LoopPoint}
use Rattle.l2_templates.specs.declared.point.LoopPoint.TheVariants.{Bottom, Rows}
use Rattle.l2_cert.specs.declared.cert.Cert.{Cert}
use Rattle.l2_cert.specs.declared.cert.CertKind.{CertKind}
use Rattle.l2_cert.specs.declared.cert.CertKind.TheVariants.{Safe, Terminating}
use Rattle.l2_cert.specs.Words.{Word}
use Rattle.l2_cert.specs.Certificate.{first_line, kind_line, checks_line, copies_line, loops_line, bottom_line, rows_line, row_line, ranks_line, rank_line, goals_line, goal_line, step_line, end_line, IsRow, IsForm, IsStep, RanksMay}

-- what the next line is to be
pub data Place : Type 0 where
  AtFirst : Place
  AtKind : Place
  AtChecks : Place
  AtCopies : Place
  AtLoops : Place
  -- a loop, the first of so many
  AtLoop : ℕ → Place
  -- behind a loop with so many to come: a row, the first of so many, behind these
  AtRow : ℕ → ℕ → List Row → Place
  AtRanks : ℕ → Place
  AtRank : ℕ → ℕ → List Form → Place
  AtGoals : Place
  AtGoal : ℕ → Place
  AtStep : ℕ → ℕ → List Step → Place
  AtEnd : Place
  Done : Place

pub record State : Type 0 where
  pub place : Place
  pub cert : Cert

abbrev pub at : Place → Cert → State
at place c = record { place = place; cert = c }

-- where nothing was read
abbrev pub nothing : Cert
nothing = record { kind = Safe; overflow = false; k = 0; point = []; ranks = []; goals = [] }

-- ---- where so many are to come

abbrev pub loops_left : ℕ → Place
loops_left zero = AtGoals
loops_left (suc n) = AtLoop (suc n)

abbrev pub ranks_left : CertKind → ℕ → Place
ranks_left Safe n = loops_left n
ranks_left Terminating n = AtRanks n

abbrev pub with_loop : ℕ → Cert → LoopPoint → State
with_loop n c p = at (ranks_left c.kind n) (record c { point = c.point ++ p ∷ [] })

abbrev pub rows_left : ℕ → Cert → ℕ → List Row → State
rows_left n c zero rows = with_loop n c (Rows rows)
rows_left n c (suc m) rows = at (AtRow n (suc m) rows) c

abbrev pub forms_left : ℕ → Cert → ℕ → List Form → State
forms_left n c zero forms = at (loops_left n) (record c { ranks = c.ranks ++ forms ∷ [] })
forms_left n c (suc m) forms = at (AtRank n (suc m) forms) c

abbrev pub goals_left : ℕ → Place
goals_left zero = AtEnd
goals_left (suc n) = AtGoal (suc n)

abbrev pub steps_left : ℕ → Cert → ℕ → List Step → State
steps_left n c zero steps = at (goals_left n) (record c { goals = c.goals ++ steps ∷ [] })
steps_left n c (suc m) steps = at (AtStep n (suc m) steps) c

-- ---- one line

-- the last of some loops
abbrev pub last_loop : List LoopPoint → LoopPoint
last_loop [] = Bottom
last_loop (p ∷ []) = p
last_loop (p ∷ q ∷ point) = last_loop (q ∷ point)

abbrev pub TakesBottom : ℕ → Cert → List Word → State → Type 0
TakesBottom m c line t = (line ≡ bottom_line (suc (length c.point))) × (t ≡ with_loop m c Bottom)

abbrev pub TakesRows : ℕ → Cert → List Word → State → Type 0
TakesRows m c line t = (r : ℕ) × (r < 2 ^ 32) × (line ≡ rows_line (suc (length c.point)) r) × (t ≡ rows_left m c r [])

-- from what is read, by one more line
abbrev pub Takes : Place → Cert → List Word → State → Type 0
Takes AtFirst c line t = (line ≡ first_line) × (t ≡ at AtKind c)
Takes AtKind c line t = (kind : CertKind) × (line ≡ kind_line kind) × (t ≡ at AtChecks (record c { kind = kind }))
Takes AtChecks c line t = (overflow : Bool) × (line ≡ checks_line overflow) × (t ≡ at AtCopies (record c { overflow = overflow }))
Takes AtCopies c line t = (k : ℕ) × (1 ≤ k) × (k ≤ 64) × (line ≡ copies_line k) × (t ≡ at AtLoops (record c { k = k }))
Takes AtLoops c line t = (n : ℕ) × (n < 2 ^ 32) × (line ≡ loops_line n) × (t ≡ at (loops_left n) c)
Takes (AtLoop n) c line t = (m : ℕ) × (n ≡ suc m) × (TakesBottom m c line t ⊎ TakesRows m c line t)
Takes (AtRow n r rows) c line t = (m : ℕ) × (row : Row) × (r ≡ suc m) × IsRow row × (line ≡ row_line row) × (t ≡ rows_left n c m (rows ++ row ∷ []))
Takes (AtRanks n) c line t = (m : ℕ) × (m < 2 ^ 32) × RanksMay (last_loop c.point) m × (line ≡ ranks_line (length c.point) m) × (t ≡ forms_left n c m [])
Takes (AtRank n r forms) c line t = (m : ℕ) × (f : Form) × (r ≡ suc m) × IsForm f × (line ≡ rank_line f) × (t ≡ forms_left n c m (forms ++ f ∷ []))
Takes AtGoals c line t = (n : ℕ) × (n < 2 ^ 32) × (line ≡ goals_line n) × (t ≡ at (goals_left n) c)
Takes (AtGoal n) c line t = (m r : ℕ) × (n ≡ suc m) × (r < 2 ^ 62) × (line ≡ goal_line (suc (length c.goals)) r) × (t ≡ steps_left m c r [])
Takes (AtStep n r steps) c line t = (m : ℕ) × (s : Step) × (r ≡ suc m) × IsStep s × (line ≡ step_line s) × (t ≡ steps_left n c m (steps ++ s ∷ []))
Takes AtEnd c line t = (line ≡ end_line) × (t ≡ at Done c)
Takes Done c line t = ⊥

abbrev pub Goes : State → List Word → State → Type 0
Goes s line t = Takes s.place s.cert line t

-- from what is read, by these lines
abbrev pub GoesBy : State → List (List Word) → State → Type 0
GoesBy s [] t = s ≡ t
GoesBy s (line ∷ lines) t = (mid : State) × Goes s line mid × GoesBy mid lines t
